-- `turn::turn` meets its contract: each refusal and the transmission, by the tests on the way.
use mathlib.Core.Path.{refl, sym, ◌∙◌}
use lib.ListN.{length}
use Rattle.refusal.specs.declared.Refusal.TheVariants.{AwaitingReply, NobodyListed}
use Rattle.change.proofs.Making.{makes_refusal, shows_as}
use Rattle.look.proofs.Seeing.{stand_seen}
use Rattle.turn.proofs.Seen.{nobody_seen}
use Rattle.turn.proofs.Turns.{turn_awaiting, turn_nobody, turn_sends}
use Rattle.turn.proofs.turn.Goals as goal

pub returns-then-is_awaiting : goal.returns-then-is_awaiting
returns-then-is_awaiting c = λ p co t s k.
    let args = c.args in
    shows_as args.out.now _ (turn_awaiting co t (length args.out.now) s.fit (stand_seen s c.phase_of-phase.ensures) c.is_awaiting.ensures c.if-is_awaiting.true) (makes_refusal p co t AwaitingReply c.refusing.ensures, refl)

pub returns-then-seen-is_due : goal.returns-then-seen-is_due
returns-then-seen-is_due c = λ p co t s k.
    let args = c.args in
    shows_as args.out.now _ (turn_nobody co t (length args.out.now) s.fit (stand_seen s c.phase_of-phase.ensures) c.is_awaiting.ensures c.if-is_awaiting.false (nobody_seen s) c.is_due.ensures c.if-seen-is_due.true) (makes_refusal p co t NobodyListed c.refusing-then-seen-is_due.ensures, refl)

pub returns : goal.returns
returns c = λ p co t s k.
    let args = c.args in
    let called = c.send_due in
    let phase = stand_seen s c.phase_of-phase.ensures in
    shows_as args.out.now _ (turn_sends co t (length args.out.now) s.fit phase c.is_awaiting.ensures c.if-is_awaiting.false (nobody_seen s) c.is_due.ensures c.if-seen-is_due.false) (called.ensures p co t s (phase, k.0, k.1))
