-- `quiet::quiet` meets its contract: the cases of `Waits`.
use mathlib.Core.Path.{sym, ap, ◌∙◌}
use Rattle.refusal.specs.declared.Refusal.TheVariants.{NotWaiting}
use Rattle.board.specs.Table.{at}
use Rattle.coordinator.proofs.Phases.{waited_board}
use Rattle.steps.specs.declared.Answer.TheVariants.{Rest}
use Rattle.steps.specs.After.{shows}
use Rattle.steps.specs.Turn.{is_awaiting}
use Rattle.change.specs.declared.Edit.TheVariants.{Nothing}
use Rattle.change.proofs.Making.{makes_none, makes_refusal}
use Rattle.quiet.proofs.Waits.{no_wait, not_waiting, after_ack, unanswered, in_exchange}
use Rattle.look.proofs.Seeing.{stand_seen}
use borrow.Author.Rules.{rules}
use Rattle.quiet.proofs.quiet.Goals as goal

pub returns-in-Awaiting : goal.returns-in-Awaiting
returns-in-Awaiting c = λ p co t s k.
    makes_none p co t Nothing Rest 0 0 0 c.resting.ensures ∙
    sym (ap shows (after_ack co t s.fit (sym (stand_seen s c.phase_of.ensures) ∙ c.in-Awaiting.is) c.if-acked.true))

pub returns-in-Awaiting-2 : goal.returns-in-Awaiting-2
returns-in-Awaiting-2 c = λ p co t s k.
    let wait = sym (stand_seen s c.phase_of.ensures) ∙ c.in-Awaiting.is in
    c.missing.ensures p co t s (k.0, k.1 ∙ ap (at t) (sym (waited_board co.stand wait))) ∙ sym (ap shows (unanswered co t s.fit wait c.if-acked.false))

pub returns-in-Seeking : goal.returns-in-Seeking
returns-in-Seeking c = λ p co t s k. c.quieted.ensures p co t ∙ sym (ap shows (in_exchange co t s.fit (sym (stand_seen s c.phase_of.ensures) ∙ c.in-Seeking.is)))

pub returns-in_default : goal.returns-in_default
returns-in_default c = λ p co t s k.
    makes_refusal p co t NotWaiting c.refusing.ensures ∙
    sym (ap shows (not_waiting co t s.fit (ap is_awaiting (sym (stand_seen s c.phase_of.ensures)) ∙ no_wait c.phase_of.result (search rules))))
