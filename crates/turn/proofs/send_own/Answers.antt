-- `turn::send_own` meets its contract: the list is due where a position is owed it, else an offer.
use mathlib.Core.Path.{◌∙◌}
use Rattle.turn.proofs.Seen.{next_seen}
use Rattle.turn.proofs.Sending.{does_due, own_list, own_offer}
use Rattle.turn.proofs.send_own.Goals as goal

pub returns-then-owed-gt0 : goal.returns-then-owed-gt0
returns-then-owed-gt0 c = λ p co t s k.
    let args = c.args in
    let called = c.send_list in
    does_due called.result p co t args.out.now _ (own_list co t s.owed c.if-owed-gt0.true) (called.ensures p co t s k)

pub returns : goal.returns
returns c = λ p co t s k.
    let args = c.args in
    let called = c.send_offer in
    does_due called.result p co t args.out.now _ (own_offer co t s.owed c.if-owed-gt0.false (c.next_listed-board.ensures ∙ next_seen s k.0)) (called.ensures p co t s (k.1, k.2))
