-- `turn::send_forward` meets its contract: the column tells the index.
use mathlib.Core.Path.{sym, ap, ◌∙◌}
use Rattle.coordinator.specs.declared.Exchange.TheVariants.{Forward}
use Rattle.steps.specs.Turn.{due_carried}
use Rattle.look.proofs.Seeing.{index_seen}
use Rattle.turn.proofs.Sending.{does_due}
use Rattle.turn.proofs.send_forward.Goals as goal

pub returns : goal.returns
returns c = λ p co t s k.
    let args = c.args in
    let called = c.send_carried in
    does_due called.result p co t args.out.now _ (ap (due_carried co t args.board Forward args.requester) (sym (c.byte_at-index.ensures ∙ index_seen s k.1 args.requester))) (called.ensures p co t s (k.0, k.2))
