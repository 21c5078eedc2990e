-- `turn::send_assign` meets its contract, by the law of what a transmission shows.
use mathlib.Core.Path.{refl}
use Rattle.message.specs.Message.{assignment}
use Rattle.message.proofs.Messages.{assignment_small}
use Rattle.steps.specs.Turn.{due_assign}
use Rattle.change.specs.declared.Edit.TheVariants.{Nothing}
use Rattle.change.proofs.Making.{edits_none}
use Rattle.turn.proofs.Sending.{does_sent}
use Rattle.turn.proofs.send_assign.Goals as goal

pub returns : goal.returns
returns c = λ p co t s k.
    let args = c.args in
    let wrote = c.write_assign-writing in
    does_sent (due_assign co t args.position) p co t args.out.now _ (assignment_small co.setup args.position co.found.version co.found.mac co.found.session) wrote.result _ 0 Nothing _ c.sent.ensures c.seeking-next.ensures refl (edits_none t Nothing) refl wrote.ensures refl (λ i. assignment (s.setup i) args.position (s.state i).found.version (s.state i).found.mac (s.state i).found.session)
