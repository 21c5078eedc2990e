-- `turn::send_seek` meets its contract, part by part.
use mathlib.Core.Path.{ap}
use borrow.Author.Rules.{rules}
use Rattle.coordinator.specs.declared.Part.{Part}
use Rattle.steps.specs.Turn.{due_seek}
use Rattle.turn.proofs.Sending.{does_due, assign_due}
use Rattle.turn.proofs.send_seek.Goals as goal

pub returns-in-IdentifyDue : goal.returns-in-IdentifyDue
returns-in-IdentifyDue c = λ p co t s k.
    let args = c.args in
    let called = c.send_identify in
    does_due called.result p co t args.out.now _ (ap (λ (x : Part). due_seek x co t args.position) c.in-IdentifyDue.is) (called.ensures p co t s k)

pub returns-in_default : goal.returns-in_default
returns-in_default c = λ p co t s k.
    let args = c.args in
    let called = c.send_assign in
    does_due called.result p co t args.out.now _ (assign_due co t args.part args.position (search rules) c.requires) (called.ensures p co t s tt)
