-- `turn::send_due` meets its contract, phase by phase.
use mathlib.Core.Path.{sym, ap, ◌∙◌}
use borrow.Author.Rules.{rules}
use Rattle.coordinator.specs.declared.Phase.{Phase}
use Rattle.steps.specs.Turn.{due_in, is_awaiting}
use Rattle.turn.proofs.Seen.{forward_small, return_small}
use Rattle.turn.proofs.Sending.{does_due, own_due}
use Rattle.turn.proofs.send_due.Goals as goal

pub returns-in-ReturnDue : goal.returns-in-ReturnDue
returns-in-ReturnDue c = λ p co t s k.
    let args = c.args in
    let called = c.send_carried in
    let is = c.in-ReturnDue.is in
    does_due called.result p co t args.out.now _ (ap (λ (x : Phase). due_in x co t) is) (called.ensures p co t s ((k.1, return_small s (sym k.0 ∙ is)), k.2.2))

pub returns-in-ForwardDue : goal.returns-in-ForwardDue
returns-in-ForwardDue c = λ p co t s k.
    let args = c.args in
    let called = c.send_forward in
    let is = c.in-ForwardDue.is in
    does_due called.result p co t args.out.now _ (ap (λ (x : Phase). due_in x co t) is) (called.ensures p co t s ((k.1, forward_small s (sym k.0 ∙ is)), k.2.1, k.2.2))

pub returns-in-Seeking : goal.returns-in-Seeking
returns-in-Seeking c = λ p co t s k.
    let args = c.args in
    let called = c.send_seek in
    let is = c.in-Seeking.is in
    does_due called.result p co t args.out.now _ (ap (λ (x : Phase). due_in x co t) is) (called.ensures p co t s k.2.1)

pub returns-in_default : goal.returns-in_default
returns-in_default c = λ p co t s k.
    let args = c.args in
    let called = c.send_own in
    does_due called.result p co t args.out.now _ (own_due co t args.phase (search rules)) (called.ensures p co t s k.2)
