-- `shared::serve` meets its contract: a slot that was found holds the record of the sector.
use mathlib.Core.Path.{ap, ◌∙◌}
use Rattle.std.specs.Prelude.{Err}
use Rattle.shared.specs.Looking.{told_held}
use Rattle.shared.proofs.Slots.{no_slot_at}
use Rattle.refusal.proofs.Numbers.{exit}
use Rattle.shared.proofs.Looking.{sizes, held_at, by_network_slot, by_factory_slot, by_nobody_there, unfit_served}
use Rattle.shared.proofs.serve.Goals as goal

pub returns-in_err-network : goal.returns-in_err-network
returns-in_err-network c =
    let e = c.in_err-network.ensures in
    ap told_held (exit _ _ c.from_residual.ensures.1) ∙ ap Err e.0 ∙ unfit_served _ _ _ (λ ok. e.1 ((sizes _ _).0 ok).0)

pub returns-in_err-factory : goal.returns-in_err-factory
returns-in_err-factory c =
    let e = c.in_err-factory.ensures in
    ap told_held (exit _ _ c.from_residual-in_err-factory.ensures.1) ∙ ap Err e.0 ∙ unfit_served _ _ _ (λ ok. e.1 ((sizes _ _).0 ok).1)

pub returns-in-Some : goal.returns-in-Some
returns-in-Some c =
    let n = c.in_ok-network.ensures in
    let f = c.in_ok-factory.ensures in
    let r = rw n.0 at c.record_at.ensures in
    rw r (by_network_slot _ _ _ (n.1, f.1) _ (held_at _ _ _ n.1 (rw n.0 at c.in-Some.ensures.lowest)))

pub returns-in-Some-slot_of : goal.returns-in-Some-slot_of
returns-in-Some-slot_of c =
    let n = c.in_ok-network.ensures in
    let f = c.in_ok-factory.ensures in
    let r = rw f.0 at c.record_at-in-Some-slot_of.ensures in
    rw r (by_factory_slot _ _ _ (n.1, f.1) _ (no_slot_at _ (rw n.0 at c.in_default.ensures.lowest)) (held_at _ _ _ f.1 (rw f.0 at c.in-Some-slot_of.ensures.lowest)))

pub returns : goal.returns
returns c =
    let n = c.in_ok-network.ensures in
    let f = c.in_ok-factory.ensures in
    by_nobody_there _ _ _ (n.1, f.1) (no_slot_at _ (rw n.0 at c.in_default.ensures.lowest)) (no_slot_at _ (rw f.0 at c.in_default-slot_of.ensures.lowest))
