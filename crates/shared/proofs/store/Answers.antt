-- `shared::store` meets its contract: the slot lies in the image, and what is laid there is the slot's new front.
use native.Mathlib.Omega.{arith}
use mathlib.Core.Path.{◌≡◌, refl, sym, ◌∙◌}
use lib.ListN.{length}
use borrow.Author.Tests.{eq-eqb, ne_eqb, ltb-false}
use Rattle.ground.specs.Choose.{choose}
use Rattle.refusal.specs.declared.Refusal.TheVariants.{NoSlot}
use Rattle.shared.specs.Store.{taken, storing, stored}
use Rattle.shared.proofs.Slots.{length_within, some_slot, no_slot_at}
use Rattle.refusal.proofs.Numbers.{exit}
use Rattle.shared.proofs.Laying.{taken_within, head_laid, slot_laid}
use Rattle.ground.proofs.Choices.{not_yes, not_no}
use Rattle.shared.proofs.store.Goals as goal

pub returns-in_err-image : goal.returns-in_err-image
unfolding storing stored choose
returns-in_err-image c = let e = c.in_err-image.ensures in rw (exit _ _ c.from_residual.ensures.1, e.0, ne_eqb _ _ e.1) (refl, refl)

pub returns-then-not-is_length : goal.returns-then-not-is_length
unfolding storing stored choose
returns-then-not-is_length c = rw (eq-eqb _ _ c.in_ok-image.ensures.1, sym c.is_length.ensures, not_yes _ c.if-not-is_length.true) (refl, refl)

pub returns-in_err-slot : goal.returns-in_err-slot
unfolding storing stored choose
returns-in_err-slot c =
    let image = c.in_ok-image.ensures in
    let none = no_slot_at _ (sym c.in_err-slot.ensures.ok_part ∙ (rw image.0 at c.taken.ensures.number)) in
    let value = rw c.in_err-slot.ensures.ok_part at c.in_err-slot.ensures.value in
    let is : c.in_err-slot.field-0.0 ≡ NoSlot = cc in
    rw (exit _ _ c.from_residual-in_err-slot.ensures.1, is, eq-eqb _ _ image.1, sym c.is_length.ensures, not_no _ c.if-not-is_length.false, eq-eqb (taken c.args.network.now c.args.sector) 0 (omega (arith, ltb-false _ _ none))) (refl, refl)

pub returns : goal.returns
unfolding storing stored choose
returns c =
    let args = c.args in
    let image = c.in_ok-image.ensures in
    let small = length_within (length args.bytes.now) (sym c.is_length.ensures ∙ c.if-not-is_length.false) in
    let slot = some_slot _ _ (sym c.in_ok-slot.ensures.ok_part ∙ (rw image.0 at c.taken.ensures.number)) in
    let within = rw slot.0 at (taken_within args.network.now args.sector) in
    rw (eq-eqb _ _ image.1, sym c.is_length.ensures, not_no _ c.if-not-is_length.false, slot.0, ne_eqb c.in_ok-slot.slot 0 (omega (arith, slot.1)))
    (refl, slot_laid args.network.now _ _ c.in_ok-slot.slot args.sector args.bytes.now image.1 slot.1 within small.1 (rw c.start_of-start.ensures at c.lay.ensures) (head_laid _ c.start_of-start.result _ args.sector (length args.bytes.now) c.start_of-start.ensures (omega (arith, image.1, within, slot.1, c.lay.auto.out))))
