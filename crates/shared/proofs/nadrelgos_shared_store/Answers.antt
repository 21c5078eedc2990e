-- `shared::nadrelgos_shared_store` meets its contract.
use native.Mathlib.Omega.{arith}
use mathlib.Core.Path.{ap, ◌∙◌}
use Rattle.refusal.specs.Refusal.{Told}
use Rattle.shared.specs.Numbers.{store_numbers}
use Rattle.shared.proofs.Laying.{stored_slot}
use Rattle.shared.proofs.Faces.{stored_told, unstored_told}
use Rattle.shared.proofs.nadrelgos_shared_store.Goals as goal

pub overflow_cast-result : goal.overflow_cast-result
overflow_cast-result c = let slot = stored_slot _ _ _ _ c.in-Ok.ensures.0 in omega (arith, slot)

pub start_of-requires : goal.start_of-requires
start_of-requires c = let slot = stored_slot _ _ _ _ c.in-Ok.ensures.0 in (omega (arith, slot), omega (arith, slot))

pub returns-in-Ok : goal.returns-in-Ok
returns-in-Ok c =
    let bytes = c.args.bytes.now in
    let did = c.in-Ok.ensures in
    rw c.start_of.ensures (stored_told _ bytes (stored_slot _ _ _ _ did.0).0 ∙ ap (λ (t : Told). store_numbers t bytes) did.0, did.1)

pub returns-in-Err : goal.returns-in-Err
returns-in-Err c =
    let bytes = c.args.bytes.now in
    let did = c.in-Err.ensures in
    (unstored_told _ c.in-Err.refusal bytes c.default.ensures c.number.ensures ∙ ap (λ (t : Told). store_numbers t bytes) did.0, did.1)
