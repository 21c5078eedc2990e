-- Storing a record in the network's copy (003, 5.10; 02, C-16).
use Rattle.std.specs.Prelude.{ℕ, ◌≤◌, ◌≡◌, Bool, true, not, List, [], ◌∷◌, ◌++◌, length, eqb, Result}
use Rattle.std.proofs.Math.Seq.{paste}
use Rattle.ground.specs.Choose.{choose}
use Rattle.refusal.specs.Refusal.{Told, refuses, gives, says, ruled}
use Rattle.refusal.specs.declared.Refusal.{Refusal}
use Rattle.refusal.specs.declared.Refusal.TheVariants.{BadLength, NoSlot}
use Rattle.shared.specs.Image.{slots, start_of, sector_at, length_at, is_length, slot_of, free_slot, has}
use Rattle.shared.specs.Holder.{image_rules}

-- the slot that is taken: the sector's own, "storing replaces the record of that sector", else the lowest free one; 0 where there is neither (02, C-16)
unfoldable pub taken : List ℕ → ℕ → ℕ
taken network sector = choose (has network sector) (slot_of network sector) (free_slot network)

-- "a new sector finds 40 in use": every slot has a record, and none this sector's (02, C-16)
abbrev pub InUse : List ℕ → ℕ → Type 0
InUse network sector =
    (slot : ℕ) → 1 ≤ slot → slot ≤ slots → (is_length (length_at network slot) ≡ true) × (sector_at network slot ≡ sector → ⊥)

-- when it is refused: 22, then 26 "for a length outside 6 to 200", then 27 "when a new sector finds 40 in use" (02, C-16)
abbrev pub store_rules : List ℕ → ℕ → List ℕ → List (Bool × Refusal)
store_rules network sector bytes =
    image_rules network ++
    (not (is_length (length bytes)), BadLength) ∷
    (eqb (taken network sector) 0, NoSlot) ∷ []

-- what is said of it: the slot, or the refusal (02, C-16)
unfoldable pub storing : List ℕ → ℕ → List ℕ → Told
storing network sector bytes = ruled (store_rules network sector bytes) refuses (gives (taken network sector ∷ []))

-- what is written: "sector, length, record" (02, C-16)
abbrev pub slot_bytes : ℕ → List ℕ → List ℕ
slot_bytes sector bytes = sector ∷ length bytes ∷ bytes

-- an image with that written over a slot from its first byte on; all other bytes stay (02, C-16)
abbrev pub put_in : List ℕ → ℕ → List ℕ → List ℕ
put_in image slot bytes = paste image (start_of slot) bytes (length bytes)

-- the image that is left; a refusal changes nothing (02, C-16)
unfoldable pub stored : List ℕ → ℕ → List ℕ → List ℕ
stored network sector bytes =
    ruled (store_rules network sector bytes) (λ r. network) (put_in network (taken network sector) (slot_bytes sector bytes))

-- what an answer says
abbrev pub told_stored : Result ℕ Refusal → Told
told_stored = says (λ slot. slot ∷ [])
