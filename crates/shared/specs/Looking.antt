-- How the code looks for a slot, and for who serves a sector (house): what the functions behind the public ones promise each other.
use Rattle.std.specs.Prelude.{ℕ, ◌<◌, ◌≤◌, ◌≡◌, true, List, eqb, ltb, Option, Some, None, Result, Ok, Err}
use Rattle.std.specs.Option.{option_eq, option_map}
use Rattle.ground.specs.Choose.{choose}
use Rattle.refusal.specs.Refusal.{ruled}
use Rattle.refusal.specs.declared.Refusal.{Refusal}
use Rattle.shared.specs.declared.Found.{Found}
use Rattle.shared.specs.declared.Found.TheVariants.{Network, Factory}
use Rattle.shared.specs.declared.Held.{Held}
use Rattle.shared.specs.Image.{slots, sector_at, length_at, is_length, lowest, slot_of, has, record_of}
use Rattle.shared.specs.Holder.{both_rules}

-- a slot as an answer: none where its number is 0
abbrev pub numbered : ℕ → Option ℕ
numbered slot = choose (ltb 0 slot) (Some slot) None

-- whose record a slot holds: nobody's where it is free
unfoldable pub occupant : List ℕ → ℕ → Option ℕ
occupant image slot = choose (is_length (length_at image slot)) (Some (sector_at image slot)) None

-- the lowest slot with this occupant
abbrev pub lowest_with : List ℕ → Option ℕ → ℕ
lowest_with image who = lowest (λ slot. option_eq eqb (occupant image slot) who)

-- a slot is one of the forty, and holds a record
pub record HoldsRecord (image : List ℕ) (slot : ℕ) : Type 0 where
  pub from : 0 < slot
  pub within : slot ≤ slots
  pub fits : is_length (length_at image slot) ≡ true

-- who holds the record of a sector, and the record: the network's copy, or else the factory image
unfoldable pub one_served : List ℕ → List ℕ → ℕ → Option (Found × List ℕ)
one_served network factory sector =
    choose (has network sector) (Some (Network (slot_of network sector), record_of network sector))
    (choose (has factory sector) (Some (Factory (slot_of factory sector), record_of factory sector)) None)

-- the same, where both images have their size, or the refusal
unfoldable pub served : List ℕ → List ℕ → ℕ → Result (Option (Found × List ℕ)) Refusal
served network factory sector = ruled (both_rules network factory) Err (Ok (one_served network factory sector))

-- what an answer says of them
abbrev pub told_held : Result (Option Held) Refusal → Result (Option (Found × List ℕ)) Refusal
told_held (Ok held) = Ok (option_map (λ h. (h.found, h.bytes.now)) held)
told_held (Err q) = Err q

-- the slot of who holds a record
abbrev pub slot_in : Found → ℕ
slot_in (Network slot) = slot
slot_in (Factory slot) = slot
