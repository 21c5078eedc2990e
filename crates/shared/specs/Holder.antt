-- Which image serves a sector (02, C-16): "from the network's copy, or else from the factory image".
use Rattle.std.specs.Prelude.{ℕ, Bool, not, List, [], ◌∷◌, ◌++◌, length, eqb, Option, Some, None, Result}
use Rattle.ground.specs.Choose.{choose}
use Rattle.refusal.specs.Refusal.{Told, refuses, gives, says, ruled}
use Rattle.refusal.specs.declared.Refusal.{Refusal}
use Rattle.refusal.specs.declared.Refusal.TheVariants.{StateUnfit}
use Rattle.shared.specs.declared.Found.{Found}
use Rattle.shared.specs.declared.Found.TheVariants.{Network, Factory}
use Rattle.shared.specs.Image.{image_long, slot_of, has, record_of}

-- 22: "another image size gets 22" (02, C-16)
abbrev pub image_rules : List ℕ → List (Bool × Refusal)
image_rules image = (not (eqb (length image) image_long), StateUnfit) ∷ []

-- of both images (02, C-16)
abbrev pub both_rules : List ℕ → List ℕ → List (Bool × Refusal)
both_rules network factory = image_rules network ++ image_rules factory

-- the image that serves a sector: the network's copy where it has a record of it, else the factory image, whether it has one or not (02, C-16)
unfoldable pub serving : List ℕ → List ℕ → ℕ → List ℕ
serving network factory sector = choose (has network sector) network factory

-- its number: 1 the network's copy, 2 the factory image, 0 where neither has a record (house)
unfoldable pub holder_number : List ℕ → List ℕ → ℕ → ℕ
holder_number network factory sector = choose (has network sector) 1 (choose (has factory sector) 2 0)

-- what is said of who holds the record: the image's number and the slot, 0 where nobody does, or the refusal (02, C-16)
unfoldable pub holding : List ℕ → List ℕ → ℕ → Told
holding network factory sector =
    ruled (both_rules network factory) refuses
    (gives (holder_number network factory sector ∷ slot_of (serving network factory sector) sector ∷ []))

-- the record served, a part of the image that holds it; empty where nobody does, and on a refusal (02, C-16)
unfoldable pub record_in : List ℕ → List ℕ → ℕ → List ℕ
record_in network factory sector =
    ruled (both_rules network factory) (λ r. []) (record_of (serving network factory sector) sector)

-- the numbers of who holds a record: the image's and the slot, 0 and 0 where nobody does
abbrev pub found_values : Option Found → List ℕ
found_values None = 0 ∷ 0 ∷ []
found_values (Some (Network slot)) = 1 ∷ slot ∷ []
found_values (Some (Factory slot)) = 2 ∷ slot ∷ []

-- what an answer says
abbrev pub told_found : Result (Option Found) Refusal → Told
told_found = says found_values
