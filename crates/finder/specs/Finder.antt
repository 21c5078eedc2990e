-- The frame finder (01, "Finder"; 02, C-14).
use Rattle.std.specs.Prelude.{ℕ, ◌+◌, ◌-◌, ◌<◌, ◌≡◌, min, Bool, true, false, ◌&&◌, Option, Some, None, List, [], ◌∷◌, length, take, drop, leb, ltb}
use Rattle.ground.specs.Choose.{choose}
use Rattle.ground.specs.Below.{first_or, up_from}
use Rattle.refusal.specs.Refusal.{Told}
use Rattle.fletcher.specs.Fletcher.{is_good}
use Rattle.frame.specs.Frame.{byte, takes_subnet}
use Rattle.finder.specs.declared.Finding.{Finding}
use Rattle.finder.specs.declared.Finding.TheVariants.{Found, Nothing, Spent}

-- a start has at least 12 bytes from it to the end: they are the numbers below this one
abbrev pub starts : List ℕ → ℕ
starts s = length s - 11

-- n, the length byte of a frame at start i
abbrev pub length_at : List ℕ → ℕ → ℕ
length_at s i = byte s (i + 9)

-- the subnet byte of a frame at start i
abbrev pub subnet_at : List ℕ → ℕ → ℕ
subnet_at s i = byte s (i + 2)

-- a start holds a good frame if its n is at most 240, 12 + n bytes are there, and they are good; a frame of another subnet is passed over "as if not good" (02, C-14)
unfoldable pub holds_frame : ℕ → List ℕ → ℕ → Bool
holds_frame ours s i =
    takes_subnet ours (subnet_at s i) &&
    (leb (length_at s i) 240 && (leb (12 + length_at s i) (length s - i) && is_good (take (12 + length_at s i) (drop i s))))

-- of the first n starts none holds a good frame, or this is the first that does (house)
abbrev pub IsFirst : ℕ → List ℕ → ℕ → Option ℕ → Type 0
IsFirst ours s n None = (j : ℕ) → j < n → holds_frame ours s j ≡ false
IsFirst ours s n (Some i) = (i < n) × (holds_frame ours s i ≡ true) × ((j : ℕ) → j < i → holds_frame ours s j ≡ false)

-- how many starts are tried at most
abbrev pub limit : List ℕ → ℕ → ℕ
limit s budget = min budget (starts s)

-- the first start within the budget that holds a good frame; the limit where none does
abbrev pub first_frame : ℕ → List ℕ → ℕ → ℕ
first_frame ours s budget = first_or (limit s budget) (holds_frame ours s) (up_from 0 (limit s budget))

-- Found: start, length, starts tried. The rule book numbers no finding, so each has its place in the rule book's sentence.
abbrev pub found : ℕ → ℕ → ℕ → Told
found start long tried = record { number = 1; values = start ∷ long ∷ tried ∷ [] }

-- Nothing: starts tried
abbrev pub nothing : ℕ → Told
nothing tried = record { number = 2; values = tried ∷ [] }

-- Spent: starts tried
abbrev pub spent : ℕ → Told
spent tried = record { number = 3; values = tried ∷ [] }

-- what the finder says: Found with the found start counted, Spent where starts remain past the budget, else Nothing
unfoldable pub finding : ℕ → List ℕ → ℕ → Told
finding ours s budget =
    choose (ltb (first_frame ours s budget) (limit s budget))
    (found (first_frame ours s budget) (12 + length_at s (first_frame ours s budget)) (first_frame ours s budget + 1))
    (choose (ltb budget (starts s)) (spent budget) (nothing (starts s)))

-- what a finding says
abbrev pub told : Finding → Told
told (Found start long tried) = found start long tried
told (Nothing tried) = nothing tried
told (Spent tried) = spent tried
