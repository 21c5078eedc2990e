-- The two sums over a frame's bytes and its check bytes (001, section 7; 01, "The frame").
use Rattle.std.specs.Prelude.{ℕ, ◌+◌, ◌-◌, ◌%◌, Bool, ◌&&◌, List, [], ◌∷◌, eqb}
use Rattle.ground.specs.Choose.{choose}
use Rattle.fletcher.specs.declared.Sums.{Sums}

-- the sums start at 170 and 0 (01, "The frame")
abbrev pub seed : Sums
seed = record { first = 170; second = 0 }

-- for each byte the first becomes (first + byte) mod 255, then the second (second + first) mod 255 (01, "The frame")
abbrev pub added : Sums → ℕ → Sums
added s b = record { first = (s.first + b) % 255; second = (s.second + (s.first + b) % 255) % 255 }

-- the sums s continued over bytes
unfoldable pub sums_from : Sums → List ℕ → Sums
sums_from s [] = s
sums_from s (b ∷ bs) = sums_from (added s b) bs

-- sums with the remainders taken (house)
abbrev pub reduced : ℕ → ℕ → Sums
reduced first second = record { first = first % 255; second = second % 255 }

-- the sums over bytes
abbrev pub sums : List ℕ → Sums
sums bs = sums_from seed bs

-- a frame is good when both sums over all its bytes are 0 (01, "The frame")
abbrev pub is_good : List ℕ → Bool
is_good bs = eqb (sums bs).first 0 && eqb (sums bs).second 0

-- the first check byte for the sums A and B over all before it: 255 - ((A + B) mod 255)
abbrev pub first_check : Sums → ℕ
first_check s = 255 - (s.first + s.second) % 255

-- the second: 255 - ((A + first check byte) mod 255)
abbrev pub second_check : Sums → ℕ
second_check s = 255 - (s.first + first_check s) % 255

-- the check bytes of bytes (01, "On writing")
abbrev pub check_bytes : List ℕ → List ℕ
check_bytes bs = first_check (sums bs) ∷ second_check (sums bs) ∷ []

-- a check byte as it is written: never 0, for which 255 stands (01, "A written check byte is never 0")
unfoldable pub never_zero : ℕ → ℕ
never_zero c = choose (eqb c 0) 255 c
