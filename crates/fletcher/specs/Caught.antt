-- What the checksum catches, and what slips through: statements about good frames (02, C-18), proved in proofs/Caught.antt and Slips.antt. docs/CHECKSUM.md has them for a field engineer.
use Rattle.std.specs.Prelude.{ℕ, ◌+◌, ◌*◌, ◌%◌, ◌≤◌, ◌<◌, ◌≡◌, ◌⊎◌, Bool, true, false, ◌&&◌, List, length, get_or, set, eqb, leb}
use Rattle.ground.specs.Below.{some}
use Rattle.fletcher.specs.Fletcher.{is_good}

-- a good frame of up to 252 bytes (02, C-18: "all frames of equal length up to 252 bytes")
pub record GoodFrame (bs : List ℕ) : Type 0 where
  pub within : length bs ≤ 252
  pub bytes : (n : ℕ) → get_or bs n 0 < 256
  pub good : is_good bs ≡ true

-- the frames have the same byte at place n
abbrev pub Same : List ℕ → List ℕ → ℕ → Type 0
Same xs ys n = get_or xs n 0 ≡ get_or ys n 0

-- at place n is 0 in one frame and 255 in the other
abbrev pub ZeroAnd255 : List ℕ → List ℕ → ℕ → Type 0
ZeroAnd255 xs ys n = ((get_or xs n 0 ≡ 0) × (get_or ys n 0 ≡ 255)) ⊎ ((get_or xs n 0 ≡ 255) × (get_or ys n 0 ≡ 0))

-- two good frames of equal length that differ nowhere but at places i and j
pub record GoodPair (xs ys : List ℕ) (i j : ℕ) : Type 0 where
  pub one : GoodFrame xs
  pub other : GoodFrame ys
  pub equal : length xs ≡ length ys
  pub elsewhere : (n : ℕ) → (n ≡ i → ⊥) → (n ≡ j → ⊥) → Same xs ys n

-- "then each differing byte is 0 in one frame and 255 in the other" (02, C-18)
abbrev pub OnlyZeroAnd255 : List ℕ → List ℕ → Type 0
OnlyZeroAnd255 xs ys = (n : ℕ) → (Same xs ys n → ⊥) → ZeroAnd255 xs ys n

-- "if two good frames differ in one byte only" (02, C-18)
abbrev pub OneByteCaught : Type 0
OneByteCaught = (xs ys : List ℕ) (i : ℕ) → GoodPair xs ys i i → OnlyZeroAnd255 xs ys

-- or in two bytes only, d places apart
abbrev pub Caught : ℕ → Type 0
Caught d = (xs ys : List ℕ) (i : ℕ) → GoodPair xs ys i (i + d) → OnlyZeroAnd255 xs ys

-- neighbouring bytes are one place apart
abbrev pub neighbouring : ℕ
neighbouring = 1

-- "or in two neighbouring bytes only" (02, C-18)
abbrev pub NeighboursCaught : Type 0
NeighboursCaught = Caught neighbouring

-- f is a factor of d and of 255, other than 1
abbrev pub is_common : ℕ → ℕ → Bool
is_common d f = leb 2 f && eqb (d % f) 0 && eqb (255 % f) 0

-- d has a factor in common with 255
abbrev pub shares_factor : ℕ → Bool
shares_factor d = some (is_common d) 256

-- the frames differ at place n, and not as 0 from 255
pub record Differ (xs ys : List ℕ) (n : ℕ) : Type 0 where
  pub unlike : Same xs ys n → ⊥
  pub otherwise : ZeroAnd255 xs ys n → ⊥

-- two good frames that differ so at both places, and nowhere else: the one can become the other and nothing is noticed
pub record Unnoticed (xs ys : List ℕ) (i j : ℕ) : Type 0 where
  pub pair : GoodPair xs ys i j
  pub first : Differ xs ys i
  pub second : Differ xs ys j

-- there is such another frame for every good frame and every two of its places that are d apart
abbrev pub SlipsThrough : ℕ → Type 0
SlipsThrough d = (xs : List ℕ) → GoodFrame xs → (i : ℕ) → i + d < length xs → (ys : List ℕ) × Unnoticed xs ys i (i + d)

-- Beyond what was asked: two bytes are caught wherever their distance has no factor in common with 255, and at no other distance within a frame.
pub record ExactLimit : Type 0 where
  pub caught : (d : ℕ) → shares_factor d ≡ false → Caught d
  pub slips : (d : ℕ) → 1 ≤ d → shares_factor d ≡ true → SlipsThrough d
  pub only : (d : ℕ) → 1 ≤ d → d < 252 → Caught d → shares_factor d ≡ false

-- the byte at place i changed by t, going round at 255
abbrev pub moved : List ℕ → ℕ → ℕ → List ℕ
moved bs i t = set bs i ((get_or bs i 0 + t) % 255)

-- Of two bytes d places apart, changed by e and by k: a good frame stays good exactly where the changes undo each other and d times the one is a multiple of 255.
pub record TwoMoved : Type 0 where
  pub stays : (bs : List ℕ) → is_good bs ≡ true → (i d e k : ℕ) → i + d < length bs → (e + k) % 255 ≡ 0 → (d * e) % 255 ≡ 0 → is_good (moved (moved bs i e) (i + d) k) ≡ true
  pub only : (bs : List ℕ) → is_good bs ≡ true → (i d e k : ℕ) → i + d < length bs → is_good (moved (moved bs i e) (i + d) k) ≡ true → ((e + k) % 255 ≡ 0) × ((d * e) % 255 ≡ 0)

-- three neighbours are not caught: wherever they stand in a good frame, one up, two down and one up leaves it good
abbrev pub ThreeSlipThrough : Type 0
ThreeSlipThrough = (bs : List ℕ) → is_good bs ≡ true → (i : ℕ) → i + 2 < length bs → is_good (moved (moved (moved bs i 1) (i + 1) 253) (i + 2) 1) ≡ true

-- 0 against 255 is never caught: with the one or the other at a place, bytes are good or not alike
abbrev pub ZeroFor255 : Type 0
ZeroFor255 = (bs : List ℕ) (i : ℕ) → is_good (set bs i 0) ≡ is_good (set bs i 255)
