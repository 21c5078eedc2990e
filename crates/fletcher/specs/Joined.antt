-- Sums that can be joined (02, C-19): a run of bytes by itself, two runs put together, and the law, proved in proofs/Joined.antt.
use Rattle.std.specs.Prelude.{ℕ, ◌+◌, ◌*◌, ◌%◌, ◌<◌, ◌≡◌, Bool, ◌&&◌, List, [], ◌∷◌, ◌++◌, length, eqb}
use Rattle.fletcher.specs.declared.Sums.{Sums}
use Rattle.fletcher.specs.declared.Run.{Run}
use Rattle.fletcher.specs.Fletcher.{seed, sums_from, sums, first_check, second_check}

-- no byte is summed yet: a run by itself starts here, and not at the seed
abbrev pub none : Sums
none = record { first = 0; second = 0 }

-- a run of bytes: its sums by itself, and its length (02, C-19)
abbrev pub run_of : List ℕ → Run
run_of bs = record { first = (sums_from none bs).first; second = (sums_from none bs).second; length = length bs }

-- two runs put together, from "the sums of the first, the sums of the second and the second's length" (02, C-19)
abbrev pub joined : Run → Run → Run
joined a b =
    record {
      first = (a.first + b.first) % 255;
      second = (a.second + b.second + b.length * a.first) % 255;
      length = a.length + b.length;
    }

-- sums to go on from, as a run of no bytes
abbrev pub started : Sums → Run
started s = record { first = s.first; second = s.second; length = 0 }

-- the sums of a run
abbrev pub sums_of : Run → Sums
sums_of r = record { first = r.first; second = r.second }

-- the sums over bytes as they are published, with the seed, and the length
abbrev pub published : List ℕ → Run
published bs = record { first = (sums bs).first; second = (sums bs).second; length = length bs }

-- what takes the seed off again: 85 and the seed's 170 are 255
abbrev pub seed_off : Run
seed_off = record { first = 85; second = 0; length = 0 }

-- the law of joining (02, C-19)
pub record Joining : Type 0 where
  -- "the sums over two byte runs put together follow from the sums of the first, the sums of the second and the second's length"
  pub together : (xs ys : List ℕ) → run_of (xs ++ ys) ≡ joined (run_of xs) (run_of ys)
  -- "the law is associative"
  pub associative : (a b c : Run) → joined (joined a b) c ≡ joined a (joined b c)
  -- "with the empty run as its neutral element", among runs whose sums are below 255, as every run's of bytes are
  pub neutral_left : (r : Run) → r.first < 255 → r.second < 255 → joined (run_of []) r ≡ r
  pub neutral_right : (r : Run) → r.first < 255 → r.second < 255 → joined r (run_of []) ≡ r
  -- "and the seed enters once": before the first run, whatever is joined after it
  pub seed_once : (bs : List ℕ) → joined (started seed) (run_of bs) ≡ published bs
  pub seed_first : (xs ys : List ℕ) → published (xs ++ ys) ≡ joined (published xs) (run_of ys)
  -- so of two sums as they are published, the second's seed is taken off
  pub seed_twice : (xs ys : List ℕ) → published (xs ++ ys) ≡ joined (published xs) (joined seed_off (published ys))

-- the two check bytes for the sums over all before them (01, "On writing"): `check_bytes bs` are those of `sums bs`
abbrev pub closing : Sums → List ℕ
closing s = first_check s ∷ second_check s ∷ []

-- a run is a good frame's when both sums are 0 once the seed is joined before it (01, "The frame")
abbrev pub is_good_run : Run → Bool
is_good_run r = eqb (joined (started seed) r).first 0 && eqb (joined (started seed) r).second 0

-- the sums of a run with no remainder taken: in the second each byte counts once for itself and once for each byte after it (house)
unfoldable pub unreduced : List ℕ → Sums
unreduced [] = none
unreduced (b ∷ bs) =
    record {
      first = b + (unreduced bs).first;
      second = b + length bs * b + (unreduced bs).second;
    }
