-- The law of joined sums (02, C-19), from what becomes of sums that differ before a run (Shifted.antt).
use Prim.Native.Nat.{ℕ, ◌+◌, ◌*◌, ◌/◌, ◌%◌, ◌<◌}
use native.Mathlib.Omega.{arith}
use native.Mathlib.Nat.{mul-add, add-mul}
use mathlib.Core.Path.{◌≡◌, sym, ap, ◌∙◌}
use mathlib.Core.List.{List, [], ◌++◌}
use lib.ListN.{length, length-append}
use Rattle.fletcher.specs.declared.Sums.{Sums}
use Rattle.fletcher.specs.declared.Run.{Run}
use Rattle.fletcher.specs.Fletcher.{seed, sums_from, reduced}
use Rattle.fletcher.specs.Joined.{none, run_of, joined, started, sums_of, published, seed_off, Joining}
use Rattle.fletcher.proofs.Laws.{sums_append, Small, sums_small, seed_small, small_reduced}
use Rattle.fletcher.proofs.Factors.{multiple}
use Rattle.fletcher.proofs.Shifted.{shifted, carried}

-- a run of sums and a length
abbrev pub run : Sums → ℕ → Run
run s n = record { first = s.first; second = s.second; length = n }

-- sums continued over bytes: the run of the bytes joined to them
pub continued_joined : (s : Sums) (bs : List ℕ) → sums_from (reduced s.first s.second) bs ≡ sums_of (joined (started s) (run_of bs))
continued_joined s bs = ap (λ (t : Sums). sums_from t bs) start ∙ carried none s.first s.second bs ∙ λ i. record { first = one i; second = two i }
  where
    f : ℕ
    f = (sums_from none bs).first

    g : ℕ
    g = (sums_from none bs).second

    start : reduced s.first s.second ≡ shifted none s.first s.second
    start = λ i. reduced ((let e : s.first ≡ 0 + s.first = omega arith in e) i) ((let e : s.second ≡ 0 + s.second = omega arith in e) i)

    one : (f + s.first) % 255 ≡ (s.first + f) % 255
    one = ap (λ (x : ℕ). x % 255) (omega arith)

    two : (g + (s.second + length bs * s.first)) % 255 ≡ (s.second + g + length bs * s.first) % 255
    two = ap (λ (x : ℕ). x % 255) (omega arith)

-- whatever the sums before it, below 255, a run is joined to them
put_together : (s : Sums) (xs ys : List ℕ) → Small s → run (sums_from s (xs ++ ys)) (length (xs ++ ys)) ≡ joined (run (sums_from s xs) (length xs)) (run_of ys)
put_together s xs ys h = λ i. run (over i) (length-append xs ys i)
  where
    over : sums_from s (xs ++ ys) ≡ sums_of (joined (started (sums_from s xs)) (run_of ys))
    over =
        sums_append s xs ys ∙ ap (λ (t : Sums). sums_from t ys) (sym (small_reduced (sums_from s xs) (sums_small s xs h).first (sums_small s xs h).second))
        ∙ continued_joined (sums_from s xs) ys

none_small : Small none
none_small = record { first = omega arith; second = omega arith }

-- a multiple of a remainder by 255
pub rest_times : (x n y : ℕ) → (x + n * (y % 255)) % 255 ≡ (x + n * y) % 255
rest_times x n y = omega (arith, multiple n (y / 255 * 255) (omega arith), ap (λ (z : ℕ). n * z) (let e : y ≡ y / 255 * 255 + y % 255 = omega arith in e) ∙ mul-add n (y / 255 * 255) (y % 255))

associative : (a b c : Run) → joined (joined a b) c ≡ joined a (joined b c)
associative a b c = λ i. record { first = one i; second = two i; length = three i }
  where
    one : ((a.first + b.first) % 255 + c.first) % 255 ≡ (a.first + (b.first + c.first) % 255) % 255
    one = omega arith

    flat : ℕ
    flat = a.second + b.second + c.second + b.length * a.first + c.length * a.first + c.length * b.first

    left : ((a.second + b.second + b.length * a.first) % 255 + c.second + c.length * ((a.first + b.first) % 255)) % 255 ≡ flat % 255
    left =
        rest_times ((a.second + b.second + b.length * a.first) % 255 + c.second) c.length (a.first + b.first)
        ∙ rw (mul-add c.length a.first b.first) (omega arith)

    right : (a.second + (b.second + c.second + c.length * b.first) % 255 + (b.length + c.length) * a.first) % 255 ≡ flat % 255
    right = rw (add-mul b.length c.length a.first) (omega arith)

    two : ((a.second + b.second + b.length * a.first) % 255 + c.second + c.length * ((a.first + b.first) % 255)) % 255 ≡ (a.second + (b.second + c.second + c.length * b.first) % 255 + (b.length + c.length) * a.first) % 255
    two = left ∙ sym right

    three : a.length + b.length + c.length ≡ a.length + (b.length + c.length)
    three = omega arith

neutral_left_lem : (r : Run) → r.first < 255 → r.second < 255 → joined (run_of []) r ≡ r
unfolding sums_from
neutral_left_lem r h l = λ i. record { first = one i; second = two i; length = three i }
  where
    one : (0 + r.first) % 255 ≡ r.first
    one = omega arith

    two : (0 + r.second + r.length * 0) % 255 ≡ r.second
    two = omega arith

    three : 0 + r.length ≡ r.length
    three = omega arith

neutral_right_lem : (r : Run) → r.first < 255 → r.second < 255 → joined r (run_of []) ≡ r
unfolding sums_from
neutral_right_lem r h l = λ i. record { first = one i; second = two i; length = three i }
  where
    one : (r.first + 0) % 255 ≡ r.first
    one = omega arith

    two : (r.second + 0 + 0 * r.first) % 255 ≡ r.second
    two = omega arith

    three : r.length + 0 ≡ r.length
    three = omega arith

pub seed_once_lem : (bs : List ℕ) → joined (started seed) (run_of bs) ≡ published bs
unfolding sums_from
seed_once_lem bs = sym (put_together seed [] bs seed_small)

-- the seed taken off leaves the run by itself
seed_off_lem : (bs : List ℕ) → joined seed_off (published bs) ≡ run_of bs
unfolding sums_from
seed_off_lem bs =
    ap (joined seed_off) (sym (seed_once_lem bs)) ∙ sym (associative seed_off (started seed) (run_of bs))
    ∙ neutral_left_lem (run_of bs) (sums_small none bs none_small).first (sums_small none bs none_small).second

-- The law: runs join, in any grouping, with the empty run neutral and the seed once.
pub joining : Joining
joining =
    record {
      together = λ xs ys. put_together none xs ys none_small;
      associative = associative;
      neutral_left = neutral_left_lem;
      neutral_right = neutral_right_lem;
      seed_once = seed_once_lem;
      seed_first = λ xs ys. put_together seed xs ys seed_small;
      seed_twice = λ xs ys. put_together seed xs ys seed_small ∙ ap (joined (published xs)) (sym (seed_off_lem ys));
    }
