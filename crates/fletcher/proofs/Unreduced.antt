-- Runs with no remainder taken: the law of joining holds of them as well, and they tell what the sums tell.
use Prim.Native.Nat.{ℕ, ◌+◌, ◌*◌, ◌%◌}
use native.Mathlib.Omega.{arith}
use native.Mathlib.Nat.{mul-add, add-mul}
use mathlib.Core.Path.{◌≡◌, refl, ap, ◌∙◌}
use mathlib.Core.Bool.{◌&&◌}
use mathlib.Core.List.{List, [], ◌∷◌, ◌++◌}
use lib.ListN.{length, length-append}
use lib.Dec.{eqb}
use Rattle.fletcher.specs.declared.Sums.{Sums}
use Rattle.fletcher.specs.declared.Run.{Run}
use Rattle.fletcher.specs.Fletcher.{added, sums_from, reduced, sums, is_good}
use Rattle.fletcher.specs.Joined.{none, run_of, joined, started, sums_of, is_good_run, unreduced}
use Rattle.fletcher.proofs.Joined.{run, continued_joined, seed_once_lem}

-- two of them put together
abbrev pub together : Sums → Sums → ℕ → Sums
together s t n = record { first = s.first + t.first; second = s.second + t.second + n * s.first }

byte_before : (x : ℕ) (xs ys : List ℕ) → unreduced (xs ++ ys) ≡ together (unreduced xs) (unreduced ys) (length ys) → unreduced (x ∷ (xs ++ ys)) ≡ together (unreduced (x ∷ xs)) (unreduced ys) (length ys)
unfolding unreduced
byte_before x xs ys again = λ i. record { first = one i; second = two i }
  where
    one : x + (unreduced (xs ++ ys)).first ≡ x + (unreduced xs).first + (unreduced ys).first
    one = omega (arith, ap (λ (s : Sums). s.first) again)

    two : x + length (xs ++ ys) * x + (unreduced (xs ++ ys)).second ≡ x + length xs * x + (unreduced xs).second + (unreduced ys).second + length ys * (x + (unreduced xs).first)
    two =
        rw (length-append xs ys, add-mul (length xs) (length ys) x, mul-add (length ys) x (unreduced xs).first)
        (omega (arith, ap (λ (s : Sums). s.second) again))

-- the law: the sums of two runs put together
pub unreduced_append : (xs ys : List ℕ) → unreduced (xs ++ ys) ≡ together (unreduced xs) (unreduced ys) (length ys)
unfolding unreduced
unreduced_append [] ys = λ i. record { first = one i; second = two i }
  where
    one : (unreduced ys).first ≡ 0 + (unreduced ys).first
    one = omega arith

    two : (unreduced ys).second ≡ 0 + (unreduced ys).second + length ys * 0
    two = omega arith
unreduced_append (x ∷ xs) ys = byte_before x xs ys (unreduced_append xs ys)

own_byte : (b : ℕ) → added none b ≡ reduced b b
own_byte b = λ i. record { first = one i; second = two i }
  where
    one : (0 + b) % 255 ≡ b % 255
    one = omega arith

    two : (0 + (0 + b) % 255) % 255 ≡ b % 255
    two = omega arith

byte_summed : (b : ℕ) (bs : List ℕ) → sums_from none bs ≡ reduced (unreduced bs).first (unreduced bs).second → sums_of (joined (started (record { first = b; second = b })) (run_of bs)) ≡ reduced (unreduced (b ∷ bs)).first (unreduced (b ∷ bs)).second
unfolding unreduced
byte_summed b bs again = λ i. record { first = one i; second = two i }
  where
    one : (b + (sums_from none bs).first) % 255 ≡ (b + (unreduced bs).first) % 255
    one = omega (arith, ap (λ (s : Sums). s.first) again)

    two : (b + (sums_from none bs).second + length bs * b) % 255 ≡ (b + length bs * b + (unreduced bs).second) % 255
    two = omega (arith, ap (λ (s : Sums). s.second) again)

-- the sums of a run are the remainders of these
unreduced_sums : (bs : List ℕ) → sums_from none bs ≡ reduced (unreduced bs).first (unreduced bs).second
unfolding sums_from unreduced
unreduced_sums [] = refl
unreduced_sums (b ∷ bs) =
    ap (λ (t : Sums). sums_from t bs) (own_byte b) ∙ continued_joined (record { first = b; second = b }) bs
    ∙ byte_summed b bs (unreduced_sums bs)

-- whether a run is a good frame's is told by them as well
pub good_unreduced : (bs : List ℕ) → is_good_run (run (unreduced bs) (length bs)) ≡ is_good bs
good_unreduced bs = λ i. eqb (one i) 0 && eqb (two i) 0
  where
    own : sums_from none bs ≡ reduced (unreduced bs).first (unreduced bs).second
    own = unreduced_sums bs

    one : (170 + (unreduced bs).first) % 255 ≡ (sums bs).first
    one = let e : (170 + (unreduced bs).first) % 255 ≡ (170 + (sums_from none bs).first) % 255 = omega (arith, ap (λ (s : Sums). s.first) own) in e ∙ ap (λ (r : Run). r.first) (seed_once_lem bs)

    two : (0 + (unreduced bs).second + length bs * 170) % 255 ≡ (sums bs).second
    two = let e : (0 + (unreduced bs).second + length bs * 170) % 255 ≡ (0 + (sums_from none bs).second + length bs * 170) % 255 = omega (arith, ap (λ (s : Sums). s.second) own) in e ∙ ap (λ (r : Run). r.second) (seed_once_lem bs)
