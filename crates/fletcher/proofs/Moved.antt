-- A byte that is changed: the bytes beside it, and what becomes of the sums.
use Prim.Native.Nat.{ℕ, zero, suc, ◌+◌, ◌-◌, ◌*◌, ◌%◌, ◌<◌}
use native.Mathlib.Omega.{arith}
use native.Mathlib.Decide.{ℕ_discrete}
use native.Mathlib.Nat.{suc-mul, add-mul, mul-add}
use mathlib.Core.Path.{◌≡◌, sym, ap, ◌∙◌}
use mathlib.Core.Bool.{true}
use mathlib.Core.List.{List, [], ◌∷◌}
use lib.ListN.{length, get_or, length-set}
use lib.Seq.{get_or-set_same, get_or-set_other}
use Rattle.fletcher.specs.declared.Sums.{Sums}
use Rattle.fletcher.specs.Fletcher.{seed, added, sums_from, sums, is_good}
use Rattle.fletcher.specs.Caught.{moved, TwoMoved}
use Rattle.fletcher.proofs.Laws.{good_first, good_second, sums_good}
use Rattle.fletcher.proofs.Factors.{multiple}
use Rattle.fletcher.proofs.Shifted.{shifted, carried}

pub moved_length : (bs : List ℕ) (i t : ℕ) → length (moved bs i t) ≡ length bs
moved_length bs i t = length-set bs i ((get_or bs i 0 + t) % 255)

pub moved_there : (bs : List ℕ) (i t : ℕ) → i < length bs → get_or (moved bs i t) i 0 ≡ (get_or bs i 0 + t) % 255
moved_there bs i t l = get_or-set_same bs i ((get_or bs i 0 + t) % 255) 0 l

pub moved_elsewhere : (bs : List ℕ) (i t n : ℕ) → (n ≡ i → ⊥) → get_or (moved bs i t) n 0 ≡ get_or bs n 0
moved_elsewhere bs i t n ne = get_or-set_other bs i n ((get_or bs i 0 + t) % 255) 0 ne

pub moved_bytes : (bs : List ℕ) (i t : ℕ) → i < length bs → ((n : ℕ) → get_or bs n 0 < 256) → (n : ℕ) → get_or (moved bs i t) n 0 < 256
moved_bytes bs i t l h n = go (ℕ_discrete n i)
  where
    go : Dec (n ≡ i) → get_or (moved bs i t) n 0 < 256
    go (yes e) = rw (e, moved_there bs i t l) (omega arith)
    go (no ne) = rw (moved_elsewhere bs i t n ne) (h n)

moved_here : (s : Sums) (b t : ℕ) → added s ((b + t) % 255) ≡ shifted (added s b) t t
moved_here s b t = λ i. record { first = one i; second = two i }
  where
    one : (s.first + (b + t) % 255) % 255 ≡ ((s.first + b) % 255 + t) % 255
    one = omega arith

    two : (s.second + (s.first + (b + t) % 255) % 255) % 255 ≡ ((s.second + (s.first + b) % 255) % 255 + t) % 255
    two = rw one (omega arith)

moved_from : (s : Sums) (bs : List ℕ) (i r t : ℕ) → i < length bs → i + r ≡ length bs → sums_from s (moved bs i t) ≡ shifted (sums_from s bs) t (r * t)
unfolding sums_from
moved_from s [] i r t l q = absurd (let z : ⊥ = omega arith in z)
moved_from s (b ∷ bs) zero r t l q =
    ap (λ (u : Sums). sums_from u bs) (moved_here s b t) ∙ carried (added s b) t t bs
    ∙ ap (shifted (sums_from (added s b) bs) t) (rw (let n : r ≡ suc (length bs) = omega arith in n, suc-mul (length bs) t) (omega arith))
moved_from s (b ∷ bs) (suc i) r t l q = moved_from (added s b) bs i r t (omega arith) (omega arith)

-- A byte changed by t shifts the first sum by t, and the second by t for each of the r bytes from there on.
pub moved_shifts : (bs : List ℕ) (i r t : ℕ) → i < length bs → i + r ≡ length bs → sums (moved bs i t) ≡ shifted (sums bs) t (r * t)
moved_shifts bs i r t l q = moved_from seed bs i r t l q

-- where the first sum does not show two changes, the second shows d times the one, whatever number r of bytes is left
balance : (d r e k : ℕ) → (e + k) % 255 ≡ 0 → ((d + r) * e + r * k) % 255 ≡ (d * e) % 255
balance d r e k h = rw (add-mul d r e) (omega (arith, mul-add r e k, multiple r (e + k) h))

module _ (bs : List ℕ) (good : is_good bs ≡ true) (i d e k : ℕ) (l : i + d < length bs) where
  abbrev two : List ℕ
  two = moved (moved bs i e) (i + d) k

  abbrev r : ℕ
  r = length bs - (i + d)

  over : sums two ≡ shifted (shifted (sums bs) e ((d + r) * e)) k (r * k)
  over =
      moved_shifts (moved bs i e) (i + d) r k (rw (moved_length bs i e) l) (rw (moved_length bs i e) (omega (arith, l)))
      ∙ ap (λ (s : Sums). shifted s k (r * k)) (moved_shifts bs i (d + r) e (omega (arith, l)) (omega (arith, l)))

  first_is : (sums two).first ≡ (e + k) % 255
  first_is = ap (λ (s : Sums). s.first) over ∙ rw (good_first bs good) (omega arith)

  second_is : (sums two).second ≡ ((d + r) * e + r * k) % 255
  second_is = ap (λ (s : Sums). s.second) over ∙ rw (good_second bs good) (omega arith)

  two_stays : (e + k) % 255 ≡ 0 → (d * e) % 255 ≡ 0 → is_good two ≡ true
  two_stays u z = sums_good two (first_is ∙ u) (second_is ∙ balance d r e k u ∙ z)

  two_only : is_good two ≡ true → ((e + k) % 255 ≡ 0) × ((d * e) % 255 ≡ 0)
  two_only g = (undone, sym (balance d r e k undone) ∙ sym second_is ∙ good_second two g)
    where
      undone : (e + k) % 255 ≡ 0
      undone = sym first_is ∙ good_first two g

pub two_moved : TwoMoved
two_moved = record { stays = two_stays; only = two_only }
