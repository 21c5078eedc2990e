-- A number is one of a list: where it stands, what one element more and one element changed make of it.
use Prim.Native.Nat.{ℕ, zero, suc, ◌+◌, ◌≤◌, ◌<◌}
use native.Mathlib.Omega.{arith}
use native.Mathlib.Numerals.{add-one}
use native.Mathlib.Decide.{ℕ_discrete, dec_lt}
use mathlib.Core.Path.{◌≡◌, refl, sym, ap, ◌∙◌}
use mathlib.Core.Logic.{◌⊎◌, inl, inr}
use mathlib.Core.Bool.{Bool, true, false, ◌||◌, false≢true}
use mathlib.Core.List.{List, [], ◌∷◌, ◌++◌}
use lib.Dec.{eqb}
use lib.ListN.{length, get_or, set, take, length-set, get_or-eq_default}
use lib.Seq.{get_or-set_same, get_or-set_other, take-suc}
use borrow.Author.Tests.{eqb-true, eq-eqb}
use Rattle.ground.specs.Below.{among}
use Rattle.ground.proofs.Choices.{or_left, or_right, or_none, either}

-- what is one of a list stands somewhere in it
pub member_at : (x : ℕ) (l : List ℕ) → among x l ≡ true → (i : ℕ) × (i < length l) × (get_or l i 0 ≡ x)
unfolding among
member_at x [] h = absurd (false≢true h)
member_at x (y ∷ l) h = go (member_at x l) (either (eqb x y) (among x l) h)
  where
    go : (among x l ≡ true → (i : ℕ) × (i < length l) × (get_or l i 0 ≡ x)) → (eqb x y ≡ true) ⊎ (among x l ≡ true) → (i : ℕ) × (i < length (y ∷ l)) × (get_or (y ∷ l) i 0 ≡ x)
    go r (inl e) = (0, omega arith, sym (eqb-true x y e))
    go r (inr later) = (suc (r later).0, omega (arith, (r later).1), (r later).2)

-- and what stands somewhere in it is one of it
pub member_of : (l : List ℕ) (i : ℕ) → i < length l → among (get_or l i 0) l ≡ true
unfolding among
member_of [] i h = absurd (let z : ⊥ = omega arith in z)
member_of (y ∷ l) zero h = or_left (eqb y y) (among y l) (eq-eqb y y refl)
member_of (y ∷ l) (suc i) h = or_right (eqb (get_or l i 0) y) (among (get_or l i 0) l) (member_of l i (omega arith))

-- what is not 0 stands in the list itself, not past its end
pub member_stands : (l : List ℕ) (i k : ℕ) → 0 < k → get_or l i 0 ≡ k → among k l ≡ true
member_stands l i k p e = go (dec_lt i (length l))
  where
    go : Dec (i < length l) → among k l ≡ true
    go (yes h) = ap (λ (x : ℕ). among x l) (sym e) ∙ member_of l i h
    go (no h) = absurd (let z : ⊥ = omega (arith, p, e, get_or-eq_default l 0 (let q : length l ≤ i = omega (arith, h) in q)) in z)

-- one element more, at the end
pub member_last : (l : List ℕ) (y x : ℕ) → among x (l ++ y ∷ []) ≡ (among x l || eqb x y)
unfolding among
member_last [] y x = or_none (eqb x y)
member_last (z ∷ l) y x = ap (λ (b : Bool). eqb x z || b) (member_last l y x) ∙ go (eqb x z) (among x l) (eqb x y)
  where
    go : (a b c : Bool) → (a || (b || c)) ≡ (a || b || c)
    go true b c = refl
    go false b c = refl

pub member_more : (x : ℕ) (l : List ℕ) (i : ℕ) → i < length l → among x (take (i + 1) l) ≡ (among x (take i l) || eqb x (get_or l i 0))
member_more x l i h = ap (λ (n : ℕ). among x (take n l)) (add-one i) ∙ ap (among x) (take-suc l i 0 h) ∙ member_last (take i l) (get_or l i 0) x

-- what is put into a list is one of it
pub member_put : (l : List ℕ) (i v : ℕ) → i < length l → among v (set l i v) ≡ true
member_put l i v h = ap (λ (x : ℕ). among x (set l i v)) (sym (get_or-set_same l i v 0 h)) ∙ member_of (set l i v) i (omega (arith, length-set l i v, h))

-- a member that does not stand where another is put stays one
pub member_stays : (l : List ℕ) (i v x : ℕ) → (get_or l i 0 ≡ x → ⊥) → among x l ≡ true → among x (set l i v) ≡ true
member_stays l i v x other h =
    let found = member_at x l h in
    let here : get_or (set l i v) found.0 0 ≡ x = get_or-set_other l i found.0 v 0 (λ e. other (ap (λ (j : ℕ). get_or l j 0) (sym e) ∙ found.2)) ∙ found.2 in
    ap (λ (y : ℕ). among y (set l i v)) (sym here) ∙ member_of (set l i v) found.0 (omega (arith, length-set l i v, found.1))

-- a member of a list into which v was put is v, or stands elsewhere in it
elsewhere : (l : List ℕ) (i v x : ℕ) → among x (set l i v) ≡ true → (x ≡ v) ⊎ ((j : ℕ) × (j < length l) × (j ≡ i → ⊥) × (get_or l j 0 ≡ x))
elsewhere l i v x h = go (ℕ_discrete found.0 i)
  where
    found : (j : ℕ) × (j < length (set l i v)) × (get_or (set l i v) j 0 ≡ x)
    found = member_at x (set l i v) h

    within : found.0 < length l
    within = omega (arith, found.1, length-set l i v)

    go : Dec (found.0 ≡ i) → (x ≡ v) ⊎ ((j : ℕ) × (j < length l) × (j ≡ i → ⊥) × (get_or l j 0 ≡ x))
    go (yes e) = inl (sym found.2 ∙ ap (λ (j : ℕ). get_or (set l i v) j 0) e ∙ get_or-set_same l i v 0 (omega (arith, e, within)))
    go (no ne) = inr (found.0, within, ne, sym (get_or-set_other l i found.0 v 0 ne) ∙ found.2)

-- so it is v, or a member of the list as it was
pub member_was : (l : List ℕ) (i v x : ℕ) → among x (set l i v) ≡ true → (x ≡ v) ⊎ (among x l ≡ true)
member_was l i v x h = go (elsewhere l i v x h)
  where
    go : (x ≡ v) ⊎ ((j : ℕ) × (j < length l) × (j ≡ i → ⊥) × (get_or l j 0 ≡ x)) → (x ≡ v) ⊎ (among x l ≡ true)
    go (inl e) = inl e
    go (inr (j, within, ne, e)) = inr (ap (λ (y : ℕ). among y l) (sym e) ∙ member_of l j within)
