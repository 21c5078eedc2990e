-- A loop that copies a list to the front of another.
use Prim.Native.Nat.{ℕ, zero, suc, ◌+◌, ◌≤◌, ◌<◌}
use native.Mathlib.Omega.{arith}
use native.Mathlib.Numerals.{add-one}
use mathlib.Core.Path.{◌≡◌, refl, ap, ◌∙◌}
use mathlib.Core.List.{List, [], ◌∷◌, ◌++◌, map, append-nil}
use lib.ListN.{length, get_or, set, take, drop, length-map, drop_of_length-le, get_or-map}
use lib.Seq.{take-length, take_all}
use borrow.Author.Rules.{rules}

pub front_none : (f o : List ℕ) → o ≡ take 0 f ++ drop 0 o
front_none f o = refl

module _ {A : Type 0} (d : A) where
  -- one element more is copied
  pub front_more : (f o : List A) (i : ℕ) → i < length f → length f ≤ length o → set (take i f ++ drop i o) i (get_or f i d) ≡ take (suc i) f ++ drop (suc i) o
  front_more [] o i h k = absurd (let z : ⊥ = omega arith in z)
  front_more (x ∷ f) [] i h k = absurd (let z : ⊥ = omega arith in z)
  front_more (x ∷ f) (y ∷ o) zero h k = refl
  front_more (x ∷ f) (y ∷ o) (suc i) h k = ap (λ (l : List A). x ∷ l) (front_more f o i (omega arith) (omega arith))

  -- and stands till then as it was
  pub front_next : (f o : List A) (i : ℕ) → i ≤ length f → i < length o → get_or (take i f ++ drop i o) i d ≡ get_or o i d
  front_next f o zero h l = refl
  front_next [] o (suc i) h l = absurd (let z : ⊥ = omega arith in z)
  front_next (x ∷ f) [] (suc i) h l = absurd (let z : ⊥ = omega arith in z)
  front_next (x ∷ f) (y ∷ o) (suc i) h l = front_next f o i (omega arith) (omega arith)

-- what both lists agree in is as it was, however much is copied
pub front_alike : {A B : Type 0} (g : A → B) (f o : List A) (i : ℕ) → map g f ≡ map g o → map g (take i f ++ drop i o) ≡ map g o
front_alike g f o zero e = refl
front_alike g [] [] (suc i) e = refl
front_alike g [] (y ∷ o) (suc i) e = absurd (let z : ⊥ = omega (arith, ap length e) in z)
front_alike g (x ∷ f) [] (suc i) e = absurd (let z : ⊥ = omega (arith, ap length e) in z)
front_alike {A} {B} g (x ∷ f) (y ∷ o) (suc i) e = λ j. ap (λ (l : List B). get_or l 0 (g x)) e j ∷ front_alike g f o i (ap (drop 1) e) j

pub front_step : (f o u : List ℕ) (i : ℕ) → u ≡ take i f ++ drop i o → i < length f → length f ≤ length o → set u i (get_or f i 0) ≡ take (i + 1) f ++ drop (i + 1) o
front_step f o u i e h k = rw (e, add-one) (front_more 0 f o i h k)

pub front_end : (f o u : List ℕ) (i : ℕ) → u ≡ take i f ++ drop i o → i ≤ length f → length f ≤ i → u ≡ f ++ drop (length f) o
front_end f o u i e h k = e ∙ rw (let q : i ≡ length f = omega arith in q) (rw (take-length f) refl)

-- what closes each need of such a loop
pub ruleset fronts = (rules, front_none, front_step, front_end)

-- a loop that writes what f makes of each element of a list over a list as long
module _ {A : Type 0} (f : A → ℕ) where
  pub made_step : (l : List A) (d : A) (o u : List ℕ) (i n : ℕ) → f d ≡ 0 → u ≡ take i (map f l) ++ drop i o → length l ≡ n → length o ≡ n → i < n → set u i (f (get_or l i d)) ≡ take (i + 1) (map f l) ++ drop (i + 1) o
  made_step l d o u i n z e a b h = rw (← get_or-map f l i d, z) (front_step (map f l) o u i e (rw length-map (omega arith)) (rw length-map (omega arith)))

  pub made_end : (l : List A) (o u : List ℕ) (i n : ℕ) → u ≡ take i (map f l) ++ drop i o → length l ≡ n → length o ≡ n → n ≤ i → u ≡ map f l
  made_end l o u i n e a b h = e ∙ rw (take_all i (map f l) (rw length-map (omega arith)), drop_of_length-le o {i = i} (omega arith), append-nil) refl
