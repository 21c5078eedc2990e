-- The laws of the first number that passes a test, and what closes each need of a loop that looks for it.
use Prim.Native.Nat.{ℕ, zero, suc, ◌+◌, ◌-◌, ◌≤◌, ◌<◌}
use native.Mathlib.Omega.{arith}
use native.Mathlib.Decide.{ℕ_discrete, dec_lt}
use mathlib.Core.Path.{◌≡◌, refl, ap, ◌∙◌, sym}
use mathlib.Core.Logic.{◌⊎◌, inl, inr}
use mathlib.Core.List.{List, [], ◌∷◌, ◌++◌}
use mathlib.Core.Bool.{Bool, true, false, ◌&&◌, false≢true}
use lib.Dec.{eqb}
use borrow.Author.Tests.{eq-eqb, ne_eqb}
use borrow.Author.Rules.{rules}
use Rattle.ground.specs.Choose.{choose}
use Rattle.ground.specs.Below.{up_from, first_or}
use Rattle.ground.proofs.Choices.{choose_yes, choose_no, both, not_left, not_right}

up_from_more : (a n : ℕ) → 0 < n → up_from a n ≡ a ∷ up_from (a + 1) (n - 1)
unfolding up_from
up_from_more a n h = rw (let e : n ≡ suc (n - 1) = omega arith in e) (rw (let e : suc (n - 1) - 1 ≡ n - 1 = omega arith in e) refl)

-- the invariant of such a loop: what is looked for in the whole is what is looked for in the rest
pub first_hit : (d : ℕ) (p : ℕ → Bool) (x n s : ℕ) (r : Bool) → s ≡ first_or d p (up_from x n) → 0 < n → r ≡ p x → r ≡ true → x ≡ s
unfolding first_or choose
first_hit d p x n s r h l e t = rw (h, up_from_more x n l, ← e, t) refl

pub first_miss : (d : ℕ) (p : ℕ → Bool) (x n s : ℕ) (r : Bool) → s ≡ first_or d p (up_from x n) → 0 < n → r ≡ p x → r ≡ false → s ≡ first_or d p (up_from (x + 1) (n - 1))
unfolding first_or choose
first_miss d p x n s r h l e t = h ∙ rw (up_from_more x n l, ← e, t) refl

pub first_none : (d : ℕ) (p : ℕ → Bool) (x n s : ℕ) → s ≡ first_or d p (up_from x n) → n ≤ 0 → d ≡ s
unfolding first_or up_from
first_none d p x n s h l = rw (h, (let e : n ≡ 0 = omega arith in e)) refl

-- looking in one list, then in another
pub first_append : (d : ℕ) (p : ℕ → Bool) (xs ys : List ℕ) → first_or d p (xs ++ ys) ≡ first_or (first_or d p ys) p xs
unfolding first_or
first_append d p [] ys = refl
first_append d p (x ∷ xs) ys = rw (first_append d p xs ys) refl

-- a first other than the default 0 is the first for any default
pub first_found : (d : ℕ) (p : ℕ → Bool) (xs : List ℕ) → 0 < first_or 0 p xs → first_or 0 p xs ≡ first_or d p xs
unfolding first_or choose
first_found d p [] l = absurd (let z : ⊥ = omega arith in z)
first_found d p (x ∷ xs) l = go (p x) (λ h. first_found d p xs h) l
  where
    go : (b : Bool) → (0 < first_or 0 p xs → first_or 0 p xs ≡ first_or d p xs) → 0 < choose b x (first_or 0 p xs) → choose b x (first_or 0 p xs) ≡ choose b x (first_or d p xs)
    go true r h = refl
    go false r h = r h

-- where 0 itself does not pass, a first of 0 says that none does
pub first_else : (d : ℕ) (p : ℕ → Bool) (xs : List ℕ) → p 0 ≡ false → first_or 0 p xs ≤ 0 → d ≡ first_or d p xs
unfolding first_or choose
first_else d p [] z l = refl
first_else d p (x ∷ xs) z l = go (p x) refl (λ h. first_else d p xs z h) l
  where
    go : (b : Bool) → p x ≡ b → (first_or 0 p xs ≤ 0 → d ≡ first_or d p xs) → choose b x (first_or 0 p xs) ≤ 0 → d ≡ choose b x (first_or d p xs)
    go true e r h = absurd (false≢true (sym z ∙ ap p (let q : 0 ≡ x = omega arith in q) ∙ e))
    go false e r h = r h

-- what closes each need of a loop that looks for the first
pub ruleset firsts = (rules, first_hit, first_miss, first_none)

-- no number of the n from a on passes
abbrev pub None : (ℕ → Bool) → ℕ → ℕ → Type 0
None p a n = (i : ℕ) → a ≤ i → i < a + n → p i ≡ false

-- x is one of the n from a on, passes, and none before it does
pub record First (p : ℕ → Bool) (a n x : ℕ) : Type 0 where
  pub from : a ≤ x
  pub within : x < a + n
  pub passes : p x ≡ true
  pub before : (i : ℕ) → a ≤ i → i < x → p i ≡ false

-- none passes, and the default is given; or the first that passes is
abbrev pub FirstCase : ℕ → (ℕ → Bool) → ℕ → ℕ → ℕ → Type 0
FirstCase d p a n r = ((None p a n) × (r ≡ d)) ⊎ First p a n r

pub first_case : (d : ℕ) (p : ℕ → Bool) (a n : ℕ) → FirstCase d p a n (first_or d p (up_from a n))
unfolding first_or up_from choose
first_case d p a zero = inl ((λ i h l. absurd (let z : ⊥ = omega arith in z)), refl)
first_case d p a (suc n) = go (p a) refl (first_case d p (a + 1) n)
  where
    at_start : (b : Bool) → p a ≡ b → (i : ℕ) → i ≡ a → p i ≡ b
    at_start b e i h = ap p h ∙ e

    go : (b : Bool) → p a ≡ b → FirstCase d p (a + 1) n (first_or d p (up_from (a + 1) n)) → FirstCase d p a (suc n) (choose b a (first_or d p (up_from (a + 1) n)))
    go true e c = inr (record { from = omega arith; within = omega arith; passes = e; before = λ i h l. absurd (let z : ⊥ = omega arith in z) })
    go false e (inl (none, default)) = inl ((λ i h l. past i h l (ℕ_discrete i a)), default)
      where
        past : (i : ℕ) → a ≤ i → i < a + suc n → Dec (i ≡ a) → p i ≡ false
        past i h l (yes q) = at_start false e i q
        past i h l (no ne) = none i (omega arith) (omega arith)
    go false e (inr f) = inr (record { from = omega arith; within = omega arith; passes = f.passes; before = λ i h l. past i h l (ℕ_discrete i a) })
      where
        past : (i : ℕ) → a ≤ i → i < first_or d p (up_from (a + 1) n) → Dec (i ≡ a) → p i ≡ false
        past i h l (yes q) = at_start false e i q
        past i h l (no ne) = f.before i (omega arith) l

-- the first of n numbers that passes is the first of fewer, where none past those does
pub first_of_fewer : (d : ℕ) (p : ℕ → Bool) (a n m : ℕ) → m ≤ n → ((i : ℕ) → a + m ≤ i → i < a + n → p i ≡ false) → first_or d p (up_from a n) ≡ first_or d p (up_from a m)
unfolding first_or up_from choose
first_of_fewer d p a zero zero h none = refl
first_of_fewer d p a zero (suc m) h none = absurd (let z : ⊥ = omega arith in z)
first_of_fewer d p a (suc n) zero h none = rw (none a (omega arith) (omega arith)) (first_of_fewer d p (a + 1) n 0 (omega arith) (λ i l u. none i (omega arith) (omega arith)))
first_of_fewer d p a (suc n) (suc m) h none = ap (choose (p a) a) (first_of_fewer d p (a + 1) n m (omega arith) (λ i l u. none i (omega arith) (omega arith)))

-- and the other way round: what is the first, or that none passes, tells what is given
pub first_is : (d : ℕ) (p : ℕ → Bool) (a n x : ℕ) → First p a n x → first_or d p (up_from a n) ≡ x
first_is d p a n x h = go (first_case d p a n)
  where
    y : ℕ
    y = first_or d p (up_from a n)

    apart : First p a n y → Dec (y < x) → Dec (x < y) → y ≡ x
    apart f (yes l) _ = absurd (false≢true (sym (h.before y f.from l) ∙ f.passes))
    apart f (no nl) (yes l) = absurd (false≢true (sym (f.before x h.from l) ∙ h.passes))
    apart f (no nl) (no nm) = omega (arith, nl, nm)

    go : FirstCase d p a n y → y ≡ x
    go (inl (none, e)) = absurd (false≢true (sym (none x h.from h.within) ∙ h.passes))
    go (inr f) = apart f (dec_lt y x) (dec_lt x y)

pub none_is : (d : ℕ) (p : ℕ → Bool) (a n : ℕ) → None p a n → first_or d p (up_from a n) ≡ d
none_is d p a n h = go (first_case d p a n)
  where
    go : FirstCase d p a n (first_or d p (up_from a n)) → first_or d p (up_from a n) ≡ d
    go (inl (none, e)) = e
    go (inr f) = absurd (false≢true (sym (h _ f.from f.within) ∙ f.passes))

-- two tests that agree on each number find the same first
pub first_same : (d : ℕ) (p q : ℕ → Bool) (a n : ℕ) → ((i : ℕ) → a ≤ i → i < a + n → p i ≡ q i) → first_or d p (up_from a n) ≡ first_or d q (up_from a n)
unfolding first_or up_from
first_same d p q a zero h = refl
first_same d p q a (suc n) h =
    rw (h a (omega arith) (omega arith), first_same d p q (a + 1) n (λ i l u. h i (omega arith) (omega arith))) refl

-- the first that passes, with one number more
pub first_more : (p : ℕ → Bool) (i : ℕ) → first_or 0 p (up_from 1 (suc i)) ≡ choose (eqb (first_or 0 p (up_from 1 i)) 0 && p (suc i)) (suc i) (first_or 0 p (up_from 1 i))
first_more p i = go (first_case 0 p 1 i) (p (suc i)) refl
  where
    y : ℕ
    y = first_or 0 p (up_from 1 i)

    go : FirstCase 0 p 1 i y → (b : Bool) → p (suc i) ≡ b → first_or 0 p (up_from 1 (suc i)) ≡ choose (eqb y 0 && p (suc i)) (suc i) y
    go (inl (none, e)) true h = first_is 0 p 1 (suc i) (suc i) (record { from = omega arith; within = omega arith; passes = h; before = λ j a b. none j a (omega arith) }) ∙ choose_yes _ _ _ _ (both (eqb y 0) (p (suc i)) (eq-eqb y 0 e) h) refl
    go (inl (none, e)) false h = none_is 0 p 1 (suc i) (λ j a b. last j a b (ℕ_discrete j (suc i))) ∙ sym e ∙ choose_no _ _ _ _ (not_right (eqb y 0) (p (suc i)) h) refl
      where
        last : (j : ℕ) → 1 ≤ j → j < 1 + suc i → Dec (j ≡ suc i) → p j ≡ false
        last j a b (yes q) = ap p q ∙ h
        last j a b (no ne) = none j a (omega arith)
    go (inr f) b h = first_is 0 p 1 (suc i) y (record { from = f.from; within = omega (arith, f.within); passes = f.passes; before = f.before }) ∙ choose_no _ _ _ _ (not_left (eqb y 0) (p (suc i)) (ne_eqb y 0 (λ z. omega (arith, z, f.from)))) refl
