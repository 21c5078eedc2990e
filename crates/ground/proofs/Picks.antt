-- A loop that goes through a list for the first that passes: what is looked for in the whole is what is looked for in the rest.
use Prim.Native.Nat.{ℕ, ◌+◌, ◌≤◌, ◌<◌}
use native.Mathlib.Omega.{arith}
use native.Mathlib.Numerals.{add-one}
use mathlib.Core.Path.{◌≡◌, refl, ap, sym, ◌∙◌}
use mathlib.Core.List.{List, [], ◌∷◌, ◌++◌}
use mathlib.Core.Bool.{Bool, true, false, ◌||◌, false≢true}
use lib.ListN.{length, get_or, drop, length-drop}
use lib.Seq.{drop-cons}
use lib.Dec.{eqb}
use borrow.Author.Rules.{rules}
use borrow.Author.Tests.{eqb-true, eq-eqb}
use Rattle.ground.specs.Choose.{choose}
use Rattle.ground.specs.Below.{first_or, among}
use Rattle.ground.proofs.Choices.{or_left, or_right}

pub pick_start : (d : ℕ) (p : ℕ → Bool) (l : List ℕ) → first_or d p l ≡ first_or d p (drop 0 l)
pick_start d p l = refl

pub pick_hit : (d : ℕ) (p : ℕ → Bool) (l : List ℕ) (i s : ℕ) {r : Bool} → s ≡ first_or d p (drop i l) → i < length l → r ≡ p (get_or l i 0) → r ≡ true → get_or l i 0 ≡ s
unfolding first_or choose
pick_hit d p l i s h k e t = rw (h, drop-cons l i 0 k, ← e, t) refl

pub pick_miss : (d : ℕ) (p : ℕ → Bool) (l : List ℕ) (i s : ℕ) {r : Bool} → s ≡ first_or d p (drop i l) → i < length l → r ≡ p (get_or l i 0) → r ≡ false → s ≡ first_or d p (drop (i + 1) l)
unfolding first_or choose
pick_miss d p l i s h k e t = h ∙ rw (drop-cons l i 0 k, ← e, t, add-one) refl

pub pick_none : (d : ℕ) (p : ℕ → Bool) (l : List ℕ) (i s : ℕ) → s ≡ first_or d p (drop i l) → length l ≤ i → d ≡ s
unfolding first_or
pick_none d p l i s h k = rw (h, empty (drop i l) (rw length-drop (omega arith))) refl
  where
    empty : (m : List ℕ) → length m ≤ 0 → m ≡ []
    empty [] e = refl
    empty (x ∷ m) e = absurd (let z : ⊥ = omega arith in z)

-- what closes each need of such a loop
pub ruleset picks = (rules, pick_start, pick_hit, pick_miss, pick_none)

-- the first of a list that passes does pass, where one of the list does
pub first_passes : (d : ℕ) (p : ℕ → Bool) (l : List ℕ) (x : ℕ) → among x l ≡ true → p x ≡ true → p (first_or d p l) ≡ true
unfolding among first_or choose
first_passes d p [] x a h = absurd (false≢true a)
first_passes d p (y ∷ l) x a h = go (p y) refl (eqb x y) refl (λ r. first_passes d p l x r h) a
  where
    go : (b : Bool) → p y ≡ b → (c : Bool) → eqb x y ≡ c → (among x l ≡ true → p (first_or d p l) ≡ true) → (c || among x l) ≡ true → p (choose b y (first_or d p l)) ≡ true
    go true e c q later r = e
    go false e true q later r = absurd (false≢true (sym e ∙ ap p (sym (eqb-true x y q)) ∙ h))
    go false e false q later r = later r

-- and is one of the list, unless it is the default
pub first_among : (d : ℕ) (p : ℕ → Bool) (l : List ℕ) → (first_or d p l ≡ d → ⊥) → among (first_or d p l) l ≡ true
unfolding among first_or choose
first_among d p [] h = absurd (h refl)
first_among d p (y ∷ l) h = go (p y) (λ n. first_among d p l n) h
  where
    go : (b : Bool) → ((first_or d p l ≡ d → ⊥) → among (first_or d p l) l ≡ true) → (choose b y (first_or d p l) ≡ d → ⊥) → (eqb (choose b y (first_or d p l)) y || among (choose b y (first_or d p l)) l) ≡ true
    go true later n = or_left (eqb y y) (among y l) (eq-eqb y y refl)
    go false later n = or_right (eqb (first_or d p l) y) (among (first_or d p l) l) (later n)

-- and is x, where x passes and none before it does
pub first_after : (d : ℕ) (p : ℕ → Bool) (before after : List ℕ) (x : ℕ) → ((y : ℕ) → among y before ≡ true → p y ≡ false) → p x ≡ true → first_or d p (before ++ x ∷ after) ≡ x
unfolding among first_or choose
first_after d p [] after x none h = rw h refl
first_after d p (y ∷ before) after x none h =
    rw (none y (or_left (eqb y y) (among y before) (eq-eqb y y refl))) (first_after d p before after x (λ z m. none z (or_right (eqb z y) (among z before) m)) h)
