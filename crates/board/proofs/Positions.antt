-- The laws of the record at a position.
use Prim.Native.Nat.{ℕ, suc, ◌+◌, ◌-◌, ◌≤◌, ◌<◌}
use native.Mathlib.Omega.{arith}
use mathlib.Core.Path.{◌≡◌, refl, sym, ◌∙◌, ap}
use mathlib.Core.Logic.{◌⊎◌, inl, inr}
use mathlib.Core.List.{List, ◌∷◌, map}
use mathlib.Core.Bool.{Bool, true, false, false≢true}
use lib.Dec.{ltb, leb}
use lib.ListN.{get_or, set, length, get_or-map, get_or-eq_default}
use lib.Seq.{set_out}
use borrow.Author.Tests.{lt-ltb, le-ltb, ltb-true, ltb-false, leb-true, leb-false}
use Rattle.ground.specs.Below.{up_from}
use Rattle.ground.proofs.Choices.{choose_yes, choose_no}
use Rattle.ground.proofs.Runs.{run_map_at}
use Rattle.board.specs.declared.Node.{Node}
use Rattle.board.specs.Node.{none, is_listed}
use Rattle.board.specs.Table.{at, put, listed_at}

pub at_position : (t : List Node) (p : ℕ) → 0 < p → at t p ≡ get_or t (p - 1) none
unfolding at
at_position t p h = rw (let e : p ≡ suc (p - 1) = omega arith in e) (rw (let e : suc (p - 1) - 1 ≡ p - 1 = omega arith in e) refl)

-- index i, from 0, is position i + 1
pub at_next : (t : List Node) (i : ℕ) → at t (i + 1) ≡ get_or t i none
at_next t i = at_position t (i + 1) (omega arith) ∙ ap (λ (k : ℕ). get_or t k none) (let e : i + 1 - 1 ≡ i = omega arith in e)

pub at_zero : (t : List Node) (p : ℕ) → p ≤ 0 → at t p ≡ none
unfolding at
at_zero t p h = rw (let e : p ≡ 0 = omega arith in e) refl

pub at_past : (t : List Node) (p n : ℕ) → length t ≡ n → n < p → at t p ≡ none
at_past t p n e h = at_position t p (omega arith) ∙ get_or-eq_default t none (omega arith)

pub put_position : (t : List Node) (p : ℕ) (n : Node) → 0 < p → put t p n ≡ set t (p - 1) n
unfolding put
put_position t p n h = sym (choose_yes _ _ _ _ (lt-ltb 0 p h) refl)

pub put_zero : (t : List Node) (p : ℕ) (n : Node) → p ≤ 0 → put t p n ≡ t
unfolding put
put_zero t p n h = sym (choose_no _ _ _ _ (le-ltb 0 p h) refl)

pub put_past : (t : List Node) (p : ℕ) (n : Node) (size : ℕ) → length t ≡ size → size < p → put t p n ≡ t
put_past t p n size e h = put_position t p n (omega arith) ∙ set_out t (p - 1) n (omega arith)

-- of a table that is made position by position
pub at_made : (f : ℕ → Node) (n p : ℕ) → 0 < p → p ≤ n → at (map f (up_from 1 n)) p ≡ f p
at_made f n p h l = at_position _ p h ∙ run_map_at f 1 n (p - 1) none (omega arith) ∙ ap f (let e : 1 + (p - 1) ≡ p = omega arith in e)

-- tables that agree in a column agree in it at every position
pub at_alike : {A : Type 0} (g : Node → A) (t u : List Node) → map g t ≡ map g u → (p : ℕ) → g (at t p) ≡ g (at u p)
unfolding at
at_alike {A} g t u e p = sym (get_or-map g (none ∷ t) p none) ∙ ap (λ (l : List A). get_or (g none ∷ l) p (g none)) e ∙ get_or-map g (none ∷ u) p none

-- what is none of n positions names nobody; every other is one from 1 to n
abbrev pub Outside : ℕ → ℕ → Type 0
Outside n p = (p ≤ 0) ⊎ (n < p)

pub position_case : (n p : ℕ) → Outside n p ⊎ ((0 < p) × (p ≤ n))
position_case n p = go (ltb 0 p) (leb p n) refl refl
  where
    go : (a b : Bool) → ltb 0 p ≡ a → leb p n ≡ b → Outside n p ⊎ ((0 < p) × (p ≤ n))
    go false b h l = inl (inl (ltb-false 0 p h))
    go true false h l = inl (inr (leb-false p n l))
    go true true h l = inr (ltb-true 0 p h, leb-true p n l)

pub at_outside : (t : List Node) (p n : ℕ) → length t ≡ n → Outside n p → at t p ≡ none
at_outside t p n e (inl h) = at_zero t p h
at_outside t p n e (inr h) = at_past t p n e h

-- in a table of forty records a listed position is one from 1 to 40
pub listed_within : (t : List Node) (p : ℕ) → length t ≡ 40 → listed_at t p ≡ true → (1 ≤ p) × (p ≤ 40)
listed_within t p e h = go (position_case 40 p)
  where
    go : Outside 40 p ⊎ ((1 ≤ p) × (p ≤ 40)) → (1 ≤ p) × (p ≤ 40)
    go (inl o) = absurd (false≢true (sym (ap is_listed (at_outside t p 40 e o)) ∙ h))
    go (inr within) = within
