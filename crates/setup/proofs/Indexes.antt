-- The test of the stored indexes decides what it should, and how a tally of the types gives each index.
use Prim.Native.Nat.{ℕ, ◌+◌, ◌-◌, ◌≤◌, ◌<◌}
use native.Mathlib.Omega.{arith}
use native.Mathlib.Decide.{ℕ_discrete}
use mathlib.Core.Path.{◌≡◌, refl, sym, ap, ◌∙◌}
use mathlib.Core.Logic.{◌⊎◌, inl, inr}
use mathlib.Core.Bool.{Bool, true, false, ◌&&◌, not}
use mathlib.Core.List.{List}
use lib.Dec.{eqb, ltb}
use lib.ListN.{get_or, set, length, length-set, replicate, get_or-eq_default}
use lib.Seq.{get_or-set_same, get_or-set_other}
use borrow.Author.Tests.{ltb-true, ltb-false, eqb-true, eqb-false, eq-eqb, ne_eqb}
use Rattle.ground.specs.Choose.{choose}
use Rattle.ground.specs.Below.{one, count}
use Rattle.ground.proofs.Choices.{both, not_left, not_right, not_yes, not_no}
use Rattle.ground.proofs.Loops.{all_at, all_of, count_more, count_le}
use Rattle.ground.proofs.Runs.{run_same}
use Rattle.board.specs.declared.Node.{Node}
use Rattle.board.specs.declared.Wanted.TheVariants.{Kind}
use Rattle.board.specs.Table.{at}
use Rattle.board.specs.Wanted.{wants, wanted_at, of_kind_below, index_of}
use Rattle.board.specs.Index.{Numbered}
use Rattle.board.specs.Columns.{stored_index, stored_indexes, kinds_of, typed_as, typed}
use Rattle.board.proofs.Positions.{Outside, at_outside, position_case}
use Rattle.board.proofs.Index.{index_nobody}
use Rattle.board.proofs.SameKinds.{kinds_index}
use Rattle.board.proofs.Column.{column_next, typed_kinds, typed_position, index_here}
use Rattle.setup.specs.Fit.{numbered_at, are_numbered, tallied_one}

pub numbered_told : (t : List Node) → length t ≡ 40 → are_numbered t ≡ true → Numbered t
unfolding are_numbered
numbered_told t forty h p = go (position_case 40 p)
  where
    go : Outside 40 p ⊎ ((0 < p) × (p ≤ 40)) → (at t p).index ≡ index_of t p
    go (inl o) =
        let nobody = at_outside t p 40 forty o in
        ap stored_index nobody ∙ index_nobody t p (ap (λ (n : Node). n.kind) nobody)
    go (inr (l, u)) =
        let here : p - 1 + 1 ≡ p = omega (arith, l) in
        ap (λ (q : ℕ). (at t q).index) (sym here) ∙ sym (column_next stored_index t (p - 1)) ∙ eqb-true (get_or (stored_indexes t) (p - 1) 0) (index_of t (p - 1 + 1)) (all_at (numbered_at (stored_indexes t) t) 40 (p - 1) h (omega (arith, l, u))) ∙ ap (index_of t) here

pub numbered_passes : (t : List Node) → Numbered t → are_numbered t ≡ true
unfolding are_numbered
numbered_passes t h = all_of _ 40 (λ i l. eq-eqb _ _ (column_next stored_index t i ∙ h (i + 1)))

-- counted among the types alone the index is the same
pub numbered_types : (t : List Node) → length t ≡ 40 → numbered_at (stored_indexes t) (typed (kinds_of t)) ≡ numbered_at (stored_indexes t) t
numbered_types t forty = λ j i. eqb (get_or (stored_indexes t) i 0) (kinds_index (typed_kinds t forty) (i + 1) j)

-- a tally of the first i of the types: of each type as many as there are
abbrev pub Tallies : List ℕ → ℕ → List ℕ → Type 0
Tallies kinds i tally = (length tally ≡ 256) × ((kind : ℕ) → kind < 256 → get_or tally kind 0 ≡ of_kind_below (typed kinds) kind (i + 1))

-- at first there are none
pub tally_none : (kinds : List ℕ) → Tallies kinds 0 (replicate 256 0)
unfolding count at
tally_none kinds = (refl, λ kind l. run_same 0 256 kind)

module _ (kinds : List ℕ) (i : ℕ) (l : i < 40) (tally : List ℕ) (t : Tallies kinds i tally) where
  -- the next type
  abbrev k : ℕ
  k = get_or kinds i 0

  -- no type has more than there are positions, and what is no byte has none
  pub tally_small : get_or tally k 0 < 255
  tally_small = go (ltb k 256) refl
    where
      go : (b : Bool) → ltb k 256 ≡ b → get_or tally k 0 < 255
      go true h = omega (arith, t.1 k (ltb-true k 256 h), count_le (wanted_at (Kind k) (typed kinds)) (i + 1), l)
      go false h = omega (arith, get_or-eq_default tally 0 {n = k} (omega (arith, t.0, ltb-false k 256 h)))

  -- what a type more makes of the count of each
  risen : (kind : ℕ) → of_kind_below (typed kinds) kind (i + 1 + 1) ≡ of_kind_below (typed kinds) kind (i + 1) + one (not (eqb k 0) && eqb k kind)
  risen kind = count_more (wanted_at (Kind kind) (typed kinds)) (i + 1) ∙ ap (λ (n : Node). of_kind_below (typed kinds) kind (i + 1) + one (wants (Kind kind) n)) (typed_position kinds (i + 1) (omega arith) (omega (arith, l)) ∙ ap (λ (j : ℕ). typed_as (get_or kinds j 0)) (let e : i + 1 - 1 ≡ i = omega arith in e))

  module _ (fits : k < 256) where
    -- the tally of a board's type is its index
    pub tally_index : get_or tally k 0 ≡ index_of (typed kinds) (i + 1)
    tally_index = t.1 k fits ∙ ap (λ (j : ℕ). of_kind_below (typed kinds) (get_or kinds j 0) (i + 1)) (let e : i ≡ i + 1 - 1 = omega arith in e) ∙ index_here kinds (i + 1) _ refl (omega arith) (omega (arith, l))

    -- the count of its own type rises, unless that is 0, which is nobody's
    as_before : (kind : ℕ) → kind < 256 → (not (eqb k 0) && eqb k kind) ≡ false → get_or tally kind 0 ≡ of_kind_below (typed kinds) kind (i + 1 + 1)
    as_before kind b e = t.1 kind b ∙ sym (risen kind ∙ ap (λ (c : Bool). of_kind_below (typed kinds) kind (i + 1) + one c) e ∙ omega arith)

    more : (k ≡ 0 → ⊥) → (kind : ℕ) → kind < 256 → Dec (kind ≡ k) → get_or (set tally k (get_or tally k 0 + 1)) kind 0 ≡ of_kind_below (typed kinds) kind (i + 1 + 1)
    more ne kind b (yes e) = rw e (get_or-set_same tally k (get_or tally k 0 + 1) 0 (omega (arith, t.0, fits)) ∙ ap (λ (n : ℕ). n + 1) (t.1 k fits) ∙ sym (risen k ∙ ap (λ (c : Bool). of_kind_below (typed kinds) k (i + 1) + one c) (both (not (eqb k 0)) (eqb k k) (not_yes (eqb k 0) (ne_eqb k 0 ne)) (eq-eqb k k refl))))
    more ne kind b (no other) = get_or-set_other tally k kind (get_or tally k 0 + 1) 0 other ∙ as_before kind b (not_right (not (eqb k 0)) (eqb k kind) (ne_eqb k kind (λ z. other (sym z))))

    pub tally_more : Tallies kinds (i + 1) (tallied_one tally k)
    unfolding choose
    tally_more = go (eqb k 0) refl
      where
        go : (b : Bool) → eqb k 0 ≡ b → Tallies kinds (i + 1) (choose b tally (set tally k (get_or tally k 0 + 1)))
        go true e = (t.0, λ kind b. as_before kind b (not_left (not (eqb k 0)) (eqb k kind) (not_no (eqb k 0) e)))
        go false e = (length-set tally k _ ∙ t.0, λ kind b. more (eqb-false k 0 e) kind b (ℕ_discrete kind k))
