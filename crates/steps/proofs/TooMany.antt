-- When number 25 is given: where the join would leave a 1.0 board listed with more than 15 types (02, C-15).
use Prim.Native.Nat.{ℕ, ◌≤◌, ◌<◌}
use native.Mathlib.Omega.{arith}
use native.Mathlib.Decide.{ℕ_discrete}
use mathlib.Core.Path.{◌≡◌, refl, sym, ap, ◌∙◌}
use mathlib.Core.Bool.{Bool, true, false, ◌||◌}
use mathlib.Core.List.{List, ◌∷◌, map}
use mathlib.Core.Logic.{◌↔◌}
use lib.ListN.{length}
use lib.Dec.{eqb}
use borrow.Author.Tests.{eqb-true, eq-eqb}
use Rattle.ground.specs.Below.{among}
use Rattle.ground.proofs.Choices.{or_left, or_right}
use Rattle.board.specs.declared.Node.{Node}
use Rattle.board.specs.Node.{none}
use Rattle.board.specs.Table.{at, put}
use Rattle.board.specs.Change.{joined_node}
use Rattle.board.specs.Columns.{kind_of, kinds_of, stored_version}
use Rattle.board.specs.Types.{FewTypes}
use Rattle.board.proofs.Positions.{at_zero}
use Rattle.board.proofs.Changes.{at_put, at_put_other}
use Rattle.board.proofs.Types.{types_within, column_has, column_holds, rule_columns, columns_rule}
use Rattle.setup.specs.Fitness.{FitTable}
use Rattle.setup.proofs.Places.{free_found}
use Rattle.steps.specs.Join.{known, chosen, too_many_with}
use Rattle.steps.proofs.Chosen.{by_known, chosen_known, chosen_new}

-- where the joiner takes a position, every other board stands as it stood
module _ (t : List Node) (k kind mac session version : ℕ) (from : 1 ≤ chosen t k mac) (inside : chosen t k mac ≤ length t) where
  abbrev own : ℕ
  own = known t k mac

  abbrev place : ℕ
  place = chosen t k mac

  abbrev joiner : Node
  joiner = joined_node kind mac session version

  others : (q : ℕ) → (q ≡ place → ⊥) → at (put t place joiner) q ≡ at (put t own none) q
  others q ne = at_put_other t place q joiner ne ∙ go (ℕ_discrete q 0)
    where
      go : Dec (q ≡ 0) → at t q ≡ at (put t own none) q
      go (yes z) = at_zero t q (omega (arith, z)) ∙ sym (at_zero (put t own none) q (omega (arith, z)))
      go (no nz) = sym (at_put_other t own q none (λ e. ne (e ∙ sym (chosen_known t k mac (omega (arith, nz, e))))))

  joined_there : at (put t place joiner) place ≡ joiner
  joined_there = at_put t place joiner from inside

  -- what some board has after the join is the joiner's, or another board's
  with_joiner : (g : Node → ℕ) → g none ≡ 0 → (v q : ℕ) → 0 < v → g (at (put t place joiner) q) ≡ v → among v (g joiner ∷ map g (put t own none)) ≡ true
  unfolding among
  with_joiner g z v q l h = go (ℕ_discrete q place)
    where
      go : Dec (q ≡ place) → (eqb v (g joiner) || among v (map g (put t own none))) ≡ true
      go (yes e) = or_left _ (among v (map g (put t own none))) (eq-eqb v (g joiner) (sym h ∙ ap g (ap (at (put t place joiner)) e ∙ joined_there)))
      go (no ne) = or_right (eqb v (g joiner)) _ (column_has g z (put t own none) q v l (ap g (sym (others q ne)) ∙ h))

  module _ (f : FitTable k t) where
    -- nobody but the joiner is at the position that it takes
    nobody_there : at (put t own none) place ≡ none
    nobody_there =
        by_known t k mac _
        (λ l. ap (at (put t own none)) (chosen_known t k mac l) ∙ at_put t own none (omega (arith, l)) (omega (arith, inside, chosen_known t k mac l)))
        (λ l. at_put_other t own place none (λ e. omega (arith, l, from, e)) ∙ f.boards.blank place (ap (λ (p : ℕ). (at t p).kind) (chosen_new t k mac l) ∙ (free_found t k (λ e. omega (arith, from, e, chosen_new t k mac l))).free))

    -- what is the joiner's, or another board's, some board has after the join
    joiner_with : (g : Node → ℕ) → g none ≡ 0 → (v : ℕ) → 0 < v → among v (g joiner ∷ map g (put t own none)) ≡ true → (q : ℕ) × (g (at (put t place joiner) q) ≡ v)
    unfolding among
    joiner_with g z v l = go (eqb v (g joiner)) refl
      where
        other : (found : (q : ℕ) × (g (at (put t own none) q) ≡ v)) → (q : ℕ) × (g (at (put t place joiner) q) ≡ v)
        other (q, h) = (q, ap g (others q (λ e. omega (arith, l, z, h, ap g (ap (at (put t own none)) e ∙ nobody_there)))) ∙ h)

        go : (b : Bool) → eqb v (g joiner) ≡ b → (b || among v (map g (put t own none))) ≡ true → (q : ℕ) × (g (at (put t place joiner) q) ≡ v)
        go true e m = (place, ap g joined_there ∙ sym (eqb-true v (g joiner) e))
        go false e m = other (column_holds g z (put t own none) v m)

    few_back : FewTypes (put t place joiner) → too_many_with t own kind version ≡ false
    few_back few =
        columns_rule _ _ (λ old. let found = joiner_with stored_version refl 1 (omega arith) old in
        omega (arith, few found.0 found.1, types_within (kinds_of (put t place joiner)) (kind ∷ kinds_of (put t own none)) (λ v l m. let there = joiner_with kind_of refl v l m in column_has kind_of refl (put t place joiner) there.0 v l there.1)))

  pub few_with : too_many_with t own kind version ≡ false → FewTypes (put t place joiner)
  few_with h q old =
      omega (arith, types_within (kind ∷ kinds_of (put t own none)) (kinds_of (put t place joiner)) (λ v l m. let found = column_holds kind_of refl (put t place joiner) v m in with_joiner kind_of refl v found.0 l found.1), rule_columns _ _ h (with_joiner stored_version refl 1 q (omega arith) old))

  -- "given exactly when the join would leave a 1.0 board listed with more than 15 types": of a fit table the test fails exactly where the table with the joiner keeps the rule
  pub too_many_exactly : FitTable k t → (too_many_with t own kind version ≡ false) ↔ FewTypes (put t place joiner)
  too_many_exactly f = (few_with, few_back f)
