-- The lowest wanted position and the highest listed one: none is beyond it, and 0 says that there is none.
use Prim.Native.Nat.{ℕ, ◌≤◌, ◌<◌, min}
use native.Mathlib.Omega.{arith}
use native.Mathlib.Decide.{ℕ_discrete}
use mathlib.Core.Path.{◌≡◌, sym, ◌∙◌, ap}
use mathlib.Core.Logic.{inl, inr}
use mathlib.Core.List.{List}
use mathlib.Core.Bool.{Bool, true, false, false≢true, ◌&&◌}
use lib.Dec.{eqb, ltb}
use borrow.Author.Tests.{lt-ltb, le-ltb}
use Rattle.ground.proofs.Loops.{some_of, some_no}
use Rattle.ground.proofs.Highest.{HighestCase, highest_case}
use Rattle.ground.proofs.Firsts.{First, FirstCase, None, first_case, first_of_fewer}
use Rattle.board.specs.declared.Node.{Node}
use Rattle.board.specs.declared.Wanted.{Wanted}
use Rattle.board.specs.declared.Wanted.TheVariants.{Listed, Owed}
use Rattle.board.specs.Node.{is_listed}
use Rattle.board.specs.Table.{at, listed_at}
use Rattle.board.specs.Wanted.{wanted_at, lowest_of, highest_listed, some_listed}
use Rattle.board.proofs.Positions.{at_zero}

-- the lowest is 0 and nobody from 1 to the limit is wanted; or it is wanted, within 1 to the limit, and no lower position is
pub lowest_case : (t : List Node) (w : Wanted) (limit : ℕ) → FirstCase 0 (wanted_at w t) 1 (min limit 40) (lowest_of t w limit)
unfolding lowest_of
lowest_case t w limit = first_case 0 (wanted_at w t) 1 (min limit 40)

-- a lowest position other than 0 is one from 1 to the limit, and wanted
pub lowest_wanted : (t : List Node) (w : Wanted) (limit : ℕ) → 0 < lowest_of t w limit → First (wanted_at w t) 1 (min limit 40) (lowest_of t w limit)
lowest_wanted t w limit l = go (lowest_case t w limit)
  where
    go : FirstCase 0 (wanted_at w t) 1 (min limit 40) (lowest_of t w limit) → First (wanted_at w t) 1 (min limit 40) (lowest_of t w limit)
    go (inl (none, zeroed)) = absurd (let z : ⊥ = omega arith in z)
    go (inr f) = f

-- where somebody up to the limit is wanted, the lowest is found
pub lowest_found : (t : List Node) (w : Wanted) (limit p : ℕ) → wanted_at w t p ≡ true → 1 ≤ p → p ≤ min limit 40 → First (wanted_at w t) 1 (min limit 40) (lowest_of t w limit)
lowest_found t w limit p e h l = go (lowest_case t w limit)
  where
    go : FirstCase 0 (wanted_at w t) 1 (min limit 40) (lowest_of t w limit) → First (wanted_at w t) 1 (min limit 40) (lowest_of t w limit)
    go (inl (none, zeroed)) = absurd (false≢true (sym (none p h (omega arith)) ∙ e))
    go (inr f) = f

-- the highest listed position is 0 and nobody is listed; or it is listed, and no higher position is
pub highest_listed_case : (t : List Node) → HighestCase (listed_at t) 40 (highest_listed t)
unfolding highest_listed
highest_listed_case t = highest_case (listed_at t) 40

-- it is one of the table's
pub highest_within : (t : List Node) → highest_listed t ≤ 40
highest_within t = go (highest_listed_case t)
  where
    go : HighestCase (listed_at t) 40 (highest_listed t) → highest_listed t ≤ 40
    go (inl (none, zeroed)) = omega arith
    go (inr f) = f.within

-- nobody is listed above it
pub none_above : (t : List Node) (i : ℕ) → highest_listed t < i → i ≤ 40 → listed_at t i ≡ false
none_above t i h l = go (highest_listed_case t)
  where
    go : HighestCase (listed_at t) 40 (highest_listed t) → listed_at t i ≡ false
    go (inl (none, zeroed)) = none i (omega arith) l
    go (inr f) = f.above i h l

-- so the lowest position owed the list is found up to it
pub owed_to_top : (t : List Node) (k : ℕ) → highest_listed t ≤ k → lowest_of t Owed k ≡ lowest_of t Owed (highest_listed t)
unfolding lowest_of
owed_to_top t k within = first_of_fewer 0 (wanted_at Owed t) 1 (min k 40) (min (highest_listed t) 40) (omega arith) (λ i l u. ap (λ (b : Bool). b && eqb (at t i).owed 1) (none_above t i (omega (arith, highest_within t)) (omega arith)))

-- nobody is listed at position 0
pub listed_zero : (t : List Node) → listed_at t 0 ≡ false
listed_zero t = ap is_listed (at_zero t 0 (omega arith))

-- somebody is listed where the lowest listed position is not 0
pub some_lowest : (t : List Node) → ltb 0 (lowest_of t Listed 40) ≡ some_listed t
unfolding some_listed
some_lowest t = go (lowest_case t Listed 40)
  where
    nobody : None (listed_at t) 1 40 → (i : ℕ) → i < 41 → Dec (i ≡ 0) → listed_at t i ≡ false
    nobody none i l (yes e) = ap (listed_at t) e ∙ listed_zero t
    nobody none i l (no ne) = none i (omega arith) (omega arith)

    go : FirstCase 0 (listed_at t) 1 40 (lowest_of t Listed 40) → ltb 0 (lowest_of t Listed 40) ≡ some_listed t
    go (inl (none, zeroed)) = le-ltb 0 (lowest_of t Listed 40) (omega arith) ∙ sym (some_no (listed_at t) 41 (λ i l. nobody none i l (ℕ_discrete i 0)))
    go (inr f) = lt-ltb 0 (lowest_of t Listed 40) f.from ∙ sym (some_of (listed_at t) 41 (lowest_of t Listed 40) (omega (arith, f.within)) f.passes)

-- and where the highest is not 0
pub some_highest : (t : List Node) → ltb 0 (highest_listed t) ≡ some_listed t
unfolding some_listed
some_highest t = go (highest_listed_case t)
  where
    nobody : ((i : ℕ) → 1 ≤ i → i ≤ 40 → listed_at t i ≡ false) → (i : ℕ) → i < 41 → Dec (i ≡ 0) → listed_at t i ≡ false
    nobody none i l (yes e) = ap (listed_at t) e ∙ listed_zero t
    nobody none i l (no ne) = none i (omega arith) (omega arith)

    go : HighestCase (listed_at t) 40 (highest_listed t) → ltb 0 (highest_listed t) ≡ some_listed t
    go (inl (none, zeroed)) = le-ltb 0 (highest_listed t) (omega arith) ∙ sym (some_no (listed_at t) 41 (λ i l. nobody none i l (ℕ_discrete i 0)))
    go (inr f) = lt-ltb 0 (highest_listed t) f.from ∙ sym (some_of (listed_at t) 41 (highest_listed t) (omega (arith, f.within)) f.passes)
