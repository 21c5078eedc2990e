-- A lowest position that was found, as one of the positions 1 to k.
use Prim.Native.Nat.{ℕ, ◌<◌}
use native.Mathlib.Omega.{arith}
use mathlib.Core.Path.{◌≡◌}
use mathlib.Core.List.{List}
use borrow.Author.Tests.{eqb-true, not-true, not-false}
use Rattle.board.specs.declared.Node.{Node}
use Rattle.board.specs.declared.Wanted.{Wanted}
use Rattle.board.specs.declared.Wanted.TheVariants.{Free}
use Rattle.board.specs.Table.{at}
use Rattle.board.specs.Wanted.{lowest_of}
use Rattle.board.proofs.LowestWanted.{lowest_wanted}
use Rattle.setup.specs.Fitness.{Position}

-- whatever is wanted
pub lowest_place : (t : List Node) (w : Wanted) (k : ℕ) → 0 < lowest_of t w k → Position k (lowest_of t w k)
lowest_place t w k l = record { from = l; up_to = omega (arith, (lowest_wanted t w k l).within) }

-- a free position that was found is one of 1 to k, and free
pub record FreePlace (t : List Node) (k p : ℕ) : Type 0 where
  pub place : Position k p
  pub free : (at t p).kind ≡ 0

pub free_found : (t : List Node) (k : ℕ) → (lowest_of t Free k ≡ 0 → ⊥) → FreePlace t k (lowest_of t Free k)
free_found t k ne = record { place = lowest_place t Free k some; free = eqb-true (at t (lowest_of t Free k)).kind 0 (not-false _ (not-true _ (lowest_wanted t Free k some).passes)) }
  where
    some : 0 < lowest_of t Free k
    some = omega (arith, ne)
