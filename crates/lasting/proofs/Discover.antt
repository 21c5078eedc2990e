-- A discovery keeps fit.
use Prim.Native.Nat.{ℕ}
use mathlib.Core.Path.{refl}
use mathlib.Core.List.{List}
use lib.ListN.{drop}
use borrow.Author.Tests.{eqb-false}
use Rattle.board.specs.declared.Node.{Node}
use Rattle.setup.proofs.Places.{free_found}
use Rattle.coordinator.specs.declared.Coordinator.{Coordinator}
use Rattle.coordinator.proofs.Changing.{searching_fits}
use Rattle.steps.specs.Discover.{free_place, discover_rules, searched, discover_of}
use Rattle.lasting.proofs.Keeps.{Keeps, accepted_keeps, rules_keep}

-- the position at stake is a free one of 1 to k
pub discover_keeps : (c : Coordinator) (t : List Node) (room : ℕ) → Keeps c t (discover_of c t room)
unfolding discover_of
discover_keeps c t room =
    rules_keep c t (drop 1 (discover_rules c t room)) refl (searched c t)
    (λ h passed. accepted_keeps c t (searched c t) (searching_fits c t h (free_place c t) (free_found t c.setup.k (eqb-false (free_place c t) 0 passed.1.1.0)).place) refl refl)
