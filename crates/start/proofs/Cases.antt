-- What setup does, case by case.
use Prim.Native.Nat.{ℕ, ◌≤◌}
use mathlib.Core.Path.{◌≡◌}
use mathlib.Core.List.{List, []}
use lib.ListN.{length}
use borrow.Author.Tests.{not-false}
use Rattle.refusal.specs.declared.Refusal.{Refusal}
use Rattle.refusal.specs.Refusal.{ruled, refuses, gives}
use Rattle.refusal.proofs.Rules.{passed, gave, refused as refused-by}
use Rattle.setup.specs.Setup.{is_pool}
use Rattle.setup.proofs.Pools.{pool_told}
use Rattle.coordinator.specs.declared.Coordinator.{Coordinator}
use Rattle.coordinator.specs.Fresh.{fresh, blank_table}
use Rattle.steps.specs.declared.Answer.TheVariants.{Rest, Refuse}
use Rattle.steps.specs.After.{After, accepted, rests}
use Rattle.steps.specs.Start.{setup_of}
use Rattle.start.specs.declared.Begun.{Begun}
use Rattle.start.specs.Begin.{begun, begin_rules, begin_of}

-- what setup makes of a pool and a MAC that it takes
abbrev pub made : List ℕ → ℕ → ℕ → ℕ → ℕ → After
made a subnet internal mac session = accepted (fresh (setup_of a subnet internal mac session)) blank_table rests []

module _ (c : Coordinator) (n : ℕ) (a : List ℕ) (subnet internal mac session : ℕ) where
  abbrev refuse : Refusal → Begun
  refuse q = begun c 0 (Refuse q)

  abbrev afresh : Begun
  afresh = begun (fresh (setup_of a subnet internal mac session)) n Rest

  -- what is judged to be refused is refused
  pub begin_refused : (q : Refusal) → ruled (begin_rules n a mac) refuses (gives []) ≡ refuses q → begin_of c n a subnet internal mac session ≡ refuse q
  begin_refused q h = refused-by (begin_rules n a mac) [] refuse afresh q h

  -- what is judged fine has at most forty addresses, and starts afresh
  module _ (h : ruled (begin_rules n a mac) refuses (gives []) ≡ gives []) where
    pub fine_length : length a ≤ 40
    fine_length = (pool_told (length a) a (not-false (is_pool a) (gave (begin_rules n a mac) [] [] h).0.1.0)).up_to

    pub begin_fine : begin_of c n a subnet internal mac session ≡ afresh
    begin_fine = passed (begin_rules n a mac) refuse afresh (gave (begin_rules n a mac) [] [] h).0
