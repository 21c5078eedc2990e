-- What a join is: a refusal, or work.
use Prim.Native.Nat.{ℕ, ◌≤◌, ◌<◌}
use native.Mathlib.Omega.{arith}
use mathlib.Core.Path.{◌≡◌, refl}
use mathlib.Core.Bool.{true, false, not, false≢true}
use mathlib.Core.List.{List}
use lib.Dec.{eqb, ltb}
use borrow.Author.Tests.{not-false}
use Rattle.ground.proofs.Choices.{neither}
use Rattle.refusal.specs.declared.Refusal.{Refusal}
use Rattle.refusal.proofs.Rules.{Passed, each, by_rules}
use Rattle.board.specs.declared.Node.{Node}
use Rattle.board.specs.declared.Wanted.TheVariants.{Listed, Owed}
use Rattle.board.specs.Table.{put}
use Rattle.board.specs.Wanted.{lowest_of, count_of}
use Rattle.board.specs.Change.{joined_node, relisted}
use Rattle.board.proofs.Counts.{count_put_most, owed_listed}
use Rattle.board.proofs.Numbered.{count_relisted}
use Rattle.coordinator.specs.declared.Coordinator.{Coordinator}
use Rattle.coordinator.specs.declared.Phase.{Phase}
use Rattle.coordinator.specs.declared.Phase.TheVariants.{Resting, Awaiting, ForwardDue, ReturnDue, Seeking, Unknown}
use Rattle.coordinator.specs.Phase.{phase_of}
use Rattle.coordinator.specs.Fit.{fits}
use Rattle.coordinator.specs.Change.{holding}
use Rattle.coordinator.proofs.Fitting.{fits_forty}
use Rattle.steps.specs.After.{After, refused}
use Rattle.steps.specs.Join.{is_resting, is_busy, chosen, join_rules, joined_as, join_of}
use Rattle.turns.specs.Potential.{under_way, potential}
use Rattle.turns.proofs.Numbers.{ahead_join}
use Rattle.turns.proofs.Moves.{Moves, Works, works, guarded, plain_rests, listed_most}

-- the last one offered stays, and the potential is no higher while somebody is listed
pub record Lowers (c : Coordinator) (t : List Node) (a : After) : Type 0 where
  pub last : a.coordinator.last ≡ c.last
  pub most : fits a.coordinator a.nodes ≡ true → 1 ≤ count_of Listed t → 1 ≤ count_of Listed a.nodes → potential a.coordinator a.nodes ≤ potential c t

-- a phase that rests is the one
rests_only : (p : Phase) → is_resting p ≡ true → p ≡ Resting
rests_only Resting h = refl
rests_only (Awaiting b e q a) h = absurd (false≢true h)
rests_only (ForwardDue b q) h = absurd (false≢true h)
rests_only (ReturnDue b) h = absurd (false≢true h)
rests_only (Seeking p part) h = absurd (false≢true h)
rests_only Unknown h = absurd (false≢true h)

module _ (c : Coordinator) (t : List Node) (h : fits c t ≡ true) where
  -- a board put on the list where joins were not held, and the list owed to all: the room for it was there
  join_falls : (p : ℕ) (n : Node) → phase_of c.stand ≡ Resting → eqb c.held 1 ≡ false → fits (holding c true) (relisted (put t p n)) ≡ true → 1 ≤ count_of Listed t → potential (holding c true) (relisted (put t p n)) < potential c t
  unfolding potential under_way
  join_falls p n w free f l =
      rw (w, free)
      (omega (
        arith,
        ahead_join c.setup.k (count_of Listed t) (count_of Listed (relisted (put t p n))) l (omega (arith, count_relisted (put t p n), count_put_most Listed t p n (fits_forty c t h))),
        owed_listed (relisted (put t p n)),
        listed_most (holding c true) (relisted (put t p n)) f,
      ))

  -- where nothing is waited for or due the panel rests
  pub idle : is_busy c t ≡ false → phase_of c.stand ≡ Resting
  idle e = rests_only (phase_of c.stand) (not-false (is_resting (phase_of c.stand)) (neither (not (is_resting (phase_of c.stand))) (ltb 0 (lowest_of t Owed c.setup.k)) e).0)

  module _ (kind mac session version : ℕ) where
    -- it is work
    join_works : Passed (join_rules c t kind mac version) → Works c t (joined_as c t kind mac session version)
    join_works passed = record { said = refl; nobody = plain_rests.1; last = refl; falls = λ f n m. join_falls (chosen t c.setup.k mac) (joined_node kind mac session version) (idle passed.1.1.1.0) passed.1.1.1.1.0 f n }

    -- so a join is a refusal, or work
    pub join_moves : Moves c t (join_of c t kind mac session version)
    unfolding join_of
    join_moves = guarded c t (join_rules c t kind mac version) (joined_as c t kind mac session version) (λ passed. works (join_works passed))

    -- refused or not, a join leaves the potential no higher
    pub join_lowers : Lowers c t (join_of c t kind mac session version)
    unfolding join_of
    join_lowers = by_rules (Lowers c t) (join_rules c t kind mac version) (refused c t) (joined_as c t kind mac session version) (each unchanged (join_rules c t kind mac version)) (λ passed. record { last = refl; most = λ f n m. omega (arith, (join_works passed).falls f n m) })
      where
        unchanged : (r : Refusal) → Lowers c t (refused c t r)
        unchanged r = record { last = refl; most = λ f n m. omega arith }
