-- A join keeps fit.
use Prim.Native.Nat.{ℕ, ◌≤◌}
use mathlib.Core.Path.{◌≡◌, refl, sym, ◌∙◌}
use mathlib.Core.Bool.{Bool, true, false, ◌||◌, not, false≢true}
use mathlib.Core.List.{List}
use native.Mathlib.Omega.{arith}
use lib.ListN.{length, drop}
use lib.Dec.{eqb}
use borrow.Author.Tests.{eqb-false, not-true, not-false}
use Rattle.ground.proofs.Choices.{and_left, and_right}
use Rattle.refusal.specs.declared.Refusal.{Refusal}
use Rattle.refusal.proofs.Rules.{Passed, each, by_rules}
use Rattle.board.specs.declared.Node.{Node}
use Rattle.board.specs.Node.{is_kind, is_mac}
use Rattle.board.specs.Table.{at, put, listed_at}
use Rattle.board.specs.Change.{joined_node, relisted}
use Rattle.board.specs.Types.{FewTypes}
use Rattle.board.proofs.Numbered.{relisted_listed}
use Rattle.setup.specs.Fitness.{Position, Listed, InRanges, FitBoards, FitTable}
use Rattle.setup.proofs.Pools.{mac_told}
use Rattle.board.proofs.Versions.{version_is}
use Rattle.setup.proofs.Tables.{table_passes}
use Rattle.coordinator.specs.declared.Phase.{Phase}
use Rattle.coordinator.specs.declared.Phase.TheVariants.{Resting, Awaiting, ForwardDue, ReturnDue, Seeking, Unknown}
use Rattle.coordinator.specs.declared.Kept.{Kept}
use Rattle.coordinator.specs.declared.Coordinator.{Coordinator}
use Rattle.coordinator.specs.Phase.{phase_of}
use Rattle.coordinator.specs.Fit.{phase_fits, hold_fits, fits}
use Rattle.coordinator.specs.Change.{holding}
use Rattle.coordinator.proofs.Fitting.{listed_told, listed_some, fits_of, fits_setup, fits_seek, fits_searched, fits_last, fit_told}
use Rattle.steps.specs.After.{After, refused}
use Rattle.steps.specs.Join.{is_resting, known, chosen, too_many_with, join_rules, join_of}
use Rattle.steps.proofs.Chosen.{chosen_within, chosen_own}
use Rattle.steps.proofs.TooMany.{few_with}
use Rattle.lasting.proofs.Tables.{join_boards, join_listed, relisted_fit}
use Rattle.lasting.proofs.Keeps.{Keeps, accepted_keeps, rules_keep, some_same, table_fit}

-- a board's record put at a position: the boards are fit, it is listed there, and the rule on the types is kept
abbrev Placed : ℕ → List Node → ℕ → Node → Type 0
Placed k t p n = (FitBoards k (put t p n)) × (listed_at (put t p n) p ≡ true) × (FewTypes (put t p n))

module _ (c : Coordinator) (t : List Node) (h : fits c t ≡ true) (kind mac session version : ℕ) (is_one : is_kind kind ≡ true) (has_mac : is_mac mac ≡ true) where
  new_ranges : InRanges (joined_node kind mac session version)
  new_ranges =
      record {
        listed = eqb-false kind 0 (not-true (eqb kind 0) (and_left (not (eqb kind 0)) (not (eqb kind 165)) is_one));
        kind = eqb-false kind 165 (not-true (eqb kind 165) (and_right (not (eqb kind 0)) (not (eqb kind 165)) is_one));
        mac = mac_told mac has_mac;
        misses = omega arith;
        owed = omega arith;
        version = version_is version;
      }

  -- a board that joins for the first time, and one that comes back: its MAC is nobody else's, and there are not too many types with it
  placed : too_many_with t (known t c.setup.k mac) kind version ≡ false → eqb (chosen t c.setup.k mac) 0 ≡ false → Placed c.setup.k t (chosen t c.setup.k mac) (joined_node kind mac session version)
  placed kept full = (join_boards c.setup.k t f _ _ p inside new_ranges own, join_listed c.setup.k t f _ _ p inside new_ranges own, few_with t c.setup.k kind mac session version p.from inside kept)
    where
      f : FitTable c.setup.k t
      f = table_fit c t h

      few : c.setup.k ≤ 40
      few = (fit_told c t h).setup.pool.up_to

      p : Position c.setup.k (chosen t c.setup.k mac)
      p = chosen_within t c.setup.k mac (eqb-false (chosen t c.setup.k mac) 0 full)

      inside : chosen t c.setup.k mac ≤ length t
      inside = omega (arith, p.up_to, few, f.boards.forty)

      own : (q : ℕ) → Listed t q → (at t q).mac ≡ mac → q ≡ chosen t c.setup.k mac
      own q l m = sym (chosen_own t c.setup.k mac few f q l m)

-- nothing is named where nothing is waited for or due
resting_fits : (p : Phase) (t : List Node) (m : Kept) → is_resting p ≡ true → phase_fits p t m ≡ true
unfolding phase_fits
resting_fits Resting t m e = refl
resting_fits (Awaiting b x q a) t m e = absurd (false≢true e)
resting_fits (ForwardDue b q) t m e = absurd (false≢true e)
resting_fits (ReturnDue b) t m e = absurd (false≢true e)
resting_fits (Seeking p part) t m e = refl
resting_fits Unknown t m e = e

-- every index is counted anew, the list is owed to all, and joins are held: the board that joined is listed
joined_fits : (c : Coordinator) (t : List Node) → fits c t ≡ true → is_resting (phase_of c.stand) ≡ true → (p : ℕ) (n : Node) → Placed c.setup.k t p n → fits (holding c true) (relisted (put t p n)) ≡ true
unfolding hold_fits
joined_fits c t h rest p n (f, l, few) = fits_of (holding c true) (relisted (put t p n)) fit.boards.forty (fits_setup c t h) (table_passes c.setup.k (relisted (put t p n)) fit) (resting_fits (phase_of c.stand) (relisted (put t p n)) c.kept rest) (fits_seek c t h) (fits_searched c t h) (some_same (put t p n) (relisted (put t p n)) (relisted_listed (put t p n)) ∙ listed_some (put t p n) p f.forty l) (fits_last c t h)
  where
    fit : FitTable c.setup.k (relisted (put t p n))
    fit = relisted_fit c.setup.k (put t p n) f few

-- what is busy neither by the one test nor by the other passes the first
pub idle : (a b : Bool) → (not a || b) ≡ false → a ≡ true
idle true b e = refl
idle false b e = sym e

pub join_keeps : (c : Coordinator) (t : List Node) (kind mac session version : ℕ) → Keeps c t (join_of c t kind mac session version)
unfolding join_of
join_keeps c t kind mac session version = rules_keep c t (drop 1 (join_rules c t kind mac version)) refl _ (λ h passed. accepted_keeps c t _ (joined h passed) refl refl)
  where
    joined : fits c t ≡ true → Passed (drop 1 (join_rules c t kind mac version)) → fits (holding c true) (relisted (put t (chosen t c.setup.k mac) (joined_node kind mac session version))) ≡ true
    joined h passed = joined_fits c t h (idle (is_resting (phase_of c.stand)) _ passed.1.1.0) _ _ (placed c t h kind mac session version (not-false _ passed.0) (not-false _ passed.1.0) passed.1.1.1.1.0 passed.1.1.1.1.1.0)

-- who joined is within the ranges, at a position from 1 to k
pub record Joined (c : Coordinator) (kind mac p : ℕ) : Type 0 where
  pub is_one : is_kind kind ≡ true
  pub has_mac : is_mac mac ≡ true
  pub place : Position c.setup.k p

-- a join that names a position was taken
pub join_taken : (c : Coordinator) (t : List Node) (kind mac session version : ℕ) → 1 ≤ (join_of c t kind mac session version).joined → Joined c kind mac (join_of c t kind mac session version).joined
unfolding join_of
join_taken c t kind mac session version = by_rules (λ (a : After). 1 ≤ a.joined → Joined c kind mac a.joined) (join_rules c t kind mac version) (refused c t) _ (each nobody (join_rules c t kind mac version)) (λ passed n. taken passed)
  where
    nobody : (r : Refusal) → 1 ≤ (refused c t r).joined → Joined c kind mac (refused c t r).joined
    nobody r n = absurd (let z : ⊥ = omega arith in z)

    taken : Passed (join_rules c t kind mac version) → Joined c kind mac (chosen t c.setup.k mac)
    taken passed = record { is_one = one; has_mac = own; place = there.0.within (chosen t c.setup.k mac) (listed_told _ (chosen t c.setup.k mac) there.1) }
      where
        one : is_kind kind ≡ true
        one = not-false (is_kind kind) passed.1.0

        own : is_mac mac ≡ true
        own = not-false (is_mac mac) passed.1.1.0

        there : Placed c.setup.k t (chosen t c.setup.k mac) (joined_node kind mac session version)
        there = placed c t (not-false (fits c t) passed.0) kind mac session version one own passed.1.1.1.1.1.0 passed.1.1.1.1.1.1.0
