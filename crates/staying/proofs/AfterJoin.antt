-- Join: the board comes on the list, or is on it already, and its run begins anew.
use Prim.Native.Nat.{ℕ, ◌≤◌}
use native.Mathlib.Omega.{arith}
use mathlib.Core.Path.{◌≡◌, refl}
use mathlib.Core.Bool.{true, not, false≢true}
use mathlib.Core.List.{List, []}
use lib.ListN.{length}
use lib.Dec.{eqb}
use borrow.Author.Tests.{eqb-false, not-false}
use Rattle.ground.proofs.Choices.{and_left}
use Rattle.refusal.proofs.Rules.{Passed}
use Rattle.board.specs.declared.Node.{Node}
use Rattle.board.specs.Node.{is_kind, version_of}
use Rattle.board.specs.Table.{put}
use Rattle.board.specs.Change.{joined_node, relisted}
use Rattle.setup.specs.Fitness.{Position}
use Rattle.coordinator.specs.declared.Coordinator.{Coordinator}
use Rattle.coordinator.specs.declared.Found.{Found}
use Rattle.coordinator.specs.declared.Phase.{Phase}
use Rattle.coordinator.specs.declared.Phase.TheVariants.{Resting, Awaiting, ForwardDue, ReturnDue, Seeking, Unknown}
use Rattle.coordinator.specs.Phase.{phase_of}
use Rattle.coordinator.specs.Fit.{fits}
use Rattle.coordinator.proofs.Fitting.{fit_told, fits_forty}
use Rattle.steps.specs.declared.Event.TheVariants.{Join}
use Rattle.steps.specs.Join.{is_resting, chosen, join_rules, joined_as, join_of}
use Rattle.steps.proofs.Chosen.{chosen_within}
use Rattle.series.specs.Observed.{Seen, saw_event}
use Rattle.lasting.proofs.Join.{idle}
use Rattle.staying.proofs.Agreement.{Waits, Agrees, Told, Changes, put_changes, relist_changes, listed_tells, seen_tells, rules_tell}

-- at rest nothing is asked of the wait
pub rests_waits : (s : Seen) (f : Found) (p : Phase) → is_resting p ≡ true → Waits s f p
rests_waits s f Resting e = tt
rests_waits s f (Awaiting b x q a) e = absurd (false≢true e)
rests_waits s f (ForwardDue b q) e = tt
rests_waits s f (ReturnDue b) e = tt
rests_waits s f (Seeking p part) e = absurd (false≢true e)
rests_waits s f Unknown e = tt

module _ (c : Coordinator) (t : List Node) (h : fits c t ≡ true) (kind mac session version : ℕ) (one : is_kind kind ≡ true) (found : chosen t c.setup.k mac ≡ 0 → ⊥) where
  -- whether it was listed or not, the board is listed then, has no misses, and is who the join says
  pub joined_changes : Changes t (relisted (put t (chosen t c.setup.k mac) (joined_node kind mac session version))) (chosen t c.setup.k mac) true 0 (record { kind = kind; version = version_of version; mac = mac })
  joined_changes = relist_changes (put_changes t (chosen t c.setup.k mac) (joined_node kind mac session version) place.from inside_table (and_left (not (eqb kind 0)) _ one) refl)
    where
      place : Position c.setup.k (chosen t c.setup.k mac)
      place = chosen_within t c.setup.k mac found

      inside_table : chosen t c.setup.k mac ≤ length t
      inside_table = omega (arith, place.up_to, (fit_told c t h).setup.pool.up_to, fits_forty c t h)

module _ (s : Seen) (c : Coordinator) (t : List Node) (h : fits c t ≡ true) (g : Agrees s c t) where
  pub join_tells : (kind mac session version : ℕ) → Told s t (Join kind mac session version) [] (join_of c t kind mac session version)
  unfolding join_of
  join_tells kind mac session version = rules_tell s c t (Join kind mac session version) [] g (join_rules c t kind mac version) _ (λ passed. joins passed)
    where
      joins : Passed (join_rules c t kind mac version) → Told s t (Join kind mac session version) [] (joined_as c t kind mac session version)
      joins passed = seen_tells (Join kind mac session version) [] refl (listed_tells g (joined_changes c t h kind mac session version one found) refl refl (λ two three. omega arith) (record { listed = λ p. refl; run = λ p. refl; who = λ p. refl }) (rests_waits (saw_event (Join kind mac session version) [] (joined_as c t kind mac session version) s) c.found (phase_of c.stand) (idle _ _ passed.1.1.1.0)))
        where
          one : is_kind kind ≡ true
          one = not-false (is_kind kind) passed.1.0

          found : chosen t c.setup.k mac ≡ 0 → ⊥
          found = eqb-false (chosen t c.setup.k mac) 0 passed.1.1.1.1.1.1.0
