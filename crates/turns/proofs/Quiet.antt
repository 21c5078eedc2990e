-- What a quiet is: a refusal without a wait, else work.
use Prim.Native.Nat.{ℕ, ◌+◌, ◌≤◌, ◌<◌}
use native.Mathlib.Omega.{arith}
use mathlib.Core.Path.{◌≡◌, refl, sym, ap, ◌∙◌}
use mathlib.Core.Bool.{Bool, true, false, false≢true}
use mathlib.Core.List.{List, []}
use lib.Dec.{ltb}
use Rattle.ground.specs.Choose.{choose}
use Rattle.ground.specs.Below.{one}
use Rattle.refusal.specs.declared.Refusal.TheVariants.{NotWaiting}
use Rattle.board.specs.declared.Node.{Node}
use Rattle.board.specs.declared.Wanted.TheVariants.{Listed, Owed}
use Rattle.board.specs.Node.{none}
use Rattle.board.specs.Table.{at, put}
use Rattle.board.specs.Wanted.{count_of, some_listed}
use Rattle.board.specs.Change.{missed, relisted}
use Rattle.board.proofs.Counts.{count_put, owed_listed, counted_listed}
use Rattle.board.proofs.Numbered.{count_relisted}
use Rattle.coordinator.specs.declared.Coordinator.{Coordinator}
use Rattle.coordinator.specs.declared.Exchange.{Exchange}
use Rattle.coordinator.specs.declared.Exchange.TheVariants.{Offer, List as Listing, Forward, Return}
use Rattle.coordinator.specs.declared.Phase.{Phase}
use Rattle.coordinator.specs.declared.Phase.TheVariants.{Resting, Awaiting, ForwardDue, ReturnDue, Seeking, Unknown}
use Rattle.coordinator.specs.Phase.{phase_of}
use Rattle.coordinator.specs.Fit.{fits}
use Rattle.coordinator.specs.Change.{with_phase, holding}
use Rattle.coordinator.proofs.Phases.{resting, phase_back}
use Rattle.coordinator.proofs.Fitting.{Board, fits_forty, awaited}
use Rattle.steps.specs.After.{accepted, rests}
use Rattle.steps.specs.Quiet.{dropped_at, missed_at, quiet_value, quiet_rules, quiet_in, quiet_of}
use Rattle.turns.specs.Potential.{unheld, under_way, potential}
use Rattle.turns.proofs.Numbers.{ahead_drop}
use Rattle.turns.proofs.Moves.{Moves, works, refusing, guarded, plain_rests, listed_most, put_keeps, ended}
use Rattle.turns.proofs.Seek.{seek_quiet_moves}

-- a wait has at least its end under way
waiting_least : (k b q : ℕ) (e : Exchange) (a : Bool) (owed : ℕ) → 1 ≤ under_way k (Awaiting b e q a) owed
unfolding under_way
waiting_least k b q Offer a owed = omega arith
waiting_least k b q Listing a owed = omega arith
waiting_least k b q Forward true owed = omega arith
waiting_least k b q Forward false owed = omega arith
waiting_least k b q Return a owed = omega arith

module _ (c : Coordinator) (t : List Node) (h : fits c t ≡ true) where
  module _ {b q : ℕ} {e : Exchange} {a : Bool} (w : phase_of c.stand ≡ Awaiting b e q a) where
    -- one board less is listed after the drop
    one_less : count_of Listed (relisted (put t b none)) + 1 ≡ count_of Listed t
    one_less = omega (arith, count_relisted (put t b none), count_put Listed t b none (fits_forty c t h) here.from (omega (arith, here.up_to, here.few)), ap one here.listed)
      where
        here : Board c t b
        here = awaited c t h w

    -- the room that the drop leaves takes the lists that it owes
    drop_falls : 1 ≤ count_of Listed (relisted (put t b none)) → potential (with_phase c Resting) (relisted (put t b none)) < potential c t
    unfolding potential under_way
    drop_falls n =
        rw (phase_back resting, w)
        (omega (
          arith,
          ahead_drop c.setup.k (count_of Listed t) (count_of Listed (relisted (put t b none))) (unheld c.held) n one_less,
          waiting_least c.setup.k b q e a (count_of Owed t),
          owed_listed (relisted (put t b none)),
          one_less,
          listed_most c t h,
        ))

    dropping : (s : Bool) → some_listed (put t b none) ≡ s → Moves c t (record { coordinator = choose s (with_phase c Resting) (holding (with_phase c Resting) false); nodes = relisted (put t b none); says = rests; bytes = []; joined = 0; dropped = b })
    unfolding choose
    dropping true s = works (record { said = refl; nobody = plain_rests.1; last = refl; falls = λ f n m. drop_falls m })
    dropping false s = works (record { said = refl; nobody = plain_rests.1; last = refl; falls = λ f n m. absurd (false≢true (sym s ∙ counted_listed (put t b none) (omega (arith, count_relisted (put t b none))))) })

    missing : (s : Bool) → Moves c t (choose s (accepted (with_phase c Resting) (put t b (missed (at t b))) rests []) (dropped_at c t b))
    unfolding choose
    missing true = ended c t h (put t b (missed (at t b))) rests [] w plain_rests (put_keeps c t h Listed (missed (at t b)) here refl) (λ e. put_keeps c t h Owed (missed (at t b)) here refl)
      where
        here : Board c t b
        here = awaited c t h w
    missing false = dropping (some_listed (put t b none)) refl

    ending : (s : Bool) → Moves c t (choose s (accepted (with_phase c Resting) t rests []) (missed_at c t b))
    unfolding choose
    ending true = ended c t h t rests [] w plain_rests refl (λ e. refl)
    ending false = missing (ltb (at t b).misses 2)

  value_moves : (p : Phase) → phase_of c.stand ≡ p → Moves c t (quiet_value p c t)
  value_moves Resting w = refusing c t NotWaiting
  value_moves (Awaiting b e q a) w = ending w a
  value_moves (ForwardDue b q) w = refusing c t NotWaiting
  value_moves (ReturnDue b) w = refusing c t NotWaiting
  value_moves (Seeking position part) w = seek_quiet_moves c t h position part w
  value_moves Unknown w = refusing c t NotWaiting

  pub quiet_moves : Moves c t (quiet_of c t)
  unfolding quiet_in
  quiet_moves = guarded c t (quiet_rules (phase_of c.stand) c t) (quiet_value (phase_of c.stand) c t) (λ passed. value_moves (phase_of c.stand) refl)
