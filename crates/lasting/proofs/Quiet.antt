-- Quiet keeps fit.
use Prim.Native.Nat.{ℕ}
use mathlib.Core.Path.{◌≡◌, refl, ◌∙◌}
use mathlib.Core.Bool.{Bool, true, false, ◌&&◌, ◌||◌}
use mathlib.Core.List.{List, []}
use native.Mathlib.Omega.{arith}
use lib.ListN.{drop}
use lib.Dec.{ltb, eqb}
use borrow.Author.Tests.{ltb-true}
use Rattle.ground.specs.Choose.{choose}
use Rattle.refusal.specs.declared.Refusal.TheVariants.{NotWaiting}
use Rattle.board.specs.declared.Node.{Node}
use Rattle.board.specs.Node.{none}
use Rattle.board.specs.Table.{at, put, listed_at}
use Rattle.board.specs.Wanted.{some_listed}
use Rattle.board.specs.Change.{missed, relisted}
use Rattle.board.proofs.Numbered.{relisted_listed}
use Rattle.setup.specs.Fitness.{FitTable}
use Rattle.setup.proofs.Tables.{table_passes}
use Rattle.coordinator.specs.declared.Phase.{Phase}
use Rattle.coordinator.specs.declared.Phase.TheVariants.{Resting, Awaiting, ForwardDue, ReturnDue, Seeking, Unknown}
use Rattle.coordinator.specs.declared.Coordinator.{Coordinator}
use Rattle.coordinator.specs.Phase.{phase_of}
use Rattle.coordinator.specs.Fit.{phase_fits, hold_fits, fits}
use Rattle.coordinator.specs.Change.{with_phase, holding}
use Rattle.coordinator.proofs.Phases.{resting, phase_back}
use Rattle.coordinator.proofs.Fitting.{listed_told, awaited, fits_of, fits_setup, fits_searched, fits_hold, fits_last}
use Rattle.coordinator.proofs.Changing.{with_phase_fits}
use Rattle.steps.specs.After.{accepted, rests}
use Rattle.steps.specs.Quiet.{dropped_at, missed_at, quiet_value, quiet_rules, quiet_in, quiet_of}
use Rattle.lasting.proofs.Tables.{missed_follows, clear_boards, clear_few, relisted_fit}
use Rattle.lasting.proofs.Keeps.{Keeps, accepted_keeps, Stays, refused_keeps, rules_keep, put_stays, some_same, table_fit, phase_keeps}
use Rattle.lasting.proofs.Seek.{seek_quiet_keeps}

-- a hold is fit wherever somebody is listed
hold_some : (held : ℕ) (t u : List Node) → hold_fits held t ≡ true → some_listed u ≡ true → hold_fits held u ≡ true
unfolding hold_fits
hold_some held t u h s = rw s (go (eqb held 0) (eqb held 1) (some_listed t) h)
  where
    go : (a b x : Bool) → (a || (b && x)) ≡ true → (a || (b && true)) ≡ true
    go true b x e = refl
    go false true x e = refl
    go false false x e = e

module _ (c : Coordinator) (t : List Node) (h : fits c t ≡ true) (board : ℕ) (l : listed_at t board ≡ true) where
  -- at rest, the board's record cleared, the indexes of all who remain counted anew and the list owed to them
  dropped_fits : (held : ℕ) → hold_fits held (relisted (put t board none)) ≡ true → fits (record { setup = c.setup; last = c.last; held = held; searched = c.searched; stand = (with_phase c Resting).stand; kept = c.kept; found = c.found }) (relisted (put t board none)) ≡ true
  unfolding phase_fits
  dropped_fits held s = fits_of _ (relisted (put t board none)) fit.boards.forty (fits_setup c t h) (table_passes c.setup.k (relisted (put t board none)) fit) (rw (phase_back resting) refl) (rw (phase_back resting) refl) (fits_searched c t h) s (fits_last c t h)
    where
      fit : FitTable c.setup.k (relisted (put t board none))
      fit = relisted_fit c.setup.k (put t board none) (clear_boards c.setup.k t (table_fit c t h) board (listed_told t board l)) (clear_few c.setup.k t (table_fit c t h) board (listed_told t board l))

  dropped_keeps : Keeps c t (dropped_at c t board)
  unfolding choose hold_fits
  dropped_keeps = go (some_listed (put t board none)) refl
    where
      go : (b : Bool) → some_listed (put t board none) ≡ b → Keeps c t (record { coordinator = choose b (with_phase c Resting) (holding (with_phase c Resting) false); nodes = relisted (put t board none); says = rests; bytes = []; joined = 0; dropped = board })
      go true s = accepted_keeps c t _ (dropped_fits c.held (hold_some c.held t (relisted (put t board none)) (fits_hold c t h) (some_same (put t board none) (relisted (put t board none)) (relisted_listed (put t board none)) ∙ s))) refl refl
      go false s = accepted_keeps c t _ (dropped_fits 0 refl) refl refl

  counted : ltb (at t board).misses 2 ≡ true → Stays c.setup.k t (put t board (missed (at t board)))
  counted m = put_stays c.setup.k t (table_fit c t h) board (missed (at t board)) (listed_told t board l) (missed_follows (at t board) (omega (arith, ltb-true (at t board).misses 2 m))) refl

  missed_keeps : Keeps c t (missed_at c t board)
  unfolding choose phase_fits
  missed_keeps = go (ltb (at t board).misses 2) refl
    where
      go : (b : Bool) → ltb (at t board).misses 2 ≡ b → Keeps c t (choose b (accepted (with_phase c Resting) (put t board (missed (at t board))) rests []) (dropped_at c t board))
      go true m = accepted_keeps c t _ (phase_keeps c t h _ (counted m) c.kept resting refl refl) refl refl
      go false m = dropped_keeps

quiet_value_lem : (c : Coordinator) (t : List Node) → fits c t ≡ true → (p : Phase) → phase_of c.stand ≡ p → Keeps c t (quiet_value p c t)
unfolding choose phase_fits
quiet_value_lem c t h Resting e = refused_keeps c t NotWaiting refl
quiet_value_lem c t h (Awaiting b x q a) e = go a
  where
    go : (acked : Bool) → Keeps c t (choose acked (accepted (with_phase c Resting) t rests []) (missed_at c t b))
    go true = accepted_keeps c t _ (with_phase_fits c t h resting refl refl) refl refl
    go false = missed_keeps c t h b (awaited c t h e).listed
quiet_value_lem c t h (ForwardDue b q) e = refused_keeps c t NotWaiting refl
quiet_value_lem c t h (ReturnDue b) e = refused_keeps c t NotWaiting refl
quiet_value_lem c t h (Seeking position part) e = seek_quiet_keeps c t h position part e
quiet_value_lem c t h Unknown e = refused_keeps c t NotWaiting refl

pub quiet_keeps : (c : Coordinator) (t : List Node) → Keeps c t (quiet_of c t)
unfolding quiet_in
quiet_keeps c t = rules_keep c t (drop 1 (quiet_rules (phase_of c.stand) c t)) refl (quiet_value (phase_of c.stand) c t) (λ h passed. quiet_value_lem c t h (phase_of c.stand) refl)
