-- Quiet: the message to the board went unanswered where no frame was accepted in its wait, and the third drops the board.
use Prim.Native.Nat.{ℕ, ◌+◌, ◌≤◌, ◌<◌}
use native.Mathlib.Omega.{arith}
use native.Mathlib.Decide.{ℕ_discrete}
use mathlib.Core.Path.{◌≡◌, refl, sym, ap, subst, ◌∙◌}
use mathlib.Core.Bool.{Bool, true, false, ◌||◌, false≢true}
use mathlib.Core.List.{List, []}
use lib.Dec.{eqb, ltb}
use borrow.Author.Tests.{ltb-true, ltb-false, eq-eqb, ne_eqb}
use Rattle.ground.specs.Choose.{choose}
use Rattle.ground.proofs.Choices.{choose_yes, choose_no, or_left, or_right}
use Rattle.refusal.specs.declared.Refusal.TheVariants.{NotWaiting}
use Rattle.board.specs.declared.Node.{Node}
use Rattle.board.specs.Node.{none}
use Rattle.board.specs.Table.{at, put, listed_at}
use Rattle.board.specs.Wanted.{some_listed}
use Rattle.board.specs.Change.{missed, relisted}
use Rattle.coordinator.specs.declared.Found.{Found}
use Rattle.coordinator.specs.declared.Part.{Part}
use Rattle.coordinator.specs.declared.Part.TheVariants.{Search, IdentifyDue, Identify, Present, AssignDue, Assign}
use Rattle.coordinator.specs.declared.Phase.{Phase}
use Rattle.coordinator.specs.declared.Phase.TheVariants.{Resting, Awaiting, ForwardDue, ReturnDue, Seeking, Unknown}
use Rattle.coordinator.specs.declared.Coordinator.{Coordinator}
use Rattle.coordinator.specs.Phase.{phase_of}
use Rattle.coordinator.specs.Fit.{fits}
use Rattle.coordinator.specs.Change.{with_phase, holding, ended}
use Rattle.coordinator.proofs.Phases.{resting, seeking, phase_back}
use Rattle.coordinator.proofs.Fitting.{Board, listed_told, awaited, fit_told}
use Rattle.steps.specs.declared.Event.TheVariants.{Quiet}
use Rattle.steps.specs.After.{After, accepted, rests}
use Rattle.steps.specs.Seek.{quiet_in_seek}
use Rattle.steps.specs.Quiet.{dropped_at, missed_at, quiet_value, quiet_rules, quiet_in, quiet_of}
use Rattle.series.specs.Series.{is_seek}
use Rattle.series.specs.Observed.{recorded, Seen, changed, saw_quiet}
use Rattle.staying.proofs.Agreement.{InPart, Waits, Agrees, Gone, Thrice, Told, still_tells, changed_here, changed_other, changed_none, Changes, put_changes, inside, relist_changes, agrees_changed, listed_tells, seen_tells, refused_tells, rules_tell}

-- what quiet shows: the run is one more where the board was not heard, and a board that is dropped is listed no more
module _ (s : Seen) (a : After) (p : ℕ) where
  same_run : (s.heard || eqb s.awaited 0) ≡ true → (saw_quiet a s).run p ≡ s.run p
  same_run e = ap (λ (f : ℕ → ℕ). f p) (sym (choose_yes (s.heard || eqb s.awaited 0) s.run s.run _ e refl))

  unheard_run : s.heard ≡ false → 1 ≤ s.awaited → (saw_quiet a s).run p ≡ changed s.run s.awaited (s.run s.awaited + 1) p
  unheard_run e l = ap (λ (f : ℕ → ℕ). f p) (sym (choose_no (s.heard || eqb s.awaited 0) (changed s.run s.awaited (s.run s.awaited + 1)) s.run _ (rw (e, ne_eqb s.awaited 0 (λ z. omega arith)) refl) refl))

  dropped_listed : 1 ≤ a.dropped → (saw_quiet a s).listed p ≡ changed s.listed a.dropped false p
  dropped_listed h = ap (λ (f : ℕ → Bool). f p) (sym (choose_no (eqb a.dropped 0) (changed s.listed a.dropped false) s.listed _ (ne_eqb a.dropped 0 (λ e. omega arith)) refl))

-- nothing is waited for after a drop, whether or not joins are still held
at_rest : (s : Seen) (f : Found) (c : Coordinator) (held : Bool) → Waits s f (phase_of (choose held (with_phase c Resting) (holding (with_phase c Resting) false)).stand)
unfolding choose
at_rest s f c true = rw (phase_back resting) tt
at_rest s f c false = rw (phase_back resting) tt

module _ (s : Seen) (c : Coordinator) (t : List Node) (h : fits c t ≡ true) (g : Agrees s c t) where
  -- no message to a board went unanswered: its ACK came, or the wait was for none
  ends_tells : (s.heard || eqb s.awaited 0) ≡ true → (c' : Coordinator) → Waits (saw_quiet (accepted c' t rests []) s) c'.found (phase_of c'.stand) → Told s t Quiet [] (accepted c' t rests [])
  unfolding choose
  ends_tells none c' wait = seen_tells Quiet [] refl (still_tells g (λ p. refl) (λ p. refl) (λ p. refl) (λ p. refl) (λ p. same_run s (accepted c' t rests []) p none) (λ p. refl) wait)

  module _ (b : ℕ) (board : Board c t b) (for : s.awaited ≡ b) (unheard : s.heard ≡ false) where
    -- the run is one more, by a miss as by a drop
    run_more : (p : ℕ) → (saw_quiet (dropped_at c t b) s).run p ≡ changed s.run b (s.run b + 1) p
    run_more p = unheard_run s (dropped_at c t b) p unheard (omega (arith, board.from)) ∙ ap (λ (q : ℕ). changed s.run q (s.run q + 1) p) for

    -- the first miss and the second
    missed_tells : ltb (at t b).misses 2 ≡ true → Told s t Quiet [] (accepted (with_phase c Resting) (put t b (missed (at t b))) rests [])
    unfolding choose
    missed_tells few = seen_tells Quiet [] refl (listed_tells g (put_changes t b (missed (at t b)) board.from (inside c t h board) board.listed refl) (omega (arith, one)) (g.who b board.listed) (λ two three. omega (arith, one)) (record { listed = changed_none s.listed b true (g.listed b ∙ board.listed); run = run_more; who = changed_none s.who b (s.who b) refl }) (rw (phase_back resting) tt))
      where
        one : (s.run b ≡ (at t b).misses) × ((at t b).misses < 2)
        one = (g.run b board.listed, ltb-true (at t b).misses 2 few)

    -- the third miss
    dropped_tells : ltb (at t b).misses 2 ≡ false → Told s t Quiet [] (dropped_at c t b)
    dropped_tells third = seen_tells Quiet [] refl (record { agrees = agrees_changed g change (λ e. absurd (false≢true e)) (λ e. absurd (false≢true e)) (record { listed = λ p. dropped_listed s (dropped_at c t b) p board.from; run = run_more; who = changed_none s.who b (s.who b) refl }) (at_rest (saw_quiet (dropped_at c t b) s) (dropped_at c t b).coordinator.found c (some_listed (put t b none))); only = λ p. only p (ℕ_discrete p b); then = λ p. then p (ℕ_discrete p b) })
      where
        change : Changes t (relisted (put t b none)) b false 0 (recorded none)
        change = relist_changes (put_changes t b none board.from (inside c t h board) refl refl)

        two : s.run b ≡ 2
        two = omega (arith, g.run b board.listed, ltb-false (at t b).misses 2 third, ((fit_told c t h).table.boards.ranges b (listed_told t b board.listed)).misses)

        only : (p : ℕ) → Dec (p ≡ b) → Gone t (relisted (put t b none)) p → Thrice s (saw_quiet (dropped_at c t b) s) p
        only p (yes e) (l, n) = (ap s.run e ∙ two, run_more p ∙ changed_here s.run b (s.run b + 1) p e ∙ ap (λ (n : ℕ). n + 1) two)
        only p (no ne) (l, n) = absurd (false≢true (sym n ∙ change.listed p ∙ changed_other (listed_at t) b false p ne ∙ l))

        then : (p : ℕ) → Dec (p ≡ b) → Thrice s (saw_quiet (dropped_at c t b) s) p → Gone t (relisted (put t b none)) p
        then p (yes e) (m, n) = (ap (listed_at t) e ∙ board.listed, change.listed p ∙ changed_here (listed_at t) b false p e)
        then p (no ne) (m, n) = absurd (let z : ⊥ = omega (arith, run_more p ∙ changed_other s.run b (s.run b + 1) p ne) in z)

    miss_tells : Told s t Quiet [] (missed_at c t b)
    unfolding choose
    miss_tells = go (ltb (at t b).misses 2) refl
      where
        go : (few : Bool) → ltb (at t b).misses 2 ≡ few → Told s t Quiet [] (choose few (accepted (with_phase c Resting) (put t b (missed (at t b))) rests []) (dropped_at c t b))
        go true e = missed_tells e
        go false e = dropped_tells e

  -- in the exchange by which a board joins: it breaks off, or Set Address is due
  breaks : s.awaited ≡ 0 → Told s t Quiet [] (accepted (ended c) t rests [])
  breaks e = ends_tells (or_right s.heard (eqb s.awaited 0) (eq-eqb s.awaited 0 e)) (ended c) (rw (phase_back resting) tt)

  seek_tells : (p : ℕ) (part : Part) → InPart s c.found part → Told s t Quiet [] (quiet_in_seek part p c t)
  seek_tells p Search w = breaks w.1
  seek_tells p IdentifyDue w = refused_tells s c t Quiet [] g NotWaiting
  seek_tells p Identify w = ends_tells (or_right s.heard (eqb s.awaited 0) (eq-eqb s.awaited 0 w.0.1)) (with_phase c (Seeking p AssignDue)) (rw (phase_back (seeking p AssignDue)) (w.1, refl))
  seek_tells p Present w = breaks w.0.1
  seek_tells p AssignDue w = refused_tells s c t Quiet [] g NotWaiting
  seek_tells p Assign w = breaks w.0.1

  value : (p : Phase) → phase_of c.stand ≡ p → Told s t Quiet [] (quiet_value p c t)
  unfolding choose
  value Resting e = refused_tells s c t Quiet [] g NotWaiting
  value (Awaiting b x q a) e = go a (subst (Waits s c.found) e g.wait)
    where
      go : (acked : Bool) → (s.awaited ≡ b) × ((s.heard ≡ acked) × (is_seek s.wait ≡ false)) → Told s t Quiet [] (choose acked (accepted (with_phase c Resting) t rests []) (missed_at c t b))
      go true w = ends_tells (or_left s.heard (eqb s.awaited 0) w.1.0) (with_phase c Resting) (rw (phase_back resting) tt)
      go false w = miss_tells b (awaited c t h e) w.0 w.1.0
  value (ForwardDue b q) e = refused_tells s c t Quiet [] g NotWaiting
  value (ReturnDue b) e = refused_tells s c t Quiet [] g NotWaiting
  value (Seeking p part) e = seek_tells p part (subst (Waits s c.found) e g.wait)
  value Unknown e = refused_tells s c t Quiet [] g NotWaiting

  pub quiet_tells : Told s t Quiet [] (quiet_of c t)
  unfolding quiet_in
  quiet_tells = rules_tell s c t Quiet [] g (quiet_rules (phase_of c.stand) c t) (quiet_value (phase_of c.stand) c t) (λ passed. value (phase_of c.stand) refl)
