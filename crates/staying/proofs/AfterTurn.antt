-- Turn: a message to the board that is now waited for; nobody's run changes.
use Prim.Native.Nat.{ℕ}
use mathlib.Core.Path.{◌≡◌, refl, sym, ap, ◌∙◌}
use mathlib.Core.Bool.{Bool, true, false}
use mathlib.Core.List.{List, []}
use lib.Dec.{ltb}
use Rattle.ground.specs.Choose.{choose}
use Rattle.board.specs.declared.Node.{Node}
use Rattle.board.specs.Table.{at, put, listed_at}
use Rattle.board.specs.Round.{next_listed}
use Rattle.board.specs.Change.{unmarked}
use Rattle.coordinator.specs.declared.Part.{Part}
use Rattle.coordinator.specs.declared.Part.TheVariants.{Search, IdentifyDue, Identify, Present, AssignDue, Assign}
use Rattle.coordinator.specs.declared.Phase.{Phase}
use Rattle.coordinator.specs.declared.Phase.TheVariants.{Resting, Awaiting, ForwardDue, ReturnDue, Seeking, Unknown}
use Rattle.coordinator.specs.declared.Coordinator.{Coordinator}
use Rattle.coordinator.specs.Phase.{phase_of}
use Rattle.coordinator.specs.Fit.{fits}
use Rattle.coordinator.proofs.Phases.{offering, listing, forwarding, returning, seeking, phase_back}
use Rattle.coordinator.proofs.Fitting.{Board, board_listed}
use Rattle.steps.specs.declared.Event.TheVariants.{Turn}
use Rattle.steps.specs.Turn.{Due, owed_to, due_list, due_offer, due_own, due_identify, due_assign, due_seek, due_in, turn_rules, sent, turn_in, turn_of}
use Rattle.series.specs.Observed.{recorded, Seen, saw_sent}
use Rattle.lasting.proofs.Turn.{owed_listed}
use Rattle.staying.proofs.Agreement.{Waits, Agrees, Told, still_tells, changed_none, Changes, put_changes, inside, seen_tells, rules_tell}

module _ (s : Seen) (c : Coordinator) (t : List Node) (h : fits c t ≡ true) (g : Agrees s c t) where
  -- what is sent leaves the list, the misses and who each one is as they were, and what is seen is the wait
  sent_tells : (d : Due) → d.says.number ≡ 0 → ((p : ℕ) → listed_at d.nodes p ≡ listed_at t p) → ((p : ℕ) → (at d.nodes p).misses ≡ (at t p).misses) → ((p : ℕ) → recorded (at d.nodes p) ≡ recorded (at t p)) → Waits (saw_sent (sent d) s) d.coordinator.found (phase_of d.coordinator.stand) → Told s t Turn [] (sent d)
  sent_tells d e listed misses whos wait = seen_tells Turn [] e (still_tells g listed misses whos (λ p. refl) (λ p. refl) (λ p. refl) wait)

  -- one that leaves the records as they were
  plain_tells : (d : Due) → d.says.number ≡ 0 → d.nodes ≡ t → Waits (saw_sent (sent d) s) d.coordinator.found (phase_of d.coordinator.stand) → Told s t Turn [] (sent d)
  plain_tells d e same wait = sent_tells d e (λ p. ap (λ (u : List Node). listed_at u p) same) (λ p. ap (λ (u : List Node). (at u p).misses) same) (λ p. ap (λ (u : List Node). recorded (at u p)) same) wait

  list_tells : ltb 0 (owed_to c t) ≡ true → Told s t Turn [] (sent (due_list c t (owed_to c t)))
  unfolding choose
  list_tells e = sent_tells (due_list c t (owed_to c t)) refl (λ p. change.listed p ∙ sym (changed_none (listed_at t) (owed_to c t) _ refl p)) (λ p. change.misses p ∙ sym (changed_none (λ q. (at t q).misses) (owed_to c t) _ refl p)) (λ p. change.who p ∙ sym (changed_none (λ q. recorded (at t q)) (owed_to c t) _ refl p)) (rw (phase_back (listing (owed_to c t))) (refl, (refl, refl)))
    where
      board : Board c t (owed_to c t)
      board = board_listed c t h (owed_to c t) (owed_listed c t e)

      change : Changes t (put t (owed_to c t) (unmarked (at t (owed_to c t)))) (owed_to c t) (listed_at t (owed_to c t)) (at t (owed_to c t)).misses (recorded (at t (owed_to c t)))
      change = put_changes t (owed_to c t) (unmarked (at t (owed_to c t))) board.from (inside c t h board) refl refl

  own_tells : Told s t Turn [] (sent (due_own c t))
  unfolding choose
  own_tells = go (ltb 0 (owed_to c t)) refl
    where
      go : (b : Bool) → ltb 0 (owed_to c t) ≡ b → Told s t Turn [] (sent (choose b (due_list c t (owed_to c t)) (due_offer c t (next_listed t c.setup.k c.last))))
      go true e = list_tells e
      go false e = plain_tells (due_offer c t (next_listed t c.setup.k c.last)) refl refl (rw (phase_back (offering (next_listed t c.setup.k c.last))) (refl, (refl, refl)))

  -- what the exchange by which a board joins has due
  seek_tells : (p : ℕ) (part : Part) → phase_of c.stand ≡ Seeking p part → Told s t Turn [] (sent (due_seek part c t p))
  unfolding choose
  seek_tells p Search e = own_tells
  seek_tells p IdentifyDue e = plain_tells (due_identify c t p) refl refl (rw (phase_back (seeking p Identify)) ((refl, refl), (rw e at g.wait).0))
  seek_tells p Identify e = own_tells
  seek_tells p Present e = own_tells
  seek_tells p AssignDue e = plain_tells (due_assign c t p) refl refl (rw (phase_back (seeking p Assign)) ((refl, refl), (rw e at g.wait).0))
  seek_tells p Assign e = own_tells

  value : (p : Phase) → phase_of c.stand ≡ p → Told s t Turn [] (sent (due_in p c t))
  unfolding choose
  value Resting e = own_tells
  value (Awaiting b x q a) e = own_tells
  value (ForwardDue b q) e = plain_tells (due_in (ForwardDue b q) c t) refl refl (rw (phase_back (forwarding b q false)) (refl, (refl, refl)))
  value (ReturnDue b) e = plain_tells (due_in (ReturnDue b) c t) refl refl (rw (phase_back (returning b)) (refl, (refl, refl)))
  value (Seeking p part) e = seek_tells p part e
  value Unknown e = own_tells

  pub turn_tells : (room : ℕ) → Told s t Turn [] (turn_of c t room)
  unfolding turn_in
  turn_tells room = rules_tell s c t Turn [] g (turn_rules (phase_of c.stand) c t room) (sent (due_in (phase_of c.stand) c t)) (λ passed. value (phase_of c.stand) refl)
