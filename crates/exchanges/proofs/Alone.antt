-- While the exchange runs every step that is accepted is of it.
use Prim.Native.Nat.{ℕ}
use mathlib.Core.Path.{◌≡◌, refl, sym, ◌∙◌}
use mathlib.Core.Bool.{true, false, ◌&&◌, ◌||◌, false≢true}
use mathlib.Core.List.{List}
use lib.Dec.{eqb, leb}
use borrow.Author.Tests.{not-false}
use Rattle.ground.specs.Choose.{choose}
use Rattle.ground.proofs.Choices.{and_left, both, or_right}
use Rattle.frame.specs.Frame.{header_of}
use Rattle.board.specs.declared.Node.{Node}
use Rattle.coordinator.specs.declared.Coordinator.{Coordinator}
use Rattle.coordinator.specs.declared.Found.{Found}
use Rattle.coordinator.specs.declared.Part.{Part}
use Rattle.coordinator.specs.declared.Part.TheVariants.{Search, IdentifyDue, Identify, Present, AssignDue, Assign}
use Rattle.coordinator.specs.declared.Phase.TheVariants.{Seeking}
use Rattle.steps.specs.declared.Event.{Event}
use Rattle.steps.specs.declared.Event.TheVariants.{Join, Turn, Frame, Quiet, Discover}
use Rattle.steps.specs.After.{After}
use Rattle.steps.specs.Join.{join_rules, join_of}
use Rattle.steps.specs.Seek.{is_waiting, source_in, sought_in, quiet_in_seek}
use Rattle.steps.specs.Discover.{discover_rules, discover_of}
use Rattle.steps.specs.Turn.{due_seek, sent, turn_rules, turn_in}
use Rattle.steps.specs.Receive.{payload, receive_rules, receive_in}
use Rattle.steps.specs.Quiet.{quiet_rules, quiet_in}
use Rattle.steps.specs.Step.{step_of}
use Rattle.steps.proofs.Admitted.{admitted}
use Rattle.series.specs.Series.{Input, World, is_accepted, waits_in, is_seek}
use Rattle.series.specs.Exchange.{Course, is_of, is_running}
use Rattle.series.specs.Ours.{ours}
use Rattle.lasting.proofs.Taken.{by_accepted}
use Rattle.exchanges.proofs.Course.{wait_of, steps_of, Stands, Reach, going, over, joined}
use Rattle.exchanges.proofs.Going.{busy}
use Rattle.exchanges.proofs.Rest.{over_rests, joined_rests, runs_no_more}

-- a part that waits is a wait of the exchange to the observer
waiting_seeks : (part : Part) → is_waiting part ≡ true → is_seek (wait_of part) ≡ true
waiting_seeks Search n = refl
waiting_seeks IdentifyDue n = absurd (false≢true n)
waiting_seeks Identify n = refl
waiting_seeks Present n = refl
waiting_seeks AssignDue n = absurd (false≢true n)
waiting_seeks Assign n = refl

module _ (c₀ c : Coordinator) (t : List Node) (p q : ℕ) (f : Found) (part : Part) (k : Stands c₀ part c t p q f) (b : List ℕ) (room : ℕ) where
  -- a step is of the exchange in its part
  abbrev Of : Event → After → Type 0
  Of e a = is_of (record { wait = wait_of part; position = q; steps = steps_of part; joins = 0; nodes = t; who = f }) (record { event = e; received = b; room = room }) a ≡ true

  -- what is due waits in identify or assign
  due_of : is_waiting part ≡ false → Of Turn (sent (due_seek part c t p))
  unfolding choose
  due_of n = go part n
    where
      go : (r : Part) → is_waiting r ≡ false → ((leb 6 (waits_in (due_seek r c t p).says) && leb (waits_in (due_seek r c t p).says) 7) || (is_seek (wait_of part) && false)) ≡ true
      go Search m = absurd (false≢true (sym m))
      go IdentifyDue m = refl
      go Identify m = absurd (false≢true (sym m))
      go Present m = absurd (false≢true (sym m))
      go AssignDue m = refl
      go Assign m = absurd (false≢true (sym m))

  -- a frame or a quiet in a wait
  answered_of : (a : After) → is_waiting part ≡ true → ((leb 6 (waits_in a.says) && leb (waits_in a.says) 7) || (is_seek (wait_of part) && true)) ≡ true
  answered_of a n = or_right (leb 6 (waits_in a.says) && leb (waits_in a.says) 7) (is_seek (wait_of part) && true) (both (is_seek (wait_of part)) true (waiting_seeks part n) refl)

  -- whatever comes in a part
  step_of_lem : (e : Event) → is_accepted (step_of c t e b room).says ≡ true → Of e (step_of c t e b room)
  unfolding join_of turn_in receive_in quiet_in discover_of
  step_of_lem (Join kind mac session version) = by_accepted c t (Of (Join kind mac session version)) (join_rules c t kind mac version) _ (λ passed _. absurd (false≢true (sym passed.1.1.1.0 ∙ busy c₀ c t p q f part k)))
  step_of_lem Turn = rw k.phase (by_accepted c t (Of Turn) (turn_rules (Seeking p part) c t room) (sent (due_seek part c t p)) (λ passed _. due_of passed.1.0))
  step_of_lem Frame = rw k.phase (by_accepted c t (Of Frame) (receive_rules (Seeking p part) c t b) (sought_in part p c t (header_of b) (payload b) room) (λ passed _. answered_of (sought_in part p c t (header_of b) (payload b) room) (and_left (is_waiting part) (eqb (header_of b).source (source_in part c.setup p)) (admitted (Seeking p part) c t b passed).awaited)))
  step_of_lem Quiet = rw k.phase (by_accepted c t (Of Quiet) (quiet_rules (Seeking p part) c t) (quiet_in_seek part p c t) (λ passed _. answered_of (quiet_in_seek part p c t) (not-false (is_waiting part) passed.1.0)))
  step_of_lem Discover = by_accepted c t (Of Discover) (discover_rules c t room) _ (λ passed _. absurd (false≢true (sym passed.1.0 ∙ busy c₀ c t p q f part k)))

-- while it runs
pub alone_while : {c₀ : Coordinator} {x : Course} {w : World} → Reach c₀ x w → is_running ours w x ≡ true → (i : Input) → is_accepted (ours.step w i).says ≡ true → is_of x i (ours.step w i) ≡ true
alone_while {c₀} (going part c t p q f k) n i a = step_of_lem c₀ c t p q f part k i.received i.room i.event a
alone_while (over r) n i a = absurd (runs_no_more _ _ (over_rests r) n)
alone_while (joined r) n i a = absurd (runs_no_more _ _ (joined_rests r) n)
