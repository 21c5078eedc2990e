-- Every step that is accepted in the exchange goes on with it, breaks it off, or joins who answered.
use Prim.Native.Nat.{ℕ, ◌+◌, ◌≤◌}
use native.Mathlib.Omega.{arith}
use mathlib.Core.Path.{◌≡◌, refl, sym, ap, ◌∙◌}
use mathlib.Core.Bool.{Bool, true, false, false≢true}
use mathlib.Core.List.{List, []}
use lib.Dec.{eqb, ltb}
use borrow.Author.Tests.{eqb-true, eqb-false, ltb-true, ne_eqb}
use Rattle.std.specs.Prelude.{Ok}
use Rattle.ground.specs.Choose.{choose}
use Rattle.refusal.specs.Refusal.{Told}
use Rattle.refusal.specs.declared.Refusal.TheVariants.{NotAwaited, NotWaiting, NoRoom, UnexpectedType, BadEcho}
use Rattle.frame.specs.Frame.{header_of}
use Rattle.board.specs.declared.Node.{Node}
use Rattle.accept.specs.declared.Reply.TheVariants.{Present as AckCame}
use Rattle.accept.specs.Replies.{mac_after, heard_in_identify}
use Rattle.accept.proofs.Replied.{search_replied, identify_replied, assign_replied}
use Rattle.coordinator.specs.declared.Coordinator.{Coordinator}
use Rattle.coordinator.specs.declared.Found.{Found}
use Rattle.coordinator.specs.declared.Part.{Part}
use Rattle.coordinator.specs.declared.Part.TheVariants.{Search, IdentifyDue, Identify, Present, AssignDue, Assign}
use Rattle.coordinator.specs.declared.Phase.TheVariants.{Seeking}
use Rattle.coordinator.specs.Change.{with_phase, finding, ended}
use Rattle.coordinator.proofs.Phases.{seeking, phase_back}
use Rattle.steps.specs.declared.Event.{Event}
use Rattle.steps.specs.declared.Event.TheVariants.{Join, Turn, Frame, Quiet, Discover}
use Rattle.steps.specs.After.{After, accepted, transmits, rests}
use Rattle.steps.specs.Hear.{hear_mac}
use Rattle.steps.specs.Join.{is_busy, join_rules, join_of}
use Rattle.steps.specs.Seek.{is_waiting, discovered, identified, join_found, answered, acknowledged, settled, replied_as, sought_in, quiet_in_seek}
use Rattle.steps.specs.Discover.{discover_rules, discover_of}
use Rattle.steps.specs.Turn.{due_seek, sent, turn_rules, turn_in}
use Rattle.steps.specs.Receive.{payload, receive_rules, receive_in}
use Rattle.steps.specs.Quiet.{quiet_rules, quiet_in}
use Rattle.steps.specs.Step.{step_of}
use Rattle.series.specs.Series.{Input, left, is_accepted, waits_in}
use Rattle.series.specs.Exchange.{Course, gone}
use Rattle.lasting.proofs.Taken.{never_accepted, by_accepted, by_choice}
use Rattle.exchanges.proofs.Course.{found_takes, wait_of, steps_of, Stands, Reach, going, over, joined}

-- a part has one accepted step left at least
pub few_steps : (part : Part) → steps_of part + 1 ≤ 6
few_steps Search = omega arith
few_steps IdentifyDue = omega arith
few_steps Identify = omega arith
few_steps Present = omega arith
few_steps AssignDue = omega arith
few_steps Assign = omega arith

module _ (c₀ c : Coordinator) (t : List Node) (p q : ℕ) (f : Found) where
  -- the observer's course in a part
  abbrev now : Part → Course
  now part = record { wait = wait_of part; position = q; steps = steps_of part; joins = 0; nodes = t; who = f }

  -- what an accepted step comes to
  abbrev Goes : Part → Input → After → Type 0
  Goes part i a = is_accepted a.says ≡ true → Reach c₀ (gone (now part) i a) (left a)

  -- neither a join nor a discovery is accepted
  pub busy : (part : Part) → Stands c₀ part c t p q f → is_busy c t ≡ true
  busy part k = rw k.phase refl

  -- the exchange breaks off: the records are those that the observer has
  breaks_off : (part : Part) → Stands c₀ part c t p q f → (i : Input) (u : List Node) (says : Told) → waits_in says ≡ 0 → u ≡ (gone (now part) i (accepted (ended c) u says [])).nodes → Goes part i (accepted (ended c) u says [])
  unfolding choose
  breaks_off part k i u says e same _ = over (record { wait = e; steps = few_steps part; joins = refl; world = λ j. record { coordinator = k.over j; nodes = same j } })

  -- it joins who answered
  joins_one : (part : Part) → Stands c₀ part c t p q f → (i : Input) (g : Found) → ((join_found c t g).joined ≡ 0 → ⊥) → t ≡ (gone (now part) i (acknowledged c.setup p g.version (join_found c t g))).nodes → g ≡ (gone (now part) i (acknowledged c.setup p g.version (join_found c t g))).who → Goes part i (acknowledged c.setup p g.version (join_found c t g))
  unfolding choose
  joins_one part k i g some nodes who _ =
      joined (record { wait = refl; steps = few_steps part; joins = one; world = λ j. left (join_of (k.over j) (nodes j) (who j).kind (who j).mac (who j).session (who j).version) })
    where
      one : (gone (now part) i (acknowledged c.setup p g.version (join_found c t g))).joins ≡ 1
      one = rw (ne_eqb (join_found c t g).joined 0 some) refl

  -- a turn, a frame and a quiet as inputs, with what stands beside them
  module _ (b : List ℕ) (room : ℕ) where
    abbrev a_turn : Input
    a_turn = record { event = Turn; received = b; room = room }

    abbrev a_frame : Input
    a_frame = record { event = Frame; received = b; room = room }

    abbrev a_quiet : Input
    a_quiet = record { event = Quiet; received = b; room = room }

    -- a quiet goes on to Set Address, or breaks the exchange off
    quiet_goes : (part : Part) → Stands c₀ part c t p q f → Goes part a_quiet (quiet_in_seek part p c t)
    unfolding choose
    quiet_goes Search k = breaks_off Search k a_quiet t rests refl refl
    quiet_goes IdentifyDue k = never_accepted c t NotWaiting
    quiet_goes Identify k = λ _. going AssignDue (with_phase c (Seeking p AssignDue)) t p q f (record { phase = phase_back (seeking p AssignDue); from = k.from; over = k.over; knows = k.knows.1 })
    quiet_goes Present k = breaks_off Present k a_quiet t rests refl refl
    quiet_goes AssignDue k = never_accepted c t NotWaiting
    quiet_goes Assign k = breaks_off Assign k a_quiet t rests refl refl

    -- a turn goes on with what is due
    turn_goes : (part : Part) → is_waiting part ≡ false → Stands c₀ part c t p q f → Goes part a_turn (sent (due_seek part c t p))
    unfolding choose
    turn_goes Search n k = absurd (false≢true (sym n))
    turn_goes IdentifyDue n k = λ _. going Identify (with_phase c (Seeking p Identify)) t p p f (record { phase = phase_back (seeking p Identify); from = k.from; over = k.over; knows = (refl, k.knows) })
    turn_goes Identify n k = absurd (false≢true (sym n))
    turn_goes Present n k = absurd (false≢true (sym n))
    turn_goes AssignDue n k = λ _. going Assign (with_phase c (Seeking p Assign)) t p p f (record { phase = phase_back (seeking p Assign); from = k.from; over = k.over; knows = (refl, k.knows) })
    turn_goes Assign n k = absurd (false≢true (sym n))

    -- the discovery's response goes on to Get Node ID where the join of it would be accepted
    search_goes : Stands c₀ Search c t p q f → Goes Search a_frame (answered c t (discovered (header_of b).packet (payload b)))
    unfolding choose
    search_goes k = by_choice (Goes Search a_frame) (ltb 0 (join_found c t (discovered (header_of b).packet (payload b))).joined) _ _ found (λ _. breaks_off Search k a_frame t rests refl refl)
      where
        found : ltb 0 (join_found c t (discovered (header_of b).packet (payload b))).joined ≡ true → Goes Search a_frame (accepted (finding c (discovered (header_of b).packet (payload b)) (join_found c t (discovered (header_of b).packet (payload b))).joined) t rests [])
        found l _ =
            going IdentifyDue (finding c (discovered (header_of b).packet (payload b)) (join_found c t (discovered (header_of b).packet (payload b))).joined) t (join_found c t (discovered (header_of b).packet (payload b))).joined q (discovered (header_of b).packet (payload b)) (record { phase = phase_back (seeking (join_found c t (discovered (header_of b).packet (payload b))).joined IdentifyDue); from = ltb-true 0 _ l; over = k.over; knows = (refl, refl) })

    -- an ID ends the exchange: with the join of whoever has the address, or without, and then he is heard
    identified_goes : (part : Part) → wait_of part ≡ 6 → Stands c₀ part c t p q f → q ≡ p → f ≡ c.found → Goes part a_frame (settled c t p (identified c.found.version (payload b)) room)
    unfolding choose
    identified_goes part six k here same = by_choice (Goes part a_frame) (ltb room 29) _ _ (λ _. never_accepted c t NoRoom) (λ _. by_choice (λ a. Goes part a_frame (acknowledged c.setup p c.found.version a)) (eqb (join_found c t (identified c.found.version (payload b))).joined p) _ _ taken (λ _. breaks_off part k a_frame (hear_mac t p (identified c.found.version (payload b)).mac) transmits refl (rw (six, here) refl)))
      where
        taken : eqb (join_found c t (identified c.found.version (payload b))).joined p ≡ true → Goes part a_frame (acknowledged c.setup p c.found.version (join_found c t (identified c.found.version (payload b))))
        taken e = joins_one part k a_frame (identified c.found.version (payload b)) some (rw (six, ne_eqb (join_found c t (identified c.found.version (payload b))).joined 0 some) refl) (rw (six, ne_eqb (join_found c t (identified c.found.version (payload b))).joined 0 some) (ap (λ (g : Found). identified g.version (payload b)) (sym same)))
          where
            some : (join_found c t (identified c.found.version (payload b))).joined ≡ 0 → ⊥
            some z = omega (arith, eqb-true (join_found c t (identified c.found.version (payload b))).joined p e, k.from)

    -- Set Address's echo joins who was discovered
    assigned_goes : Stands c₀ Assign c t p q f → Goes Assign a_frame (settled c t p c.found room)
    unfolding choose
    assigned_goes k = by_choice (Goes Assign a_frame) (ltb room 29) _ _ (λ _. never_accepted c t NoRoom) (λ _. by_choice (λ a. Goes Assign a_frame (acknowledged c.setup p c.found.version a)) (eqb (join_found c t c.found).joined p) _ _ (λ _. joins_one Assign k a_frame c.found some refl (sym k.knows.1.0)) (λ n. absurd (eqb-false (join_found c t c.found).joined p n (found_takes c t p f k.knows.1))))
      where
        some : (join_found c t c.found).joined ≡ 0 → ⊥
        some z = omega (arith, found_takes c t p f k.knows.1, k.from)

    -- what a frame does in identify, whether or not an ACK came
    in_identify_lem : (part : Part) (acked : Bool) → wait_of part ≡ 6 → Stands c₀ part c t p q f → q ≡ p → f ≡ c.found → (acked ≡ false → Goes part a_frame (replied_as (Ok AckCame) p c t (header_of b).packet (payload b) room)) → Goes part a_frame (replied_as (heard_in_identify (header_of b).message (payload b) acked) p c t (header_of b).packet (payload b) room)
    in_identify_lem part acked six k here same ack = identify_replied (λ r. Goes part a_frame (replied_as r p c t (header_of b).packet (payload b) room)) (never_accepted c t UnexpectedType) (header_of b).message (payload b) acked (λ first _ _ _. ack first) (λ _ _. identified_goes part six k here same)

    -- the first ACK goes on: he is heard
    present_goes : Stands c₀ Identify c t p q f → Goes Identify a_frame (replied_as (Ok AckCame) p c t (header_of b).packet (payload b) room)
    unfolding choose
    present_goes k _ = rw k.knows.0 (going Present (with_phase c (Seeking p Present)) (hear_mac t p (mac_after (payload b))) p p f (record { phase = phase_back (seeking p Present); from = k.from; over = k.over; knows = (refl, k.knows.1.0) }))

    -- whatever frame comes
    frame_goes : (part : Part) → Stands c₀ part c t p q f → Goes part a_frame (sought_in part p c t (header_of b) (payload b) room)
    frame_goes Search k = search_replied (λ r. Goes Search a_frame (replied_as r p c t (header_of b).packet (payload b) room)) (never_accepted c t UnexpectedType) (header_of b).message (payload b) (λ _ _. search_goes k)
    frame_goes IdentifyDue k = never_accepted c t NotAwaited
    frame_goes Identify k = in_identify_lem Identify false refl k k.knows.0 k.knows.1.0 (λ _. present_goes k)
    frame_goes Present k = in_identify_lem Present true refl k k.knows.0 k.knows.1 (λ n. absurd (false≢true (sym n)))
    frame_goes AssignDue k = never_accepted c t NotAwaited
    frame_goes Assign k = assign_replied (λ r. Goes Assign a_frame (replied_as r p c t (header_of b).packet (payload b) room)) (never_accepted c t UnexpectedType) (header_of b).message _ (never_accepted c t BadEcho) (λ _ _. assigned_goes k)

    -- whatever comes
    pub step_goes : (part : Part) → Stands c₀ part c t p q f → (e : Event) → Goes part (record { event = e; received = b; room = room }) (step_of c t e b room)
    unfolding join_of turn_in receive_in quiet_in discover_of
    step_goes part k (Join kind mac session version) = by_accepted c t (λ a. Reach c₀ (gone (now part) (record { event = Join kind mac session version; received = b; room = room }) a) (left a)) (join_rules c t kind mac version) _ (λ passed _. absurd (false≢true (sym passed.1.1.1.0 ∙ busy part k)))
    step_goes part k Turn = rw k.phase (by_accepted c t (λ a. Reach c₀ (gone (now part) a_turn a) (left a)) (turn_rules (Seeking p part) c t room) (sent (due_seek part c t p)) (λ passed. turn_goes part passed.1.0 k))
    step_goes part k Frame = rw k.phase (by_accepted c t (λ a. Reach c₀ (gone (now part) a_frame a) (left a)) (receive_rules (Seeking p part) c t b) (sought_in part p c t (header_of b) (payload b) room) (λ _. frame_goes part k))
    step_goes part k Quiet = rw k.phase (by_accepted c t (λ a. Reach c₀ (gone (now part) a_quiet a) (left a)) (quiet_rules (Seeking p part) c t) (quiet_in_seek part p c t) (λ _. quiet_goes part k))
    step_goes part k Discover = by_accepted c t (λ a. Reach c₀ (gone (now part) (record { event = Discover; received = b; room = room }) a) (left a)) (discover_rules c t room) _ (λ passed _. absurd (false≢true (sym passed.1.0 ∙ busy part k)))
