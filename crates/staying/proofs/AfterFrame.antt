-- Frame: the board that is waited for is heard, so its run begins anew.
use Prim.Native.Nat.{ℕ}
use native.Mathlib.Omega.{arith}
use mathlib.Core.Path.{◌≡◌, refl, ap, subst, ◌∙◌}
use mathlib.Core.Bool.{Bool, true, false}
use mathlib.Core.List.{List}
use borrow.Author.Tests.{eqb-true}
use lib.Dec.{eqb, ltb}
use Rattle.std.specs.Prelude.{Result, Ok, Err}
use Rattle.ground.specs.Choose.{choose}
use Rattle.ground.proofs.Choices.{choose_no}
use Rattle.refusal.specs.Refusal.{Told as Answered}
use Rattle.refusal.specs.declared.Refusal.TheVariants.{NotAwaited, NoRoom}
use Rattle.frame.specs.declared.Header.{Header}
use Rattle.frame.specs.Frame.{header_of}
use Rattle.board.specs.declared.Node.{Node}
use Rattle.board.specs.Table.{at, put}
use Rattle.board.specs.Change.{heard, renewed, owe_all}
use Rattle.setup.specs.declared.Setup.{Setup}
use Rattle.setup.specs.Setup.{address}
use Rattle.setup.proofs.Pools.{setup_told}
use Rattle.routing.specs.Route.{route_of}
use Rattle.message.specs.Message.{signed_frame, ack_code}
use Rattle.refusal.specs.declared.Refusal.{Refusal}
use Rattle.accept.specs.declared.Heard.{Heard}
use Rattle.accept.specs.declared.Heard.TheVariants.{Ack, Echo, Deliver, Route, Answer}
use Rattle.coordinator.specs.declared.Exchange.{Exchange}
use Rattle.coordinator.specs.declared.Exchange.TheVariants.{Offer, List as Listing, Forward, Return}
use Rattle.coordinator.specs.declared.Found.{Found}
use Rattle.coordinator.specs.declared.Phase.{Phase}
use Rattle.coordinator.specs.declared.Phase.TheVariants.{Resting, Awaiting, ForwardDue, ReturnDue, Seeking, Unknown}
use Rattle.coordinator.specs.declared.Coordinator.{Coordinator}
use Rattle.coordinator.specs.Phase.{phase_of}
use Rattle.coordinator.specs.Fit.{fits}
use Rattle.coordinator.specs.Change.{with_phase, keeping}
use Rattle.coordinator.proofs.Phases.{resting, forwarding, forward_due_lem, return_due_lem, phase_back}
use Rattle.coordinator.proofs.Fitting.{Board, awaited, fits_setup}
use Rattle.steps.specs.declared.Event.TheVariants.{Frame}
use Rattle.steps.specs.After.{After, refused, accepted, delivers, transmits}
use Rattle.steps.specs.Hear.{hear}
use Rattle.steps.specs.Receive.{payload, awaits, heard_in, hear_ack, kept_of, acking, routed, acked, taken_as, taken_in, receive_rules, receive_in, receive_of}
use Rattle.steps.proofs.Admitted.{admitted}
use Rattle.series.specs.Series.{is_seek}
use Rattle.series.specs.Observed.{Who, recorded, Seen, changed, saw_board, saw_reply}
use Rattle.staying.proofs.Agreement.{Waits, Agrees, Tells, Told, changed_none, Changes, put_changes, inside, owe_changes, listed_tells, seen_tells, refused_tells, rules_tell}
use Rattle.staying.proofs.Addresses.{same_address}
use Rattle.staying.proofs.AfterSeek.{sought_tells}

-- where a request goes on, nothing is waited for
routed_waits : (s : Seen) (f : Found) (c : Coordinator) (h : Header) (p : List ℕ) (b to : ℕ) → Waits s f (phase_of (routed c h p b to).stand)
unfolding choose
routed_waits s f c h p b to = go (ltb 0 to)
  where
    go : (l : Bool) → Waits s f (phase_of (choose l (with_phase (keeping c (kept_of h p)) (ForwardDue to b)) (with_phase c Resting)).stand)
    go true = rw (phase_back (forward_due_lem to b)) tt
    go false = rw (phase_back resting) tt

routed_setup : (c : Coordinator) (h : Header) (p : List ℕ) (b to : ℕ) → (routed c h p b to).setup ≡ c.setup
unfolding choose
routed_setup c h p b to = go (ltb 0 to)
  where
    go : (l : Bool) → (choose l (with_phase (keeping c (kept_of h p)) (ForwardDue to b)) (with_phase c Resting)).setup ≡ c.setup
    go true = refl
    go false = refl

module _ (s : Seen) (c : Coordinator) (t : List Node) (h : fits c t ≡ true) (g : Agrees s c t) (received : List ℕ) where
  module _ (b : ℕ) (board : Board c t b) (from : (header_of received).source ≡ address c.setup b) (plain : is_seek s.wait ≡ false) where
    -- the board from whose address the frame came is the one that is waited for, and no other
    heard_run : (a : After) → a.coordinator.setup ≡ c.setup → (p : ℕ) → (saw_board received a s).run p ≡ changed s.run b 0 p
    heard_run a same p =
        ap (λ (x : Setup). choose (eqb (address x p) (header_of received).source) 0 (s.run p)) same
        ∙ ap (λ (x : ℕ). choose (eqb (address c.setup p) x) 0 (s.run p)) from
        ∙ ap (λ (x : Bool). choose x 0 (s.run p)) (same_address c.setup (setup_told c.setup (fits_setup c t h)) b p board.from board.up_to)

    -- an accepted frame of the board: its misses are 0, and the wait that is seen is the phase's
    heard_tells : {a : After} {n : Who} → a.coordinator.setup ≡ c.setup → a.says.number ≡ 0 → Changes t a.nodes b true 0 n → recorded (at t b) ≡ n → Waits (saw_board received a s) a.coordinator.found (phase_of a.coordinator.stand) → Told s t Frame received a
    heard_tells {a} same e change alike wait =
        seen_tells Frame received e
        (subst (λ (s' : Seen). Tells s s' t a) (choose_no (is_seek s.wait) (saw_board received a s) (saw_reply received a s) (saw_board received a s) plain refl)
        (listed_tells g change refl (g.who b board.listed ∙ alike) (λ two three. omega arith) (record { listed = changed_none s.listed b true (g.listed b ∙ board.listed); run = heard_run a same; who = changed_none s.who b (s.who b) refl }) wait))

    hear_changes : Changes t (hear t b) b true 0 (recorded (at t b))
    hear_changes = put_changes t b (heard (at t b)) board.from (inside c t h board) board.listed refl

    ack_changes : (session : ℕ) → Changes t (hear_ack t b session) b true 0 (recorded (at t b))
    unfolding choose
    ack_changes session = go (eqb session (at t b).session)
      where
        go : (same : Bool) → Changes t (choose same (hear t b) (owe_all (put t b (renewed (heard (at t b)) session)))) b true 0 (recorded (at t b))
        go true = hear_changes
        go false = owe_changes (put_changes t b (renewed (heard (at t b)) session) board.from (inside c t h board) board.listed refl)

    -- an ACK ends its wait, except after a forward
    acked_tells : (exchange : Exchange) (q : ℕ) (u : List Node) → Changes t u b true 0 (recorded (at t b)) → Told s t Frame received (acked exchange b q c u)
    unfolding choose
    acked_tells Offer q u change = heard_tells refl refl change refl (rw (phase_back resting) tt)
    acked_tells Listing q u change = heard_tells refl refl change refl (rw (phase_back resting) tt)
    acked_tells Forward q u change = heard_tells refl refl change refl (rw (phase_back (forwarding b q true)) (refl, (refl, refl)))
    acked_tells Return q u change = heard_tells refl refl change refl (rw (phase_back resting) tt)

    -- a frame for which an ACK is written
    acking_tells : (room : ℕ) (says : Answered) (after : Coordinator) → after.setup ≡ c.setup → says.number ≡ 0 → ((a : After) → Waits (saw_board received a s) after.found (phase_of after.stand)) → Told s t Frame received (acking c t b room says after)
    unfolding choose
    acking_tells room says after same e wait = go (ltb room 29) (signed_frame c.setup t b (at t b).version ack_code)
      where
        go : (short : Bool) (bytes : List ℕ) → Told s t Frame received (choose short (refused c t NoRoom) (accepted after (hear t b) says bytes))
        go true bytes = refused_tells s c t Frame received g NoRoom
        go false bytes = heard_tells same e hear_changes refl (wait (accepted after (hear t b) says bytes))

    taken_tells : (x : Result Heard Refusal) (exchange : Exchange) (q : ℕ) (f : Header) (p : List ℕ) (room : ℕ) → Told s t Frame received (taken_as x exchange b q c t f p room)
    taken_tells (Ok Ack) exchange q f p room = acked_tells exchange q _ (ack_changes _)
    taken_tells (Ok Echo) exchange q f p room = acking_tells room transmits _ refl refl (λ a. rw (phase_back resting) tt)
    taken_tells (Ok Deliver) exchange q f p room = acking_tells room delivers _ refl refl (λ a. rw (phase_back resting) tt)
    taken_tells (Ok Route) exchange q f p room = acking_tells room transmits (routed c f p b to) (routed_setup c f p b to) refl (λ a. routed_waits (saw_board received a s) (routed c f p b to).found c f p b to)
      where
        to : ℕ
        to = route_of t c.setup.k b f.method f.parameter1
    taken_tells (Ok Answer) exchange q f p room = acking_tells room transmits _ refl refl (λ a. rw (phase_back (return_due_lem q)) tt)
    taken_tells (Err r) exchange q f p room = refused_tells s c t Frame received g r

  value : (phase : Phase) → phase_of c.stand ≡ phase → awaits phase c.setup (header_of received).source ≡ true → (room : ℕ) → Told s t Frame received (taken_in phase c t (header_of received) (payload received) room)
  value Resting e from room = refused_tells s c t Frame received g NotAwaited
  value (Awaiting b x q a) e from room = taken_tells b (awaited c t h e) (eqb-true _ _ from) (subst (Waits s c.found) e g.wait).1.1 (heard_in x b a c t (header_of received) (payload received)) x q (header_of received) (payload received) room
  value (ForwardDue b q) e from room = refused_tells s c t Frame received g NotAwaited
  value (ReturnDue b) e from room = refused_tells s c t Frame received g NotAwaited
  value (Seeking p part) e from room = sought_tells s c t h g received p part e from room
  value Unknown e from room = refused_tells s c t Frame received g NotAwaited

  pub frame_tells : (room : ℕ) → Told s t Frame received (receive_of c t received room)
  unfolding receive_in
  frame_tells room = rules_tell s c t Frame received g (receive_rules (phase_of c.stand) c t received) (taken_in (phase_of c.stand) c t (header_of received) (payload received) room) (λ passed. value (phase_of c.stand) refl (admitted (phase_of c.stand) c t received passed).awaited room)
