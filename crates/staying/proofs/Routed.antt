-- An accepted request was the awaited board's; the next turn that is accepted forwards it to the board that its route names, with the index of the board that asked, or to nobody.
use Prim.Native.Nat.{ℕ}
use native.Mathlib.Omega.{arith}
use mathlib.Core.Path.{◌≡◌, refl, sym, ap, subst, ◌∙◌}
use mathlib.Core.Bool.{Bool, true, false}
use mathlib.Core.List.{List}
use lib.Dec.{eqb, ltb}
use borrow.Author.Tests.{eqb-true, ltb-false}
use Rattle.std.specs.Prelude.{Result, Ok, Err}
use Rattle.ground.specs.Choose.{choose}
use Rattle.refusal.specs.Refusal.{Told as Answered}
use Rattle.refusal.specs.declared.Refusal.TheVariants.{UnexpectedType, BadMethod, NotAwaited, NoRoom}
use Rattle.frame.specs.declared.Header.{Header}
use Rattle.frame.specs.Frame.{header_of, frame_of}
use Rattle.board.specs.declared.Node.{Node}
use Rattle.board.specs.Table.{at}
use Rattle.routing.specs.Route.{route_of}
use Rattle.routing.proofs.Theorems.{route_host, kinds_route}
use Rattle.message.specs.Message.{to_board}
use Rattle.refusal.specs.declared.Refusal.{Refusal}
use Rattle.accept.specs.Accept.{request_type, heard_after_offer}
use Rattle.accept.specs.declared.Heard.{Heard}
use Rattle.accept.specs.declared.Heard.TheVariants.{Deliver, Route}
use Rattle.accept.proofs.Requests.{offer_takes, list_refuses, forward_refuses, return_refuses, search_refuses, identify_refuses, assign_refuses}
use Rattle.coordinator.specs.declared.Coordinator.{Coordinator}
use Rattle.coordinator.specs.declared.Exchange.{Exchange}
use Rattle.coordinator.specs.declared.Exchange.TheVariants.{Offer, List as Listing, Forward, Return}
use Rattle.coordinator.specs.declared.Part.{Part}
use Rattle.coordinator.specs.declared.Part.TheVariants.{Search, IdentifyDue, Identify, Present, AssignDue, Assign}
use Rattle.coordinator.specs.declared.Phase.{Phase}
use Rattle.coordinator.specs.declared.Phase.TheVariants.{Resting, Awaiting, ForwardDue, ReturnDue, Seeking, Unknown}
use Rattle.coordinator.specs.Phase.{phase_of}
use Rattle.coordinator.specs.Change.{with_phase, keeping}
use Rattle.coordinator.proofs.Phases.{resting, forward_due_lem, phase_back}
use Rattle.steps.specs.After.{After, refused, delivers, transmits}
use Rattle.steps.specs.Turn.{owed_to, due_in, turn_rules, sent, turn_in, turn_of}
use Rattle.steps.specs.Receive.{payload, kept_of, acking, routed, taken_as, taken_in, receive_rules, receive_in, receive_of}
use Rattle.series.specs.Series.{World, is_accepted, waits_in}
use Rattle.series.specs.Observed.{Seen}
use Rattle.series.specs.AsJoined.{noted, forwarded_to, destined}
use Rattle.lasting.proofs.Taken.{never_accepted, waiting_accepted, by_accepted, by_choice}
use Rattle.staying.proofs.Agreement.{Waits}
use Rattle.staying.proofs.WhoStays.{Holds}
use Rattle.staying.proofs.Noted.{told_kinds}

-- a step forwards to this position, to none where it is 0; and a forward carries the stored index of the board that asked
pub record Forwarded (t : List Node) (to by : ℕ) (a : After) : Type 0 where
  pub board : forwarded_to a.says ≡ to
  pub index : waits_in a.says ≡ 3 → (header_of a.bytes).parameter2 ≡ (at t by).index

-- an answer that waits in a forward is accepted
pub forward_index : {t : List Node} {to by : ℕ} (a : After) → (is_accepted a.says ≡ true → Forwarded t to by a) → waits_in a.says ≡ 3 → (header_of a.bytes).parameter2 ≡ (at t by).index
forward_index a goes e = (goes (waiting_accepted a.says (omega arith) e)).index e

-- a turn that is accepted forwards so
abbrev pub Forwards : Coordinator → List Node → ℕ → ℕ → ℕ → Type 0
Forwards c t room to by = is_accepted (turn_of c t room).says ≡ true → Forwarded t to by (turn_of c t room)

-- so it is with what is due
due_forwards : (c : Coordinator) (t : List Node) (room to by : ℕ) {p : Phase} → phase_of c.stand ≡ p → Forwarded t to by (sent (due_in p c t)) → Forwards c t room to by
unfolding turn_in
due_forwards c t room to by {p} e goes = rw e (by_accepted c t (Forwarded t to by) (turn_rules p c t room) (sent (due_in p c t)) (λ _ _. goes))

-- a turn of our own forwards nothing
rested_forwards : (c : Coordinator) (t : List Node) (room by : ℕ) → Forwards (with_phase c Resting) t room 0 by
unfolding choose
rested_forwards c t room by = due_forwards (with_phase c Resting) t room 0 by (phase_back resting) (by_choice (λ d. Forwarded t 0 by (sent d)) (ltb 0 (owed_to c t)) _ _ (λ _. none _ refl (λ e. omega (arith, e))) (λ _. none _ refl (λ e. omega (arith, e))))
  where
    none : (a : After) → forwarded_to a.says ≡ 0 → (waits_in a.says ≡ 3 → ⊥) → Forwarded t 0 by a
    none a to other = record { board = to; index = λ e. absurd (other e) }

-- a request that was kept goes to the board that it was kept for
kept_forwards : (c : Coordinator) (t : List Node) (room to by : ℕ) → Forwards (with_phase c (ForwardDue to by)) t room to by
unfolding choose to_board frame_of
kept_forwards c t room to by = due_forwards (with_phase c (ForwardDue to by)) t room to by (phase_back (forward_due_lem to by)) (record { board = refl; index = λ _. refl })

routed_forwards : (c : Coordinator) (t : List Node) (h : Header) (p : List ℕ) (b to room : ℕ) → Forwards (routed c h p b to) t room to b
routed_forwards c t h p b to room =
    by_choice (λ c'. Forwards c' t room to b) (ltb 0 to) (with_phase (keeping c (kept_of h p)) (ForwardDue to b)) (with_phase c Resting)
    (λ _. kept_forwards (keeping c (kept_of h p)) t room to b)
    (λ e. subst (λ (q : ℕ). Forwards (with_phase c Resting) t room q b) (let z : 0 ≡ to = omega (arith, ltb-false 0 to e) in z) (rested_forwards c t room b))

-- a request that is accepted, and the turn after it: to the position that the route of the awaited board's request names
module _ (c : Coordinator) (t : List Node) (received : List ℕ) (request : request_type (header_of received).message ≡ true) (room then to by : ℕ) where
  abbrev h : Header
  h = header_of received

  -- where the request goes as that of board b
  abbrev way : ℕ → ℕ
  way b = route_of t c.setup.k b h.method h.parameter1

  -- where what was accepted goes on
  abbrev Goes : After → Type 0
  Goes a = is_accepted a.says ≡ true → Forwards a.coordinator a.nodes then to by

  -- board b is the one that asked, and its request goes there
  abbrev Asked : ℕ → Type 0
  Asked b = (b ≡ by) × (way b ≡ to)

  acking_goes : (b : ℕ) (says : Answered) (after : Coordinator) → ((u : List Node) → Forwards after u then to by) → Goes (acking c t b room says after)
  acking_goes b says after goes = by_choice Goes (ltb room 29) (refused c t NoRoom) _ (λ _. never_accepted c t NoRoom) (λ _ _. goes _)

  -- after an offer: for the host, or to be routed
  offered_goes : (b q : ℕ) (ack : Bool) → Asked b → Goes (taken_as (heard_after_offer h.message h.method ack) Offer b q c t h (payload received) room)
  offered_goes b q ack (one, route) =
      rw (offer_takes h.message request h.method ack)
      (by_choice Takes (ltb 3 h.method) (Err BadMethod) (Ok (choose (eqb h.method 0) Deliver Route)) (λ _. never_accepted c t BadMethod)
      (λ _. by_choice (λ v. Takes (Ok v)) (eqb h.method 0) Deliver Route (λ e. acking_goes b delivers (with_phase c Resting) (λ u. subst (λ (x : ℕ). Forwards (with_phase c Resting) u then x by) (nowhere e) (rested_forwards c u then by)))
      (λ _. acking_goes b transmits (routed c h (payload received) b (way b)) (λ u. subst (Forwards on u then to) one (subst (λ (x : ℕ). Forwards on u then x b) route (routed_forwards c u h (payload received) b (way b) then))))))
    where
      on : Coordinator
      on = routed c h (payload received) b (way b)

      Takes : Result Heard Refusal → Type 0
      Takes x = Goes (taken_as x Offer b q c t h (payload received) room)

      nowhere : eqb h.method 0 ≡ true → 0 ≡ to
      nowhere e = sym (route_host t c.setup.k b h.parameter1) ∙ ap (λ (m : ℕ). route_of t c.setup.k b m h.parameter1) (sym (eqb-true h.method 0 e)) ∙ route

  -- no other wait takes a request
  awaited_goes : (b : ℕ) (x : Exchange) (q : ℕ) (a : Bool) → Asked b → Goes (taken_in (Awaiting b x q a) c t h (payload received) room)
  awaited_goes b Offer q a asked = offered_goes b q _ asked
  awaited_goes b Listing q a asked = rw (list_refuses h.message request _) (never_accepted c t UnexpectedType)
  awaited_goes b Forward q a asked = rw (forward_refuses h.message request _ _ a) (never_accepted c t UnexpectedType)
  awaited_goes b Return q a asked = rw (return_refuses h.message request _) (never_accepted c t UnexpectedType)

  sought_goes : (p : ℕ) (part : Part) → Goes (taken_in (Seeking p part) c t h (payload received) room)
  sought_goes p Search = rw (search_refuses h.message request (payload received)) (never_accepted c t UnexpectedType)
  sought_goes p IdentifyDue = never_accepted c t NotAwaited
  sought_goes p Identify = rw (identify_refuses h.message request (payload received) false) (never_accepted c t UnexpectedType)
  sought_goes p Present = rw (identify_refuses h.message request (payload received) true) (never_accepted c t UnexpectedType)
  sought_goes p AssignDue = never_accepted c t NotAwaited
  sought_goes p Assign = rw (assign_refuses h.message request _) (never_accepted c t UnexpectedType)

  module _ (asked : (b : ℕ) (x : Exchange) (q : ℕ) (a : Bool) → phase_of c.stand ≡ Awaiting b x q a → Asked b) where
    taken_goes : (phase : Phase) → phase_of c.stand ≡ phase → Goes (taken_in phase c t h (payload received) room)
    taken_goes Resting e = never_accepted c t NotAwaited
    taken_goes (Awaiting b x q a) e = awaited_goes b x q a (asked b x q a e)
    taken_goes (ForwardDue b q) e = never_accepted c t NotAwaited
    taken_goes (ReturnDue b) e = never_accepted c t NotAwaited
    taken_goes (Seeking p part) e = sought_goes p part
    taken_goes Unknown e = never_accepted c t NotAwaited

    request_goes : Goes (receive_of c t received room)
    unfolding receive_in
    request_goes = by_accepted c t (λ a. Forwards a.coordinator a.nodes then to by) (receive_rules (phase_of c.stand) c t received) _ (λ _. taken_goes (phase_of c.stand) refl)

-- after any series
module _ {s : Seen} {w : World} (g : Holds s w) (received : List ℕ) where
  -- the board that is waited for is the one that asks, and the route of its request is by the types that the joins told
  asked : (b : ℕ) (x : Exchange) (q : ℕ) (a : Bool) → phase_of w.coordinator.stand ≡ Awaiting b x q a → (b ≡ s.awaited) × (route_of w.nodes w.coordinator.setup.k b (header_of received).method (header_of received).parameter1 ≡ destined s w.coordinator.setup.k (header_of received))
  asked b x q a e = (one, kinds_route (told_kinds g) w.coordinator.setup.k b (header_of received).method (header_of received).parameter1 ∙ ap (λ (b : ℕ). route_of (noted s) w.coordinator.setup.k b (header_of received).method (header_of received).parameter1) one)
    where
      one : b ≡ s.awaited
      one = sym (subst (Waits s w.coordinator.found) e g.agrees.wait).0

  -- so the turn after it forwards it there, with that board's index
  pub request_forwarded : request_type (header_of received).message ≡ true → (room then : ℕ) → is_accepted (receive_of w.coordinator w.nodes received room).says ≡ true → Forwards (receive_of w.coordinator w.nodes received room).coordinator (receive_of w.coordinator w.nodes received room).nodes then (destined s w.coordinator.setup.k (header_of received)) s.awaited
  request_forwarded request room then = request_goes w.coordinator w.nodes received request room then (destined s w.coordinator.setup.k (header_of received)) s.awaited asked
