-- What the answer tells is what is on the wire: the bytes of every turn and every discovery that is accepted are one good frame, in the subnet of whom the answer names, to him, of the type of its exchange.
use Prim.Native.Nat.{ℕ, ◌≤◌}
use native.Mathlib.Omega.{arith}
use mathlib.Core.Path.{◌≡◌, refl, sym, ap}
use mathlib.Core.Bool.{Bool, true, false, false≢true}
use mathlib.Core.List.{List}
use lib.ListN.{length, length-take}
use lib.Dec.{leb, ltb}
use borrow.Author.Tests.{le-leb, not-false}
use Rattle.ground.specs.Choose.{choose}
use Rattle.ground.proofs.Choices.{both}
use Rattle.refusal.specs.Refusal.{Told}
use Rattle.frame.specs.declared.Header.{Header}
use Rattle.frame.specs.Frame.{frame_of}
use Rattle.frame.proofs.Subnets.{takes_own}
use Rattle.frame.proofs.RoundTrip.{reads_back}
use Rattle.board.specs.declared.Node.{Node}
use Rattle.board.specs.Table.{at, put}
use Rattle.board.specs.Change.{unmarked}
use Rattle.board.specs.Columns.{stored_version}
use Rattle.board.proofs.Positions.{at_alike}
use Rattle.board.proofs.Changes.{put_alike}
use Rattle.board.specs.Round.{next_listed}
use Rattle.setup.specs.Setup.{subnet_of}
use Rattle.message.specs.Message.{to_board, own_header, broadcast_header, discovery_header, every_kind, offer_code}
use Rattle.message.proofs.Messages.{signed_small, list_small, assignment_small}
use Rattle.coordinator.specs.declared.Coordinator.{Coordinator}
use Rattle.coordinator.specs.declared.Exchange.TheVariants.{Forward, Return}
use Rattle.coordinator.specs.declared.Part.{Part}
use Rattle.coordinator.specs.declared.Part.TheVariants.{Search, IdentifyDue, Identify, Present, AssignDue, Assign}
use Rattle.coordinator.specs.declared.Phase.{Phase}
use Rattle.coordinator.specs.declared.Phase.TheVariants.{Resting, Awaiting, ForwardDue, ReturnDue, Seeking, Unknown}
use Rattle.coordinator.specs.Phase.{phase_of}
use Rattle.coordinator.specs.Fit.{fits}
use Rattle.coordinator.specs.Fitness.{Request, Response}
use Rattle.coordinator.proofs.Fitting.{due_forward, due_response, request_told, response_told}
use Rattle.steps.specs.declared.Event.{Event}
use Rattle.steps.specs.declared.Event.TheVariants.{Join, Turn, Frame, Quiet, Discover}
use Rattle.steps.specs.After.{After}
use Rattle.steps.specs.Discover.{discover_rules, discover_of, searched}
use Rattle.steps.specs.Turn.{owed_to, due_carried, due_list, due_offer, due_own, due_seek, due_in, turn_rules, turn_in, turn_of, sent}
use Rattle.steps.specs.Step.{step_of}
use Rattle.series.specs.Series.{World, after, is_accepted, waits_in}
use Rattle.series.specs.Wire.{is_sending, addressed, reached_in, is_type_of, AsTold, OnTheWire}
use Rattle.series.specs.Ours.{ours}
use Rattle.lasting.proofs.Taken.{by_accepted}

-- a frame of a short payload, whose header goes to the subnet and to whom the answer says, with a type of its exchange
frame_told : (c : Coordinator) (t : List Node) (says : Told) (h : Header) (p : List ℕ) → length p ≤ 240 → h.subnet ≡ reached_in c t says → h.destination ≡ addressed c.setup says → is_type_of (waits_in says) h.message ≡ true → AsTold c t says (frame_of h p)
unfolding frame_of
frame_told c t says h p small subnet to type = record { good = reads_back h p small (reached_in c t says) (rw subnet (takes_own (reached_in c t says))); to = to; subnet = subnet; type = type }

-- what a step writes, by what it leaves
abbrev Tells : After → Type 0
Tells a = AsTold a.coordinator a.nodes a.says a.bytes

module _ (c : Coordinator) (t : List Node) where
  -- the list and an offer
  own_told : Tells (sent (due_own c t))
  unfolding choose own_header
  own_told = go (ltb 0 (owed_to c t))
    where
      go : (b : Bool) → Tells (sent (choose b (due_list c t (owed_to c t)) (due_offer c t (next_listed t c.setup.k c.last))))
      go true = frame_told _ _ _ _ _ (list_small (at t (owed_to c t)).version c.setup.internal t) (ap (subnet_of c.setup) (sym (at_alike stored_version (put t (owed_to c t) (unmarked (at t (owed_to c t)))) t (put_alike stored_version t (owed_to c t) (unmarked (at t (owed_to c t))) refl) (owed_to c t)))) refl refl
      go false = frame_told _ _ _ _ _ (signed_small c.setup offer_code) refl refl refl

  -- a forward and a return
  forward_told : (b q : ℕ) → Request c.kept → Tells (sent (due_carried c t b Forward q (at t q).index))
  unfolding choose to_board
  forward_told b q m = frame_told _ _ _ _ _ (omega (arith, length-take c.kept.length c.kept.payload, m.payload)) refl refl (both (leb 1 c.kept.message) (leb c.kept.message 127) (le-leb _ _ m.message.from) (le-leb _ _ m.message.up_to))

  return_told : (b : ℕ) → Response c.kept → Tells (sent (due_carried c t b Return 0 0))
  unfolding choose to_board
  return_told b m = frame_told _ _ _ _ _ (omega (arith, length-take c.kept.length c.kept.payload, m.payload)) refl refl (le-leb _ _ m.message)

  -- the two frames that the exchange by which a board joins has due
  part_told : (part : Part) (position : ℕ) → Tells (sent (due_seek part c t position))
  unfolding choose own_header broadcast_header
  part_told Search position = own_told
  part_told IdentifyDue position = frame_told _ _ _ _ _ (omega arith) refl refl refl
  part_told Identify position = own_told
  part_told Present position = own_told
  part_told AssignDue position = frame_told _ _ _ _ _ (assignment_small c.setup position c.found.version c.found.mac c.found.session) refl refl refl
  part_told Assign position = own_told

  module _ (fit : fits c t ≡ true) where
    -- what is due in any phase of a fit panel
    due_told : (phase : Phase) → phase_of c.stand ≡ phase → Tells (sent (due_in phase c t))
    due_told Resting e = own_told
    due_told (Awaiting board exchange requester acked) e = own_told
    due_told (ForwardDue board requester) e = forward_told board requester (request_told c.kept (due_forward c t fit e).request)
    due_told (ReturnDue board) e = return_told board (response_told c.kept (due_response c t fit e))
    due_told (Seeking position part) e = part_told part position
    due_told Unknown e = own_told

  -- a turn, and a discovery
  turn_told : (room : ℕ) → is_accepted (turn_of c t room).says ≡ true → Tells (turn_of c t room)
  unfolding turn_in
  turn_told room = by_accepted c t Tells (turn_rules (phase_of c.stand) c t room) (sent (due_in (phase_of c.stand) c t)) (λ passed _. due_told (not-false (fits c t) passed.0) (phase_of c.stand) refl)

  discover_told : (room : ℕ) → is_accepted (discover_of c t room).says ≡ true → Tells (discover_of c t room)
  unfolding discover_of choose broadcast_header
  discover_told room = by_accepted c t Tells (discover_rules c t room) (searched c t) (λ _ _. frame_told _ _ _ discovery_header every_kind (omega arith) refl refl refl)

-- in any series
pub on_the_wire : OnTheWire ours
on_the_wire k w f is i = go (after ours w is) i.event
  where
    go : (u : World) (e : Event) → is_sending e ≡ true → is_accepted (step_of u.coordinator u.nodes e i.received i.room).says ≡ true → Tells (step_of u.coordinator u.nodes e i.received i.room)
    go u (Join kind mac session version) n = absurd (false≢true n)
    go u Turn n = turn_told u.coordinator u.nodes i.room
    go u Frame n = absurd (false≢true n)
    go u Quiet n = absurd (false≢true n)
    go u Discover n = discover_told u.coordinator u.nodes i.room
