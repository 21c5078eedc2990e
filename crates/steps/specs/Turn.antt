-- Turn (01, "Turn" and "Forward and return").
use Rattle.std.specs.Prelude.{ℕ, ◌+◌, Bool, true, false, ◌&&◌, not, List, [], ◌∷◌, length, take, ltb}
use Rattle.ground.specs.Choose.{choose}
use Rattle.refusal.specs.Refusal.{Told, ruled}
use Rattle.refusal.specs.declared.Refusal.{Refusal}
use Rattle.refusal.specs.declared.Refusal.TheVariants.{StateUnfit, AwaitingReply, NobodyListed, NoRoom}
use Rattle.frame.specs.declared.Header.{Header}
use Rattle.frame.specs.Frame.{frame_of}
use Rattle.board.specs.declared.Node.{Node}
use Rattle.board.specs.declared.Wanted.TheVariants.{Owed}
use Rattle.board.specs.Table.{at, put}
use Rattle.board.specs.Wanted.{lowest_of, some_listed}
use Rattle.board.specs.Round.{next_listed}
use Rattle.board.specs.Change.{unmarked}
use Rattle.nodelist.specs.List.{list_for}
use Rattle.message.specs.Message.{list_header, signed_header, identify_header, assign_header, assignment, to_board, signed, offer_code}
use Rattle.coordinator.specs.declared.Coordinator.{Coordinator}
use Rattle.coordinator.specs.declared.Kept.{Kept}
use Rattle.coordinator.specs.declared.Exchange.{Exchange}
use Rattle.coordinator.specs.declared.Exchange.TheVariants.{Offer, List as Listing, Forward, Return}
use Rattle.coordinator.specs.declared.Part.{Part}
use Rattle.coordinator.specs.declared.Part.TheVariants.{Search, IdentifyDue, Identify, Present, AssignDue, Assign}
use Rattle.coordinator.specs.declared.Phase.{Phase}
use Rattle.coordinator.specs.declared.Phase.TheVariants.{Resting, Awaiting, ForwardDue, ReturnDue, Seeking, Unknown}
use Rattle.coordinator.specs.Phase.{phase_of}
use Rattle.coordinator.specs.Fit.{fits}
use Rattle.coordinator.specs.Change.{with_phase, offered}
use Rattle.steps.specs.declared.Seek.TheVariants.{Identify as ToIdentify, Assign as ToAssign}
use Rattle.steps.specs.After.{After, refused, accepted, waits, seeks}
use Rattle.steps.specs.Seek.{is_waiting}

-- a transmission that is due: what its answer says, the frame's header and payload, and what coordinator and records are once it is sent
pub record Due : Type 0 where
  pub says : Told
  pub header : Header
  pub payload : List ℕ
  pub coordinator : Coordinator
  pub nodes : List Node

-- forward and return keep type, packet number, source node type, method, parameter 1 and payload of the frame received (01, "Forward and return")
abbrev pub carried_header : Kept → ℕ → Header
carried_header m parameter2 =
    record {
      destination = 0;
      source = 0;
      subnet = 0;
      method = m.method;
      parameter1 = m.parameter;
      parameter2 = parameter2;
      kind = m.kind;
      message = m.message;
      packet = m.packet;
    }

-- a carried message to a board: destination the board, source 255, subnet its own (01, "Forward and return"; 02, C-15)
abbrev pub due_carried : Coordinator → List Node → ℕ → Exchange → ℕ → ℕ → Due
due_carried c t board exchange requester parameter2 =
    record {
      says = waits board exchange;
      header = to_board c.setup board (at t board).version (carried_header c.kept parameter2);
      payload = take c.kept.length c.kept.payload;
      coordinator = with_phase c (Awaiting board exchange requester false);
      nodes = t;
    }

-- the node list to a board, in the form of its version, clearing its mark: type 0x14, packet number 0 (01, "Turn"; 003, 5.14 and 4.3; 02, C-15)
abbrev pub due_list : Coordinator → List Node → ℕ → Due
due_list c t board =
    record {
      says = waits board Listing;
      header = list_header c.setup board (at t board).version (at t board).index;
      payload = list_for (at t board).version c.setup.internal t;
      coordinator = with_phase c (Awaiting board Listing 0 false);
      nodes = put t board (unmarked (at t board));
    }

-- an offer to a board: R2R, type 0, packet number 0x80 (01, "Turn"; 003, 6.1 Table 48 and 4.3); it is the last one offered, and joins are held no more
abbrev pub due_offer : Coordinator → List Node → ℕ → Due
due_offer c t board =
    record {
      says = waits board Offer;
      header = signed_header c.setup board (at t board).version (at t board).index;
      payload = signed c.setup offer_code;
      coordinator = offered c board;
      nodes = t;
    }

-- Get Node ID to the address at stake (02, C-11; 000, 11.11, 2.1.4)
abbrev pub due_identify : Coordinator → List Node → ℕ → Due
due_identify c t position =
    record {
      says = seeks position ToIdentify;
      header = identify_header c.setup position c.found.version (at t position).index;
      payload = [];
      coordinator = with_phase c (Seeking position Identify);
      nodes = t;
    }

-- Set Address: what was discovered shall have the address at stake (02, C-11; 000, 11.11, 2.1.5.2)
abbrev pub due_assign : Coordinator → List Node → ℕ → Due
due_assign c t position =
    record {
      says = seeks position ToAssign;
      header = assign_header;
      payload = assignment c.setup position c.found.version c.found.mac c.found.session;
      coordinator = with_phase c (Seeking position Assign);
      nodes = t;
    }

-- the lowest position to which the list is owed, 0 for none
abbrev pub owed_to : Coordinator → List Node → ℕ
owed_to c t = lowest_of t Owed c.setup.k

-- the list to the lowest position owed, else an offer to the first listed position after the last one offered (01, "Turn")
abbrev pub due_own : Coordinator → List Node → Due
due_own c t = choose (ltb 0 (owed_to c t)) (due_list c t (owed_to c t)) (due_offer c t (next_listed t c.setup.k c.last))

-- what the exchange by which a board joins has due (02, C-11)
abbrev pub due_seek : Part → Coordinator → List Node → ℕ → Due
due_seek Search c t position = due_own c t
due_seek IdentifyDue c t position = due_identify c t position
due_seek Identify c t position = due_own c t
due_seek Present c t position = due_own c t
due_seek AssignDue c t position = due_assign c t position
due_seek Assign c t position = due_own c t

-- the next transmission: a response waiting to be returned, else a request waiting to be forwarded, else what an exchange by which a board joins has due, else our own (01, "Turn"; 02, C-11);
-- parameter 2 is the requester's stored index on the way out and 0 on the way back (01, "Forward and return"; 02, C-13)
abbrev pub due_in : Phase → Coordinator → List Node → Due
due_in Resting c t = due_own c t
due_in (Awaiting board exchange requester acked) c t = due_own c t
due_in (ForwardDue board requester) c t = due_carried c t board Forward requester (at t requester).index
due_in (ReturnDue board) c t = due_carried c t board Return 0 0
due_in (Seeking position part) c t = due_seek part c t position
due_in Unknown c t = due_own c t

-- a wait is on
abbrev pub is_awaiting : Phase → Bool
is_awaiting Resting = false
is_awaiting (Awaiting board exchange requester acked) = true
is_awaiting (ForwardDue board requester) = false
is_awaiting (ReturnDue board) = false
is_awaiting (Seeking position part) = is_waiting part
is_awaiting Unknown = false

-- a transmission is due by itself, though nobody be listed (02, C-11: 19 "only where nothing is due")
abbrev pub is_due : Phase → Bool
is_due Resting = false
is_due (Awaiting board exchange requester acked) = false
is_due (ForwardDue board requester) = true
is_due (ReturnDue board) = true
is_due (Seeking position part) = not (is_waiting part)
is_due Unknown = false

-- when a turn is refused: 22, then 18, 19, 11 (01, "Order")
abbrev pub turn_rules : Phase → Coordinator → List Node → ℕ → List (Bool × Refusal)
turn_rules phase c t room =
    (not (fits c t), StateUnfit) ∷
    (is_awaiting phase, AwaitingReply) ∷
    (not (some_listed t) && not (is_due phase), NobodyListed) ∷
    (ltb room (12 + length (due_in phase c t).payload), NoRoom) ∷ []

-- what is due is written, and the panel waits for the answer to it (01, "Turn")
abbrev pub sent : Due → After
sent d = accepted d.coordinator d.nodes d.says (frame_of d.header d.payload)

unfoldable pub turn_in : Phase → Coordinator → List Node → ℕ → After
turn_in phase c t room = ruled (turn_rules phase c t room) (refused c t) (sent (due_in phase c t))

abbrev pub turn_of : Coordinator → List Node → ℕ → After
turn_of c t room = turn_in (phase_of c.stand) c t room
