-- Frame: bytes received (01, "Frame (received bytes)").
use Rattle.std.specs.Prelude.{ℕ, ◌+◌, Bool, true, false, ◌&&◌, not, List, [], ◌∷◌, ◌++◌, length, take, drop, replicate, eqb, ltb, Result, Ok, Err}
use Rattle.ground.specs.Choose.{choose}
use Rattle.ground.specs.Bytes.{laid}
use Rattle.refusal.specs.Refusal.{Told, ruled}
use Rattle.refusal.specs.declared.Refusal.{Refusal}
use Rattle.refusal.specs.declared.Refusal.TheVariants.{StateUnfit, NotForUs, NotDiscovering, NotAwaited, NoRoom}
use Rattle.frame.specs.declared.Header.{Header}
use Rattle.frame.specs.Frame.{header_of, length_byte, read_rules}
use Rattle.board.specs.declared.Node.{Node}
use Rattle.board.specs.Node.{is_old}
use Rattle.board.specs.Table.{at, put}
use Rattle.board.specs.Change.{heard, renewed, owe_all}
use Rattle.setup.specs.declared.Setup.{Setup}
use Rattle.setup.specs.Setup.{old_subnet, address}
use Rattle.nodelist.specs.List.{same_list}
use Rattle.routing.specs.Route.{route_of}
use Rattle.message.specs.Message.{signed_frame, ack_code}
use Rattle.accept.specs.declared.Heard.{Heard}
use Rattle.accept.specs.declared.Heard.TheVariants.{Ack, Echo, Deliver, Route, Answer}
use Rattle.accept.specs.Accept.{is_ack, ack_session, heard_after_offer, heard_after_list, heard_after_forward, heard_after_return}
use Rattle.accept.specs.Replies.{reply_type}
use Rattle.coordinator.specs.declared.Coordinator.{Coordinator}
use Rattle.coordinator.specs.declared.Kept.{Kept}
use Rattle.coordinator.specs.declared.Found.{Found}
use Rattle.coordinator.specs.declared.Part.{Part}
use Rattle.coordinator.specs.declared.Part.TheVariants.{Search, IdentifyDue, Identify, Present, AssignDue, Assign}
use Rattle.coordinator.specs.declared.Exchange.{Exchange}
use Rattle.coordinator.specs.declared.Exchange.TheVariants.{Offer, List as Listing, Forward, Return}
use Rattle.coordinator.specs.declared.Phase.{Phase}
use Rattle.coordinator.specs.declared.Phase.TheVariants.{Resting, Awaiting, ForwardDue, ReturnDue, Seeking, Unknown}
use Rattle.coordinator.specs.Phase.{phase_of}
use Rattle.coordinator.specs.Fit.{fits}
use Rattle.coordinator.specs.Change.{with_phase, keeping}
use Rattle.steps.specs.After.{After, refused, accepted, waits, delivers, transmits, rests}
use Rattle.steps.specs.Hear.{hear}
use Rattle.steps.specs.Seek.{is_waiting, source_in, sought_in}

-- the payload of bytes that passed the reader
abbrev pub payload : List ℕ → List ℕ
payload b = take (length_byte b) (drop 10 b)

-- the awaited board's address is the source (01, number 6); in an exchange by which a board joins, the source that its part awaits (02, C-11)
abbrev pub awaits : Phase → Setup → ℕ → Bool
awaits Resting s source = false
awaits (Awaiting board exchange requester acked) s source = eqb source (address s board)
awaits (ForwardDue board requester) s source = false
awaits (ReturnDue board) s source = false
awaits (Seeking position part) s source = is_waiting part && eqb source (source_in part s position)
awaits Unknown s source = false

-- an exchange by which a board joins runs (02, C-11)
abbrev pub is_seeking : Phase → Bool
is_seeking Resting = false
is_seeking (Awaiting board exchange requester acked) = false
is_seeking (ForwardDue board requester) = false
is_seeking (ReturnDue board) = false
is_seeking (Seeking position part) = true
is_seeking Unknown = false

-- the forward now awaited is of the request that this type answers (02, C-11)
abbrev pub answers_forward : Phase → Kept → ℕ → Bool
answers_forward Resting m message = false
answers_forward (Awaiting board Offer requester acked) m message = false
answers_forward (Awaiting board Listing requester acked) m message = false
answers_forward (Awaiting board Forward requester acked) m message = eqb message (m.message + 128)
answers_forward (Awaiting board Return requester acked) m message = false
answers_forward (ForwardDue board requester) m message = false
answers_forward (ReturnDue board) m message = false
answers_forward (Seeking position part) m message = false
answers_forward Unknown m message = false

-- a response of type 0xF9 to 0xFB outside the exchange, unless the forward now awaited is of the request that it answers (02, C-11, number 23)
abbrev pub is_stray : Phase → Kept → ℕ → Bool
is_stray phase m message = reply_type message && not (is_seeking phase) && not (answers_forward phase m message)

-- what bytes are to the wait that is on: what it takes, or 7, 8, 9 (01, "Frame")
abbrev pub heard_in : Exchange → ℕ → Bool → Coordinator → List Node → Header → List ℕ → Result Heard Refusal
heard_in Offer board acked c t h p = heard_after_offer h.message h.method (is_ack (at t board).mac p)
heard_in Listing board acked c t h p = heard_after_list h.message (same_list (at t board).version c.setup.internal t p)
heard_in Forward board acked c t h p = heard_after_forward h.message c.kept.message (is_ack (at t board).mac p) acked
heard_in Return board acked c t h p = heard_after_return h.message (is_ack (at t board).mac p)

-- an accepted ACK with another session replaces it and owes the list to all (01, "Frame"; 000, 7.10.2)
abbrev pub hear_ack : List Node → ℕ → ℕ → List Node
hear_ack t board session =
    choose (eqb session (at t board).session) (hear t board) (owe_all (put t board (renewed (heard (at t board)) session)))

-- the message to carry: type, packet number, source node type, method, parameter 1 and payload of the frame received (01, "Forward and return"); zeros past the payload (house)
abbrev pub kept_of : Header → List ℕ → Kept
kept_of h p =
    record {
      message = h.message;
      packet = h.packet;
      kind = h.kind;
      method = h.method;
      parameter = h.parameter1;
      length = length p;
      payload = laid p (replicate 240 0);
    }

-- for a request or a response (0x94 too) the ACK due to the sender is written; 11 where it has no room (01, "Frame" and "Order")
abbrev pub acking : Coordinator → List Node → ℕ → ℕ → Told → Coordinator → After
acking c t board room says after =
    choose (ltb room 29) (refused c t NoRoom) (accepted after (hear t board) says (signed_frame c.setup t board (at t board).version ack_code))

-- where a request goes on: kept for its board, or discarded where there is none (01, "Frame")
abbrev pub routed : Coordinator → Header → List ℕ → ℕ → ℕ → Coordinator
routed c h p board to =
    choose (ltb 0 to) (with_phase (keeping c (kept_of h p)) (ForwardDue to board)) (with_phase c Resting)

-- what an accepted ACK does: it ends its wait, except after a forward (01, "Frame")
abbrev pub acked : Exchange → ℕ → ℕ → Coordinator → List Node → After
acked Offer board requester c t = accepted (with_phase c Resting) t rests []
acked Listing board requester c t = accepted (with_phase c Resting) t rests []
acked Forward board requester c t = accepted (with_phase c (Awaiting board Forward requester true)) t (waits board Forward) []
acked Return board requester c t = accepted (with_phase c Resting) t rests []

-- what each accepted frame does (01, "Frame"): an ACK; the list's echo; a request for the host; a request to route; the response to a forward, which is to be returned
abbrev pub taken_as : Result Heard Refusal → Exchange → ℕ → ℕ → Coordinator → List Node → Header → List ℕ → ℕ → After
taken_as (Ok Ack) exchange board requester c t h p room = acked exchange board requester c (hear_ack t board (ack_session p))
taken_as (Ok Echo) exchange board requester c t h p room = acking c t board room transmits (with_phase c Resting)
taken_as (Ok Deliver) exchange board requester c t h p room = acking c t board room delivers (with_phase c Resting)
taken_as (Ok Route) exchange board requester c t h p room = acking c t board room transmits (routed c h p board (route_of t c.setup.k board h.method h.parameter1))
taken_as (Ok Answer) exchange board requester c t h p room = acking c t board room transmits (with_phase (keeping c (kept_of h p)) (ReturnDue requester))
taken_as (Err r) exchange board requester c t h p room = refused c t r

abbrev pub taken_in : Phase → Coordinator → List Node → Header → List ℕ → ℕ → After
taken_in Resting c t h p room = refused c t NotAwaited
taken_in (Awaiting board exchange requester acked) c t h p room = taken_as (heard_in exchange board acked c t h p) exchange board requester c t h p room
taken_in (ForwardDue board requester) c t h p room = refused c t NotAwaited
taken_in (ReturnDue board) c t h p room = refused c t NotAwaited
taken_in (Seeking position part) c t h p room = sought_in part position c t h p room
taken_in Unknown c t h p room = refused c t NotAwaited

-- when a good frame is refused before a wait looks at it: 5, 23 and 6 (01, "Order"; 02, C-11)
abbrev pub listen_rules : Phase → Coordinator → Header → List (Bool × Refusal)
listen_rules phase c h =
    (not (eqb h.destination 255), NotForUs) ∷
    (is_stray phase c.kept h.message, NotDiscovering) ∷
    (not (awaits phase c.setup h.source), NotAwaited) ∷ []

-- a 1.0 board may answer in this part of the exchange by which a board joins: anyone in search, then what was discovered (02, C-15)
abbrev pub seeks_old : Part → Found → Bool
seeks_old Search f = true
seeks_old IdentifyDue f = is_old f.version
seeks_old Identify f = is_old f.version
seeks_old Present f = is_old f.version
seeks_old AssignDue f = is_old f.version
seeks_old Assign f = is_old f.version

-- the board awaited or discovered is a 1.0 board, or anyone is looked for (02, C-15)
abbrev pub hears_old : Phase → Coordinator → List Node → Bool
hears_old Resting c t = false
hears_old (Awaiting board exchange requester acked) c t = is_old (at t board).version
hears_old (ForwardDue board requester) c t = false
hears_old (ReturnDue board) c t = false
hears_old (Seeking position part) c t = seeks_old part c.found
hears_old Unknown c t = false

-- the subnet in which bytes are read: a 1.0 board's, 2, where they carry it and such a board may answer, else ours; 0 is always taken (02, C-15: "reading takes it too")
abbrev pub read_in : Phase → Coordinator → List Node → List ℕ → ℕ
read_in phase c t b = choose (hears_old phase c t && eqb (header_of b).subnet old_subnet) old_subnet c.setup.subnet

-- when bytes are refused before a wait looks at them: 22, then 1 to 4 and 24, then 5, 23 and 6; 7 to 9 and then 11 follow in `taken_in` (01, "Order"; 02, C-11, C-14 and C-15)
abbrev pub receive_rules : Phase → Coordinator → List Node → List ℕ → List (Bool × Refusal)
receive_rules phase c t b = (not (fits c t), StateUnfit) ∷ (read_rules (read_in phase c t b) b ++ listen_rules phase c (header_of b))

unfoldable pub receive_in : Phase → Coordinator → List Node → List ℕ → ℕ → After
receive_in phase c t b room = ruled (receive_rules phase c t b) (refused c t) (taken_in phase c t (header_of b) (payload b) room)

abbrev pub receive_of : Coordinator → List Node → List ℕ → ℕ → After
receive_of c t b room = receive_in (phase_of c.stand) c t b room
