-- What an accepted frame does: its board is heard and no other, in the exchange by which a board joins nobody but who is listed at the position at stake; what is written is an ACK to the sender.
-- A refused frame changes nothing.
use Prim.Native.Nat.{ℕ, ◌≤◌, ◌<◌, ◌^◌}
use native.Mathlib.Omega.{arith}
use mathlib.Core.Path.{◌≡◌, refl, sym, ap, subst, ◌∙◌}
use mathlib.Core.Logic.{◌⊎◌, inl, inr}
use mathlib.Core.Bool.{Bool, true, false, ◌&&◌, ◌||◌, not, false≢true}
use mathlib.Core.List.{List, [], ◌∷◌, ◌++◌}
use lib.ListN.{length, get_or}
use lib.Dec.{eqb, ltb}
use borrow.Author.Tests.{eqb-true, ne_eqb}
use Rattle.std.specs.Prelude.{Result, Ok, Err}
use Rattle.ground.specs.Choose.{choose}
use Rattle.ground.proofs.Choices.{and_right}
use Rattle.refusal.specs.Refusal.{Told, number_of, gives}
use Rattle.refusal.specs.declared.Refusal.{Refusal}
use Rattle.refusal.specs.declared.Refusal.TheVariants.{UnexpectedType, NoRoom}
use Rattle.refusal.proofs.Numbers.{not_zero}
use Rattle.refusal.proofs.Rules.{Passed, passed, unrefused, each, by_rules}
use Rattle.frame.specs.declared.Header.{Header}
use Rattle.frame.specs.Frame.{fields, header_of, reading, payload_of}
use Rattle.board.specs.declared.Node.{Node}
use Rattle.board.specs.Table.{at, put}
use Rattle.board.specs.declared.Wanted.TheVariants.{Mac}
use Rattle.board.specs.Wanted.{wanted_at}
use Rattle.board.specs.Change.{heard, renewed, owe_all}
use Rattle.board.proofs.Changes.{at_put, at_put_other, owe_all_keeps}
use Rattle.board.proofs.Numbered.{relisted_keeps}
use Rattle.setup.specs.Setup.{address, subnet_of}
use Rattle.setup.specs.Fitness.{FitSetup}
use Rattle.message.specs.Message.{signed_header, signed, signed_frame, ack_code}
use Rattle.message.proofs.Messages.{Form, ack_form, own_fields, own_back, signed_size, signed_small}
use Rattle.accept.specs.declared.Heard.{Heard}
use Rattle.accept.specs.declared.Heard.TheVariants.{Ack, Echo, Deliver, Route, Answer}
use Rattle.accept.specs.declared.Reply.{Reply}
use Rattle.accept.specs.declared.Reply.TheVariants.{Discovered, Present as AckCame, Identified, Assigned}
use Rattle.accept.specs.Accept.{ack_session}
use Rattle.accept.specs.Replies.{mac_after, is_discovery, heard_in_search}
use Rattle.coordinator.specs.declared.Coordinator.{Coordinator}
use Rattle.coordinator.specs.declared.Exchange.{Exchange}
use Rattle.coordinator.specs.declared.Exchange.TheVariants.{Offer, List as Listing, Forward, Return}
use Rattle.coordinator.specs.declared.Phase.{Phase}
use Rattle.coordinator.specs.declared.Phase.TheVariants.{Resting, Awaiting, ForwardDue, ReturnDue, Seeking, Unknown}
use Rattle.coordinator.specs.declared.Found.{Found}
use Rattle.coordinator.specs.declared.Part.{Part}
use Rattle.coordinator.specs.declared.Part.TheVariants.{Search, IdentifyDue, Identify, Present, AssignDue, Assign}
use Rattle.coordinator.specs.Phase.{phase_of}
use Rattle.coordinator.specs.Fit.{fits}
use Rattle.coordinator.specs.Change.{finding, ended}
use Rattle.coordinator.proofs.Fitting.{Board, fits_forty, fit_told, awaited}
use Rattle.steps.specs.declared.Event.TheVariants.{Frame}
use Rattle.steps.specs.After.{After, refused, accepted, resting, delivers, transmits, rests}
use Rattle.steps.specs.Join.{join_rules, join_of}
use Rattle.steps.specs.Hear.{hear, hear_mac}
use Rattle.steps.specs.Seek.{is_waiting, source_in, discovered, identified, join_found, answered, outcome, acknowledged, settled, reply_in, replied_as, sought_in}
use Rattle.steps.specs.Receive.{payload, awaits, heard_in, hear_ack, acked, acking, taken_as, taken_in, receive_rules, receive_in, receive_of}
use Rattle.steps.proofs.Admitted.{Admitted, admitted}
use Rattle.steps.proofs.Refusals.{Plain, plain_step, Unchanged, refusal_changes_nothing}

-- a refused frame changes nothing
pub refused_frame_changes_nothing : (c : Coordinator) (t : List Node) (b : List ℕ) (room : ℕ) → ((receive_of c t b room).says.number ≡ 0 → ⊥) → Unchanged c t (receive_of c t b room)
refused_frame_changes_nothing c t b room n = refusal_changes_nothing c t Frame b room n

-- the misses of all but one position as they were
abbrev pub Spared : List Node → ℕ → List Node → Type 0
Spared t position u = (p : ℕ) → (p ≡ position → ⊥) → (at u p).misses ≡ (at t p).misses

-- the records with no misses at one board, and the misses of all others as they were
pub record Cleared (t : List Node) (board : ℕ) (u : List Node) : Type 0 where
  pub zero : (at u board).misses ≡ 0
  pub others : Spared t board u

misses : Node → ℕ
misses n = n.misses

module _ (t : List Node) (board : ℕ) (from : 1 ≤ board) (up_to : board ≤ length t) where
  cleared_put : (n : Node) → n.misses ≡ 0 → Cleared t board (put t board n)
  unfolding misses
  cleared_put n e = record { zero = ap misses (at_put t board n from up_to) ∙ e; others = λ p ne. ap misses (at_put_other t board p n ne) }

  cleared_owed : (u : List Node) → Cleared t board u → Cleared t board (owe_all u)
  cleared_owed u k = record { zero = (owe_all_keeps u board).misses ∙ k.zero; others = λ p ne. (owe_all_keeps u p).misses ∙ k.others p ne }

  cleared_ack : (session : ℕ) → Cleared t board (hear_ack t board session)
  unfolding choose
  cleared_ack session = go (eqb session (at t board).session)
    where
      go : (b : Bool) → Cleared t board (choose b (hear t board) (owe_all (put t board (renewed (heard (at t board)) session))))
      go true = cleared_put (heard (at t board)) refl
      go false = cleared_owed (put t board (renewed (heard (at t board)) session)) (cleared_put (renewed (heard (at t board)) session) refl)

  -- an ACK of ours has room, or the frame is refused
  cleared_acking : (c : Coordinator) (room : ℕ) (says : Told) (after : Coordinator) → (acking c t board room says after).says.number ≡ 0 → Cleared t board (acking c t board room says after).nodes
  unfolding choose
  cleared_acking c room says after e = go (ltb room 29) e
    where
      go : (b : Bool) → (choose b (refused c t NoRoom) (accepted after (hear t board) says (signed_frame c.setup t board (at t board).version ack_code))).says.number ≡ 0 → Cleared t board (choose b (refused c t NoRoom) (accepted after (hear t board) says (signed_frame c.setup t board (at t board).version ack_code))).nodes
      go true q = absurd (not_zero NoRoom q)
      go false q = cleared_put (heard (at t board)) refl

  cleared_taken : (k : Result Heard Refusal) (e : Exchange) (requester : ℕ) (c : Coordinator) (h : Header) (p : List ℕ) (room : ℕ) → (taken_as k e board requester c t h p room).says.number ≡ 0 → Cleared t board (taken_as k e board requester c t h p room).nodes
  cleared_taken (Ok Ack) e requester c h p room a = go e
    where
      go : (e : Exchange) → Cleared t board (acked e board requester c (hear_ack t board (ack_session p))).nodes
      go Offer = cleared_ack (ack_session p)
      go Listing = cleared_ack (ack_session p)
      go Forward = cleared_ack (ack_session p)
      go Return = cleared_ack (ack_session p)
  cleared_taken (Ok Echo) e requester c h p room a = cleared_acking c room _ _ a
  cleared_taken (Ok Deliver) e requester c h p room a = cleared_acking c room _ _ a
  cleared_taken (Ok Route) e requester c h p room a = cleared_acking c room _ _ a
  cleared_taken (Ok Answer) e requester c h p room a = cleared_acking c room _ _ a
  cleared_taken (Err r) e requester c h p room a = absurd (not_zero r a)

-- a frame in the exchange by which a board joins changes the misses of nobody but who is listed at the position at stake
module _ (t : List Node) where
  spared_hear : (position mac : ℕ) → Spared t position (hear_mac t position mac)
  unfolding choose misses
  spared_hear position mac p ne = go (wanted_at (Mac mac) t position)
    where
      go : (b : Bool) → (at (choose b (hear t position) t) p).misses ≡ (at t p).misses
      go true = ap misses (at_put_other t position p (heard (at t position)) ne)
      go false = refl

  -- a join changes those of nobody but who joins
  spared_join : (c : Coordinator) (kind mac session version : ℕ) → Spared t (join_of c t kind mac session version).joined (join_of c t kind mac session version).nodes
  unfolding join_of misses
  spared_join c kind mac session version p = by_rules Spares (join_rules c t kind mac version) (refused c t) _ (each {Q = λ (r : Refusal). Spares (refused c t r)} (λ r. λ ne. refl) (join_rules c t kind mac version)) (λ ok. λ ne. (relisted_keeps _ p).misses ∙ ap misses (at_put_other t _ p _ ne))
    where
      Spares : After → Type 0
      Spares a = (p ≡ a.joined → ⊥) → (at a.nodes p).misses ≡ (at t p).misses

  module _ (c : Coordinator) (position : ℕ) where
    spared_outcome : (f : Found) → Spared t position (outcome c t position f).nodes
    unfolding choose
    spared_outcome f p ne = go (eqb (join_found c t f).joined position) refl
      where
        go : (b : Bool) → eqb (join_found c t f).joined position ≡ b → (at (choose b (join_found c t f) (resting (ended c) (hear_mac t position f.mac) 0 0)).nodes p).misses ≡ (at t p).misses
        go true e = spared_join (ended c) f.kind f.mac f.session f.version p (λ q. ne (q ∙ eqb-true _ _ e))
        go false e = spared_hear position f.mac p ne

    spared_settled : (f : Found) (room : ℕ) → Spared t position (settled c t position f room).nodes
    unfolding choose
    spared_settled f room p ne = go (ltb room 29)
      where
        go : (b : Bool) → (at (choose b (refused c t NoRoom) (acknowledged c.setup position f.version (outcome c t position f))).nodes p).misses ≡ (at t p).misses
        go true = refl
        go false = spared_outcome f p ne

    spared_answered : (f : Found) → (answered c t f).nodes ≡ t
    unfolding choose
    spared_answered f = go (ltb 0 (join_found c t f).joined)
      where
        go : (b : Bool) → (choose b (accepted (finding c f (join_found c t f).joined) t rests []) (accepted (ended c) t rests [])).nodes ≡ t
        go true = refl
        go false = refl

    spared_replied : (reply : Result Reply Refusal) (packet : ℕ) (payload : List ℕ) (room : ℕ) → Spared t position (replied_as reply position c t packet payload room).nodes
    spared_replied (Ok Discovered) packet payload room p ne = ap (λ (u : List Node). (at u p).misses) (spared_answered (discovered packet payload))
    spared_replied (Ok AckCame) packet payload room p ne = spared_hear position (mac_after payload) p ne
    spared_replied (Ok Identified) packet payload room p ne = spared_settled (identified c.found.version payload) room p ne
    spared_replied (Ok Assigned) packet payload room p ne = spared_settled c.found room p ne
    spared_replied (Err r) packet payload room p ne = refl

-- the answer is deliver or transmit
abbrev pub acks : Told → Bool
acks says = eqb says.number 0 && (eqb (get_or says.values 0 0) 2 || eqb (get_or says.values 0 0) 3)

-- nothing is written, and the answer is another
abbrev pub Silent : After → Type 0
Silent a = (a.bytes ≡ []) × (acks a.says ≡ false)

silent_refusal : (c : Coordinator) (t : List Node) (r : Refusal) → Silent (refused c t r)
silent_refusal c t r = (refl, rw (ne_eqb (number_of r) 0 (not_zero r)) refl)

-- what a frame writes in a wait: nothing, or the ACK to the board
module _ (e : Exchange) (board requester : ℕ) (c : Coordinator) (t : List Node) (h : Header) (p : List ℕ) (room : ℕ) where
  abbrev Written : After → Type 0
  Written a = (a.bytes ≡ signed_frame c.setup t board (at t board).version ack_code) × (acks a.says ≡ true)

  written_acked : (e : Exchange) → Silent (acked e board requester c (hear_ack t board (ack_session p)))
  written_acked Offer = (refl, refl)
  written_acked Listing = (refl, refl)
  written_acked Forward = (refl, refl)
  written_acked Return = (refl, refl)

  written_acking : (says : Told) (after : Coordinator) → acks says ≡ true → Silent (acking c t board room says after) ⊎ Written (acking c t board room says after)
  unfolding choose
  written_acking says after q = go (ltb room 29)
    where
      go : (b : Bool) → Silent (choose b (refused c t NoRoom) (accepted after (hear t board) says (signed_frame c.setup t board (at t board).version ack_code))) ⊎ Written (choose b (refused c t NoRoom) (accepted after (hear t board) says (signed_frame c.setup t board (at t board).version ack_code)))
      go true = inl (refl, refl)
      go false = inr (refl, q)

  written_taken : (k : Result Heard Refusal) → Silent (taken_as k e board requester c t h p room) ⊎ Written (taken_as k e board requester c t h p room)
  written_taken (Ok Ack) = inl (written_acked e)
  written_taken (Ok Echo) = written_acking transmits _ refl
  written_taken (Ok Deliver) = written_acking delivers _ refl
  written_taken (Ok Route) = written_acking transmits _ refl
  written_taken (Ok Answer) = written_acking transmits _ refl
  written_taken (Err r) = inl (silent_refusal c t r)

-- what a frame writes in the exchange by which a board joins: nothing, or from the address at stake the ACK to it, with the index of the records that the step leaves
module _ (position : ℕ) (c : Coordinator) (t : List Node) (h : Header) (p : List ℕ) (room : ℕ) where
  abbrev Settled : After → Type 0
  Settled a = (a.bytes ≡ signed_frame c.setup a.nodes position c.found.version ack_code) × (acks a.says ≡ true)

  settled_written : (f : Found) → f.version ≡ c.found.version → Silent (settled c t position f room) ⊎ Settled (settled c t position f room)
  unfolding choose
  settled_written f same = go (ltb room 29)
    where
      go : (b : Bool) → Silent (choose b (refused c t NoRoom) (acknowledged c.setup position f.version (outcome c t position f))) ⊎ Settled (choose b (refused c t NoRoom) (acknowledged c.setup position f.version (outcome c t position f)))
      go true = inl (refl, refl)
      go false = inr (ap (λ (v : ℕ). signed_frame c.setup (outcome c t position f).nodes position v ack_code) same, refl)

  answered_silent : (f : Found) → Silent (answered c t f)
  unfolding choose
  answered_silent f = go (ltb 0 (join_found c t f).joined)
    where
      go : (b : Bool) → Silent (choose b (accepted (finding c f (join_found c t f).joined) t rests []) (accepted (ended c) t rests []))
      go true = (refl, refl)
      go false = (refl, refl)

  replied_written : (reply : Result Reply Refusal) → Silent (replied_as reply position c t h.packet p room) ⊎ Settled (replied_as reply position c t h.packet p room)
  replied_written (Ok Discovered) = inl (answered_silent (discovered h.packet p))
  replied_written (Ok AckCame) = inl (refl, refl)
  replied_written (Ok Identified) = settled_written (identified c.found.version p) refl
  replied_written (Ok Assigned) = settled_written c.found refl
  replied_written (Err r) = inl (silent_refusal c t r)

  -- in search nobody has an address, and nothing is written
  search_silent : Silent (sought_in Search position c t h p room)
  unfolding heard_in_search choose
  search_silent = go (not (is_discovery h.message p))
    where
      go : (b : Bool) → Silent (replied_as (choose b (Err UnexpectedType) (Ok Discovered)) position c t h.packet p room)
      go true = silent_refusal c t UnexpectedType
      go false = answered_silent (discovered h.packet p)

  from_stake : (reply : Result Reply Refusal) → Silent (replied_as reply position c t h.packet p room) ⊎ ((address c.setup position ≡ address c.setup position) × Settled (replied_as reply position c t h.packet p room))
  from_stake reply = go (replied_written reply)
    where
      go : Silent (replied_as reply position c t h.packet p room) ⊎ Settled (replied_as reply position c t h.packet p room) → Silent (replied_as reply position c t h.packet p room) ⊎ ((address c.setup position ≡ address c.setup position) × Settled (replied_as reply position c t h.packet p room))
      go (inl silent) = inl silent
      go (inr written) = inr (refl, written)

  sought_written : (part : Part) → Silent (sought_in part position c t h p room) ⊎ ((source_in part c.setup position ≡ address c.setup position) × Settled (sought_in part position c t h p room))
  sought_written Search = inl search_silent
  sought_written IdentifyDue = from_stake (reply_in IdentifyDue position c h p)
  sought_written Identify = from_stake (reply_in Identify position c h p)
  sought_written Present = from_stake (reply_in Present position c h p)
  sought_written AssignDue = from_stake (reply_in AssignDue position c h p)
  sought_written Assign = from_stake (reply_in Assign position c h p)

-- what bytes do in a wait
abbrev in_wait : Exchange → ℕ → ℕ → Bool → Coordinator → List Node → List ℕ → ℕ → After
in_wait exchange board requester came c t b room = taken_as (heard_in exchange board came c t (header_of b) (payload b)) exchange board requester c t (header_of b) (payload b) room

-- an accepted frame: the wait that was on, the board that it came from, and what it does in that wait
pub record Taken (c : Coordinator) (t : List Node) (b : List ℕ) (room : ℕ) : Type 0 where
  pub board : ℕ
  pub exchange : Exchange
  pub requester : ℕ
  pub came : Bool
  pub waited : phase_of c.stand ≡ Awaiting board exchange requester came
  pub sender : (header_of b).source ≡ address c.setup board
  pub fit : fits c t ≡ true
  pub does : receive_of c t b room ≡ in_wait exchange board requester came c t b room

-- an accepted frame in the exchange by which a board joins: the position at stake and the part, the source that the part awaits, and what the frame does there
pub record Sought (c : Coordinator) (t : List Node) (b : List ℕ) (room : ℕ) : Type 0 where
  pub position : ℕ
  pub part : Part
  pub seeking : phase_of c.stand ≡ Seeking position part
  pub sender : (header_of b).source ≡ source_in part c.setup position
  pub fit : fits c t ≡ true
  pub does : receive_of c t b room ≡ sought_in part position c t (header_of b) (payload b) room

-- a frame is accepted in a wait for a board or in that exchange
pub taken_of : (c : Coordinator) (t : List Node) (b : List ℕ) (room : ℕ) → (receive_of c t b room).says.number ≡ 0 → Taken c t b room ⊎ Sought c t b room
unfolding receive_in
taken_of c t b room a = go (phase_of c.stand) refl let_in.awaited
  where
    ok : Passed (receive_rules (phase_of c.stand) c t b)
    ok = unrefused (λ (x : After). x.says.number ≡ 0) (receive_rules (phase_of c.stand) c t b) (refused c t) (taken_in (phase_of c.stand) c t (header_of b) (payload b) room) (λ q. not_zero q) a

    let_in : Admitted (phase_of c.stand) c t b
    let_in = admitted (phase_of c.stand) c t b ok

    value : {w : Phase} → phase_of c.stand ≡ w → receive_of c t b room ≡ taken_in w c t (header_of b) (payload b) room
    value e = passed (receive_rules (phase_of c.stand) c t b) (refused c t) (taken_in (phase_of c.stand) c t (header_of b) (payload b) room) ok ∙ ap (λ (w : Phase). taken_in w c t (header_of b) (payload b) room) e

    go : (w : Phase) → phase_of c.stand ≡ w → awaits w c.setup (header_of b).source ≡ true → Taken c t b room ⊎ Sought c t b room
    go Resting e h = absurd (false≢true h)
    go (Awaiting board exchange requester came) e h =
        inl
        (record {
          board = board;
          exchange = exchange;
          requester = requester;
          came = came;
          waited = e;
          sender = eqb-true _ _ h;
          fit = let_in.fit;
          does = value e;
        })
    go (ForwardDue board requester) e h = absurd (false≢true h)
    go (ReturnDue board) e h = absurd (false≢true h)
    go (Seeking position part) e h =
        inr
        (record {
          position = position;
          part = part;
          seeking = e;
          sender = eqb-true _ _ (and_right (is_waiting part) _ h);
          fit = let_in.fit;
          does = value e;
        })
    go Unknown e h = absurd (false≢true h)

-- a frame accepted in a wait for a board sets the misses of that board to 0 and changes no other's
pub heard_cleared : (c : Coordinator) (t : List Node) (b : List ℕ) (room : ℕ) → (receive_of c t b room).says.number ≡ 0 → (k : Taken c t b room) → Cleared t k.board (receive_of c t b room).nodes
heard_cleared c t b room a k = subst (λ (x : After). Cleared t k.board x.nodes) (sym k.does) (cleared_taken t k.board here.from (omega (arith, here.up_to, here.few, fits_forty c t k.fit)) (heard_in k.exchange k.board k.came c t (header_of b) (payload b)) k.exchange k.requester c (header_of b) (payload b) room (sym (ap (λ (x : After). x.says.number) k.does) ∙ a))
  where
    here : Board c t k.board
    here = awaited c t k.fit k.waited

-- and one accepted in the exchange by which a board joins changes those of nobody but who is listed at the position at stake
pub sought_spared : (c : Coordinator) (t : List Node) (b : List ℕ) (room : ℕ) (k : Sought c t b room) → Spared t k.position (receive_of c t b room).nodes
sought_spared c t b room k = subst (λ (x : After). Spared t k.position x.nodes) (sym k.does) (spared_replied t c k.position (reply_in k.part k.position c (header_of b) (payload b)) (header_of b).packet (payload b) room)

-- the ACK as its receiver reads it: to the sender of the frame, from 255, the subnet of a version, method 0, parameter 1 0, the board's index on record, type 165, message 0, packet number 0x80;
-- in its payload of 17 bytes code 6, our MAC and our session (01, "Turn": "Own frames"; 003, Table 49; 02, C-15)
pub record AckTo (c : Coordinator) (t : List Node) (board version source : ℕ) (bytes : List ℕ) : Type 0 where
  pub sender : source ≡ address c.setup board
  pub reads : reading (subnet_of c.setup version) bytes ≡ gives (source ∷ 255 ∷ subnet_of c.setup version ∷ 0 ∷ 0 ∷ (at t board).index ∷ 165 ∷ 0 ∷ 128 ∷ 17 ∷ [])
  pub form : c.setup.session < 2 ^ 64 → Form 6 c.setup.mac c.setup.session (payload_of (subnet_of c.setup version) bytes)

ack_to : (c : Coordinator) (t : List Node) (board version source : ℕ) → FitSetup c.setup → source ≡ address c.setup board → AckTo c t board version source (signed_frame c.setup t board version ack_code)
ack_to c t board version source f e =
    record {
      sender = e;
      reads = back.0 ∙ ap (λ (l : List ℕ). gives (l ++ length (signed c.setup ack_code) ∷ [])) (own_fields c.setup board version (at t board).index 0 128) ∙ (λ i. gives (sym e i ∷ 255 ∷ subnet_of c.setup version ∷ 0 ∷ 0 ∷ (at t board).index ∷ 165 ∷ 0 ∷ 128 ∷ signed_size c.setup ack_code i ∷ []));
      form = λ l. subst (Form 6 c.setup.mac c.setup.session) (sym back.1) (ack_form c.setup (omega (arith, f.mac.below)) l);
    }
  where
    back : (reading (subnet_of c.setup version) (signed_frame c.setup t board version ack_code) ≡ gives (fields (signed_header c.setup board version (at t board).index) ++ length (signed c.setup ack_code) ∷ [])) × (payload_of (subnet_of c.setup version) (signed_frame c.setup t board version ack_code) ≡ signed c.setup ack_code)
    back = own_back c.setup board version (at t board).index 0 128 (signed c.setup ack_code) (signed_small c.setup ack_code)

-- where the panel delivers or transmits it writes an ACK that reads well to the sender of the frame, and elsewhere nothing
abbrev pub Answers : Coordinator → List Node → ℕ → ℕ → ℕ → After → Type 0
Answers c t board version source a = Silent a ⊎ (AckTo c t board version source a.bytes × (acks a.says ≡ true))

-- phase by phase: in a wait for a board the ACK is to that board, in the subnet of its version; in the exchange by which a board joins it is to the position at stake, in the subnet of what was discovered, with the index of the records that the frame leaves (02, C-11 and C-15)
abbrev pub AnswersIn : Phase → Coordinator → List Node → ℕ → After → Type 0
AnswersIn Resting c t source a = Silent a
AnswersIn (Awaiting board exchange requester came) c t source a = Answers c t board (at t board).version source a
AnswersIn (ForwardDue board requester) c t source a = Silent a
AnswersIn (ReturnDue board) c t source a = Silent a
AnswersIn (Seeking position part) c t source a = Answers c a.nodes position c.found.version source a
AnswersIn Unknown c t source a = Silent a

silent_in : (w : Phase) (c : Coordinator) (t : List Node) (source : ℕ) (a : After) → Silent a → AnswersIn w c t source a
silent_in Resting c t source a s = s
silent_in (Awaiting board exchange requester came) c t source a s = inl s
silent_in (ForwardDue board requester) c t source a s = s
silent_in (ReturnDue board) c t source a s = s
silent_in (Seeking position part) c t source a s = inl s
silent_in Unknown c t source a s = s

module _ (c : Coordinator) (t : List Node) (b : List ℕ) (room : ℕ) where
  abbrev a : After
  a = receive_of c t b room

  abbrev source : ℕ
  source = (header_of b).source

  -- bytes that are the ACK to a position, with the index in some records, read as one
  answers : (board version : ℕ) (u : List Node) → fits c t ≡ true → source ≡ address c.setup board → (a.bytes ≡ signed_frame c.setup u board version ack_code) × (acks a.says ≡ true) → Answers c u board version source a
  answers board version u f e (w, q) = inr (subst (AckTo c u board version source) (sym w) (ack_to c u board version source (fit_told c t f).setup e), q)

  in_wait_lem : (k : Taken c t b room) → Answers c t k.board (at t k.board).version source a
  in_wait_lem k = go (subst (λ (x : After). Silent x ⊎ ((x.bytes ≡ signed_frame c.setup t k.board (at t k.board).version ack_code) × (acks x.says ≡ true))) (sym k.does) (written_taken k.exchange k.board k.requester c t (header_of b) (payload b) room (heard_in k.exchange k.board k.came c t (header_of b) (payload b))))
    where
      go : Silent a ⊎ ((a.bytes ≡ signed_frame c.setup t k.board (at t k.board).version ack_code) × (acks a.says ≡ true)) → Answers c t k.board (at t k.board).version source a
      go (inl s) = inl s
      go (inr w) = answers k.board (at t k.board).version t k.fit k.sender w

  in_exchange : (k : Sought c t b room) → Answers c a.nodes k.position c.found.version source a
  in_exchange k = go (subst (λ (x : After). Silent x ⊎ ((source_in k.part c.setup k.position ≡ address c.setup k.position) × ((x.bytes ≡ signed_frame c.setup x.nodes k.position c.found.version ack_code) × (acks x.says ≡ true)))) (sym k.does) (sought_written k.position c t (header_of b) (payload b) room k.part))
    where
      go : Silent a ⊎ ((source_in k.part c.setup k.position ≡ address c.setup k.position) × ((a.bytes ≡ signed_frame c.setup a.nodes k.position c.found.version ack_code) × (acks a.says ≡ true))) → Answers c a.nodes k.position c.found.version source a
      go (inl s) = inl s
      go (inr (from, w)) = answers k.position c.found.version a.nodes k.fit (k.sender ∙ from) w

  pub written_is_ack : AnswersIn (phase_of c.stand) c t (header_of b).source (receive_of c t b room)
  written_is_ack = go (plain_step c t Frame b room)
    where
      taken : Taken c t b room ⊎ Sought c t b room → AnswersIn (phase_of c.stand) c t source a
      taken (inl k) = subst (λ (w : Phase). AnswersIn w c t source a) (sym k.waited) (in_wait_lem k)
      taken (inr k) = subst (λ (w : Phase). AnswersIn w c t source a) (sym k.seeking) (in_exchange k)

      go : Plain c t a → AnswersIn (phase_of c.stand) c t source a
      go (inl e) = taken (taken_of c t b room e)
      go (inr (r, e)) = silent_in (phase_of c.stand) c t source a (subst (λ (x : After). Silent x) (sym e) (silent_refusal c t r))
