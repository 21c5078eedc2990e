-- What a turn sends: a good frame, from us, to a listed board's address in its subnet, or in the exchange by which a board joins to the address at stake or to all; and what it says in each exchange.
use Prim.Native.Nat.{ℕ, ◌≤◌, ◌<◌}
use native.Mathlib.Omega.{arith}
use mathlib.Core.Path.{◌≡◌, refl, sym, ap, subst, ◌∙◌}
use mathlib.Core.Logic.{◌⊎◌, inl, inr}
use mathlib.Core.Bool.{Bool, true, false, ◌&&◌, not, false≢true}
use mathlib.Core.List.{List, []}
use lib.ListN.{length, take, length-take}
use lib.Dec.{eqb, ltb}
use borrow.Author.Tests.{ltb-true, not-false}
use Rattle.ground.specs.Choose.{choose}
use Rattle.ground.proofs.Choices.{and_left}
use Rattle.refusal.specs.Refusal.{Told}
use Rattle.refusal.proofs.Numbers.{not_zero}
use Rattle.refusal.proofs.Rules.{Passed, passed, unrefused}
use Rattle.frame.specs.declared.Header.{Header}
use Rattle.frame.specs.Frame.{header_of, ReadsWell, payload_of, frame_of}
use Rattle.frame.proofs.Subnets.{takes_own}
use Rattle.frame.proofs.RoundTrip.{reads_back, reads_back_own, reads_back_all}
use Rattle.board.specs.declared.Node.{Node}
use Rattle.board.specs.declared.Wanted.TheVariants.{Listed as ListedOnes, Owed}
use Rattle.board.specs.Table.{at, listed_at}
use Rattle.board.specs.Wanted.{lowest_of, some_listed, index_of}
use Rattle.board.specs.Round.{next_listed}
use Rattle.board.proofs.LowestWanted.{lowest_wanted}
use Rattle.board.proofs.NextListed.{next_nearest}
use Rattle.setup.specs.Setup.{address, subnet_of}
use Rattle.setup.specs.Fitness.{Position, FitSetup}
use Rattle.setup.proofs.Apart.{address_from, address_up_to}
use Rattle.nodelist.specs.List.{list_for}
use Rattle.message.specs.Message.{to_board, own_header, signed, offer_code, broadcast_header, assignment}
use Rattle.message.proofs.Messages.{signed_small, list_small, assignment_small}
use Rattle.coordinator.specs.declared.Coordinator.{Coordinator}
use Rattle.coordinator.specs.declared.Kept.{Kept}
use Rattle.coordinator.specs.declared.Exchange.{Exchange}
use Rattle.coordinator.specs.declared.Exchange.TheVariants.{Offer, List as Listing, Forward, Return}
use Rattle.coordinator.specs.declared.Part.TheVariants.{Search, IdentifyDue, Identify, Present, AssignDue, Assign}
use Rattle.coordinator.specs.declared.Phase.{Phase}
use Rattle.coordinator.specs.declared.Phase.TheVariants.{Resting, Awaiting, ForwardDue, ReturnDue, Seeking, Unknown}
use Rattle.coordinator.specs.Phase.{phase_of}
use Rattle.coordinator.specs.Fit.{fits}
use Rattle.coordinator.proofs.Fitting.{Board, fit_told, fits_stake, some_listed_lem, board_listed, due_forward, due_return, due_response, request_told, response_told}
use Rattle.steps.specs.declared.Seek.{Seek as Seeks}
use Rattle.steps.specs.declared.Seek.TheVariants.{Search as ToSearch, Identify as ToIdentify, Assign as ToAssign}
use Rattle.steps.specs.declared.Answer.{Answer}
use Rattle.steps.specs.declared.Answer.TheVariants.{Wait, Seek, Deliver, Transmit, Rest, Refuse}
use Rattle.steps.specs.After.{After, refused, waits, seeks}
use Rattle.steps.specs.Turn.{Due, due_carried, due_list, due_offer, due_identify, due_assign, due_own, due_in, is_due, owed_to, sent, turn_rules, turn_in, turn_of}
use Rattle.steps.proofs.Shows.{same_told}

-- bytes that go to a position of the pool, in the subnet of a version: they read as a good frame there, to its address, from 255 (01, "Turn" and "Forward and return"; 02, C-11 and C-15)
pub record Reaches (c : Coordinator) (version position : ℕ) (bytes : List ℕ) : Type 0 where
  pub good : ReadsWell (subnet_of c.setup version) bytes
  pub destination : (header_of bytes).destination ≡ address c.setup position
  pub from : 1 ≤ (header_of bytes).destination
  pub up_to : (header_of bytes).destination ≤ 254
  pub source : (header_of bytes).source ≡ 255
  pub subnet : (header_of bytes).subnet ≡ subnet_of c.setup version

-- bytes that go to a board: it is listed at the position that they go to, in the subnet of its version (02, C-15)
pub record Goes (c : Coordinator) (t : List Node) (board : ℕ) (bytes : List ℕ) : Type 0 where
  pub listed : listed_at t board ≡ true
  pub reaches : Reaches c (at t board).version board bytes

-- bytes that go to whoever has no address yet: they read as a good frame in every subnet, to 0, from 255, in subnet 0 (02, C-11; 003, 6.6 and 6.7)
pub record Broadcast (bytes : List ℕ) : Type 0 where
  pub good : (ours : ℕ) → ReadsWell ours bytes
  pub destination : (header_of bytes).destination ≡ 0
  pub source : (header_of bytes).source ≡ 255
  pub subnet : (header_of bytes).subnet ≡ 0

-- what bytes hold besides: node type, type, packet number, method, parameters 1 and 2, and the payload
pub record Holds (kind message packet method parameter1 parameter2 : ℕ) (payload bytes : List ℕ) : Type 0 where
  pub kind_is : (header_of bytes).kind ≡ kind
  pub message_is : (header_of bytes).message ≡ message
  pub packet_is : (header_of bytes).packet ≡ packet
  pub method_is : (header_of bytes).method ≡ method
  pub parameter1_is : (header_of bytes).parameter1 ≡ parameter1
  pub parameter2_is : (header_of bytes).parameter2 ≡ parameter2
  pub payload_is : payload_of (header_of bytes).subnet bytes ≡ payload

-- bytes that carry a message: its source node type, type, packet number, method, parameter 1 and payload, and this parameter 2 (01, "Forward and return")
abbrev pub Carries : Kept → ℕ → List ℕ → Type 0
Carries m second bytes = Holds m.kind m.message m.packet m.method m.parameter second (take m.length m.payload) bytes

-- bytes of our own: node type 165, method 0, parameter 1 0, parameter 2 the board's index as it is counted, with this type, packet number and payload (01, "Turn": "Own frames")
abbrev pub Own : List Node → ℕ → ℕ → ℕ → List ℕ → List ℕ → Type 0
Own t board message packet payload bytes = Holds 165 message packet 0 0 (index_of t board) payload bytes

-- what the bytes to a board say in each exchange: an offer goes to the next after the last one offered, a list to the lowest owed;
-- a forward carries what was kept with the index of the board that made the request, a return carries it with 0 (01, "Turn" and "Forward and return")
abbrev pub Says : Coordinator → List Node → Exchange → ℕ → List ℕ → Type 0
Says c t Offer b bytes = (b ≡ next_listed t c.setup.k c.last) × Own t b 0 128 (signed c.setup offer_code) bytes
Says c t Listing b bytes = (b ≡ owed_to c t) × Own t b 20 0 (list_for (at t b).version c.setup.internal t) bytes
Says c t Forward b bytes = (q : ℕ) × (phase_of c.stand ≡ ForwardDue b q) × Carries c.kept (index_of t q) bytes
Says c t Return b bytes = (phase_of c.stand ≡ ReturnDue b) × Carries c.kept 0 bytes

-- what the bytes of a turn say in the exchange by which a board joins: Get Node ID goes to the address at stake, without a payload; Set Address goes to all,
-- with that address, and subnet, MAC and session of what was discovered; a discovery is no turn's (02, C-11; 003, Tables 59 and 61)
abbrev pub Asks : Coordinator → List Node → Seeks → ℕ → List ℕ → Type 0
Asks c t ToSearch p bytes = ⊥
Asks c t ToIdentify p bytes = (phase_of c.stand ≡ Seeking p IdentifyDue) × Reaches c c.found.version p bytes × Own t p 123 0 [] bytes
Asks c t ToAssign p bytes = (phase_of c.stand ≡ Seeking p AssignDue) × Broadcast bytes × Holds 165 122 0 0 0 0 (assignment c.setup p c.found.version c.found.mac c.found.session) bytes

-- a frame of ours to a position of the pool reaches it
pub frame_reaches : (c : Coordinator) (h : Header) (p : List ℕ) (version position : ℕ) → FitSetup c.setup → Position c.setup.k position → length p ≤ 240 → h.destination ≡ address c.setup position → h.source ≡ 255 → h.subnet ≡ subnet_of c.setup version → Reaches c version position (frame_of h p)
unfolding frame_of
frame_reaches c h p version position fit here small destination source subnet =
    record {
      good = reads_back h p small (subnet_of c.setup version) (rw subnet (takes_own (subnet_of c.setup version)));
      destination = destination;
      from = rw destination (address_from c.setup fit position here);
      up_to = rw destination (address_up_to c.setup fit position here);
      source = source;
      subnet = subnet;
    }

-- a broadcast of ours is one
pub frame_broadcast : (message packet : ℕ) (p : List ℕ) → length p ≤ 240 → Broadcast (frame_of (broadcast_header message packet) p)
unfolding frame_of broadcast_header
frame_broadcast message packet p small = record { good = λ ours. (reads_back_all (broadcast_header message packet) p small refl ours).0; destination = refl; source = refl; subnet = refl }

-- a frame holds what its header says, and its payload
holds_back : (h : Header) (p : List ℕ) → length p ≤ 240 → Holds h.kind h.message h.packet h.method h.parameter1 h.parameter2 p (frame_of h p)
unfolding frame_of
holds_back h p small = record { kind_is = refl; message_is = refl; packet_is = refl; method_is = refl; parameter1_is = refl; parameter2_is = refl; payload_is = (reads_back_own h p small).1 }

-- and so does a broadcast
pub broadcast_holds : (message packet : ℕ) (p : List ℕ) → length p ≤ 240 → Holds 165 message packet 0 0 0 p (frame_of (broadcast_header message packet) p)
unfolding broadcast_header
broadcast_holds message packet p small = holds_back (broadcast_header message packet) p small

-- an answer that names a wait of the exchange by which a board joins
is_seek : Answer → Bool
is_seek (Wait b e) = false
is_seek (Seek p s) = true
is_seek Deliver = false
is_seek Transmit = false
is_seek Rest = false
is_seek (Refuse r) = false

-- so such a wait is never one for a listed board
apart_waits : {A : Type 0} (p b : ℕ) (s : Seeks) (e : Exchange) → seeks p s ≡ waits b e → A
unfolding is_seek
apart_waits p b s e h = absurd (false≢true (sym (ap is_seek (same_told (Seek p s) (Wait b e) h))))

module _ (c : Coordinator) (t : List Node) where
  -- what is due in a phase to a board, in an exchange
  data ToBoard : Phase → ℕ → Exchange → Due → Type 0 where
    returning : (b : ℕ) → ToBoard (ReturnDue b) b Return (due_carried c t b Return 0 0)
    forwarding : (b q : ℕ) → ToBoard (ForwardDue b q) b Forward (due_carried c t b Forward q (at t q).index)
    listing : (p : Phase) → 0 < owed_to c t → ToBoard p (owed_to c t) Listing (due_list c t (owed_to c t))
    offering : (p : Phase) → is_due p ≡ false → ToBoard p (next_listed t c.setup.k c.last) Offer (due_offer c t (next_listed t c.setup.k c.last))

  -- what is due in the exchange by which a board joins, with a position at stake
  data ToStake : Phase → ℕ → Seeks → Due → Type 0 where
    identifying : (q : ℕ) → ToStake (Seeking q IdentifyDue) q ToIdentify (due_identify c t q)
    assigning : (q : ℕ) → ToStake (Seeking q AssignDue) q ToAssign (due_assign c t q)

  -- what is due is one or the other, and says so
  data DueCase (p : Phase) (d : Due) : Type 0 where
    board : (b : ℕ) (e : Exchange) → d.says ≡ waits b e → ToBoard p b e d → DueCase p d
    stake : (q : ℕ) (s : Seeks) → d.says ≡ seeks q s → ToStake p q s d → DueCase p d

  own_case : (p : Phase) → is_due p ≡ false → DueCase p (due_own c t)
  unfolding choose
  own_case p idle = go (ltb 0 (owed_to c t)) refl
    where
      go : (b : Bool) → ltb 0 (owed_to c t) ≡ b → DueCase p (choose b (due_list c t (owed_to c t)) (due_offer c t (next_listed t c.setup.k c.last)))
      go true e = board _ _ refl (listing p (ltb-true 0 (owed_to c t) e))
      go false e = board _ _ refl (offering p idle)

  due_case : (p : Phase) → DueCase p (due_in p c t)
  due_case Resting = own_case Resting refl
  due_case (Awaiting b e q a) = own_case (Awaiting b e q a) refl
  due_case (ForwardDue b q) = board _ _ refl (forwarding b q)
  due_case (ReturnDue b) = board _ _ refl (returning b)
  due_case (Seeking p Search) = own_case (Seeking p Search) refl
  due_case (Seeking p IdentifyDue) = stake _ _ refl (identifying p)
  due_case (Seeking p Identify) = own_case (Seeking p Identify) refl
  due_case (Seeking p Present) = own_case (Seeking p Present) refl
  due_case (Seeking p AssignDue) = stake _ _ refl (assigning p)
  due_case (Seeking p Assign) = own_case (Seeking p Assign) refl
  due_case Unknown = own_case Unknown refl

  -- the list goes to a listed board, for it is owed there
  owed_listed : 0 < owed_to c t → listed_at t (owed_to c t) ≡ true
  owed_listed l = and_left (listed_at t (owed_to c t)) (eqb (at t (owed_to c t)).owed 1) (lowest_wanted t Owed c.setup.k l).passes

  -- where nothing is due by itself and yet a turn is not refused 19, somebody is listed
  someone : (p : Phase) → is_due p ≡ false → (not (some_listed t) && not (is_due p)) ≡ false → some_listed t ≡ true
  someone p idle passes = go (some_listed t) (rw idle at passes)
    where
      go : (b : Bool) → (not b && true) ≡ false → b ≡ true
      go true h = refl
      go false h = sym h

  -- each header goes to its board
  record Headed (b : ℕ) (d : Due) : Type 0 where
    destination : d.header.destination ≡ address c.setup b
    source : d.header.source ≡ 255
    subnet : d.header.subnet ≡ subnet_of c.setup (at t b).version

  case_headed : {p : Phase} {b : ℕ} {e : Exchange} {d : Due} → ToBoard p b e d → Headed b d
  unfolding to_board own_header
  case_headed (returning b) = record { destination = refl; source = refl; subnet = refl }
  case_headed (forwarding b q) = record { destination = refl; source = refl; subnet = refl }
  case_headed (listing p l) = record { destination = refl; source = refl; subnet = refl }
  case_headed (offering p idle) = record { destination = refl; source = refl; subnet = refl }

  module _ (fit : fits c t ≡ true) where
    -- an offer goes to a listed board, where somebody is listed
    next_board : some_listed t ≡ true → listed_at t (next_listed t c.setup.k c.last) ≡ true
    next_board s = (next_nearest t c.setup.k c.last _ one.few one.listed one.from one.up_to).passes
      where
        one : Board c t (lowest_of t ListedOnes 40)
        one = board_listed c t fit _ (some_listed_lem t s)

    -- so does a forward or a return, for its phase is fit
    case_listed : {p : Phase} {b : ℕ} {e : Exchange} {d : Due} → (not (some_listed t) && not (is_due p)) ≡ false → phase_of c.stand ≡ p → ToBoard p b e d → listed_at t b ≡ true
    case_listed s e (returning b) = (due_return c t fit e).listed
    case_listed s e (forwarding b q) = (due_forward c t fit e).board.listed
    case_listed s e (listing p l) = owed_listed l
    case_listed s e (offering p idle) = next_board (someone p idle s)

    -- a payload that is due to a board fits a frame
    case_small : {p : Phase} {b : ℕ} {e : Exchange} {d : Due} → phase_of c.stand ≡ p → ToBoard p b e d → length d.payload ≤ 240
    case_small e (returning b) = omega (arith, length-take c.kept.length c.kept.payload, (response_told c.kept (due_response c t fit e)).payload)
    case_small e (forwarding b q) = omega (arith, length-take c.kept.length c.kept.payload, (request_told c.kept (due_forward c t fit e).request).payload)
    case_small e (listing p l) = list_small (at t (owed_to c t)).version c.setup.internal t
    case_small e (offering p idle) = signed_small c.setup offer_code

    -- the frame of what is due to a board goes to it
    goes_due : {p : Phase} {b : ℕ} {e : Exchange} {d : Due} → (not (some_listed t) && not (is_due p)) ≡ false → phase_of c.stand ≡ p → ToBoard p b e d → Goes c t b (frame_of d.header d.payload)
    goes_due {p} {b} {e} {d} s q k = record { listed = there; reaches = frame_reaches c d.header d.payload (at t b).version b (fit_told c t fit).setup position (case_small q k) headed.destination headed.source headed.subnet }
      where
        there : listed_at t b ≡ true
        there = case_listed s q k

        position : Position c.setup.k b
        position = record { from = (board_listed c t fit b there).from; up_to = (board_listed c t fit b there).up_to }

        headed : Headed b d
        headed = case_headed k

    -- the stored index that a frame carries is the counted one (02, C-13)
    counted : (q : ℕ) {kind message packet method parameter1 : ℕ} {payload bytes : List ℕ} → Holds kind message packet method parameter1 (at t q).index payload bytes → Holds kind message packet method parameter1 (index_of t q) payload bytes
    counted q {kind} {message} {packet} {method} {parameter1} {payload} {bytes} = subst (λ (i : ℕ). Holds kind message packet method parameter1 i payload bytes) ((fit_told c t fit).table.numbered q)

    -- and says what its exchange asks
    says_due : {p : Phase} {b : ℕ} {e : Exchange} {d : Due} → phase_of c.stand ≡ p → ToBoard p b e d → Says c t e b (frame_of d.header d.payload)
    unfolding to_board own_header
    says_due e (returning b) = (e, holds_back _ _ (case_small e (returning b)))
    says_due e (forwarding b q) = (q, e, counted q (holds_back _ _ (case_small e (forwarding b q))))
    says_due e (listing p l) = (refl, counted (owed_to c t) (holds_back _ _ (case_small e (listing p l))))
    says_due e (offering p idle) = (refl, counted (next_listed t c.setup.k c.last) (holds_back _ _ (case_small e (offering p idle))))

    -- and that of what the exchange by which a board joins has due goes where it asks
    asks_due : {p : Phase} {q : ℕ} {s : Seeks} {d : Due} → phase_of c.stand ≡ p → ToStake p q s d → Asks c t s q (frame_of d.header d.payload)
    unfolding own_header broadcast_header
    asks_due e (identifying q) = (e, frame_reaches c _ [] c.found.version q (fit_told c t fit).setup (fits_stake c t fit e).0 (omega arith) refl refl refl, counted q (holds_back _ _ (omega arith)))
    asks_due e (assigning q) = (e, frame_broadcast 122 0 _ small, broadcast_holds 122 0 _ small)
      where
        small : length (assignment c.setup q c.found.version c.found.mac c.found.session) ≤ 240
        small = assignment_small c.setup q c.found.version c.found.mac c.found.session

  -- a turn that is not refused passed every rule, and sends what is due
  module _ (room : ℕ) where
    abbrev d : Due
    d = due_in (phase_of c.stand) c t

    record Taken : Type 0 where
      fit : fits c t ≡ true
      someone : (not (some_listed t) && not (is_due (phase_of c.stand))) ≡ false
      is : turn_of c t room ≡ sent d

    taken : (turn_of c t room).says.number ≡ 0 → Taken
    unfolding turn_in
    taken h = record { fit = not-false _ rules.0; someone = rules.1.1.0; is = passed (turn_rules (phase_of c.stand) c t room) (refused c t) (sent d) rules }
      where
        rules : Passed (turn_rules (phase_of c.stand) c t room)
        rules = unrefused (λ (a : After). a.says.number ≡ 0) (turn_rules (phase_of c.stand) c t room) (refused c t) (sent d) (λ q. not_zero q) h

    due : DueCase (phase_of c.stand) d
    due = due_case (phase_of c.stand)

    -- it waits: for a board in an exchange, or for whoever is or will be at the address at stake
    pub turn_waits : (turn_of c t room).says.number ≡ 0 → ((b : ℕ) × (e : Exchange) × ((turn_of c t room).says ≡ waits b e)) ⊎ ((p : ℕ) × (s : Seeks) × ((turn_of c t room).says ≡ seeks p s))
    turn_waits h = go due
      where
        said : (turn_of c t room).says ≡ d.says
        said = ap (λ (a : After). a.says) (taken h).is

        go : DueCase (phase_of c.stand) d → ((b : ℕ) × (e : Exchange) × ((turn_of c t room).says ≡ waits b e)) ⊎ ((p : ℕ) × (s : Seeks) × ((turn_of c t room).says ≡ seeks p s))
        go (board b e w k) = inl (b, e, said ∙ w)
        go (stake p s w k) = inr (p, s, said ∙ w)

    module _ (b : ℕ) (e : Exchange) (waiting : (turn_of c t room).says ≡ waits b e) where
      k : Taken
      k = taken (ap (λ (a : Told). a.number) waiting)

      -- what was due went to that board in that exchange
      to_board_lem : ToBoard (phase_of c.stand) b e d
      to_board_lem = go due
        where
          said : d.says ≡ waits b e
          said = ap (λ (a : After). a.says) (sym k.is) ∙ waiting

          go : DueCase (phase_of c.stand) d → ToBoard (phase_of c.stand) b e d
          go (board b' e' w x) = subst (λ (y : ℕ). ToBoard (phase_of c.stand) y e d) (cc same) (subst (λ (y : Exchange). ToBoard (phase_of c.stand) b' y d) (cc same) x)
            where
              same : Wait b' e' ≡ Wait b e
              same = same_told (Wait b' e') (Wait b e) (sym w ∙ said)
          go (stake p s w x) = apart_waits p b s e (sym w ∙ said)

      -- whatever a turn writes goes to the board that it then waits for
      pub turn_goes : Goes c t b (turn_of c t room).bytes
      turn_goes = subst (λ (a : After). Goes c t b a.bytes) (sym k.is) (goes_due k.fit k.someone refl to_board_lem)

      -- and says what the exchange asks
      pub turn_says : Says c t e b (turn_of c t room).bytes
      turn_says = subst (λ (a : After). Says c t e b a.bytes) (sym k.is) (says_due k.fit refl to_board_lem)

    -- in the exchange by which a board joins it goes to the address at stake or to all, and says what is asked there
    pub turn_asks : (p : ℕ) (s : Seeks) → (turn_of c t room).says ≡ seeks p s → Asks c t s p (turn_of c t room).bytes
    turn_asks p s seeking = subst (λ (a : After). Asks c t s p a.bytes) (sym k.is) (asks_due k.fit refl (go due))
      where
        k : Taken
        k = taken (ap (λ (a : Told). a.number) seeking)

        said : d.says ≡ seeks p s
        said = ap (λ (a : After). a.says) (sym k.is) ∙ seeking

        go : DueCase (phase_of c.stand) d → ToStake (phase_of c.stand) p s d
        go (board b e w x) = apart_waits p b s e (sym said ∙ w)
        go (stake p' s' w x) = subst (λ (y : ℕ). ToStake (phase_of c.stand) y s d) (cc same) (subst (λ (y : Seeks). ToStake (phase_of c.stand) p' y d) (cc same) x)
          where
            same : Seek p' s' ≡ Seek p s
            same = same_told (Seek p' s') (Seek p s) (sym w ∙ said)
