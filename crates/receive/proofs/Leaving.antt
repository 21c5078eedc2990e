-- What the parts of the step leave, by what their tests and calls gave.
use Prim.Native.Nat.{ℕ, ◌+◌, ◌-◌, ◌≤◌, ◌<◌}
use native.Mathlib.Omega.{arith}
use mathlib.Core.Path.{◌≡◌, refl, sym, ap, ◌∙◌}
use mathlib.Core.Bool.{Bool, true, false, not}
use mathlib.Core.List.{List, [], ◌∷◌, ◌++◌}
use lib.ListN.{length, take, drop, length-drop}
use lib.Seq.{length-take-le}
use lib.Dec.{eqb}
use borrow.Author.Tests.{eq-eqb, ne_eqb, lt-ltb, le-ltb}
use types.Run.{OneOf, miss}
use denote.Enum.Declared.{tag_of}
use Rattle.ground.specs.Choose.{choose}
use Rattle.ground.proofs.Choices.{choose_yes, choose_no, not_yes, not_no}
use Rattle.refusal.specs.declared.Refusal.{Refusal}
use Rattle.refusal.specs.declared.Refusal.TheVariants.{NotForUs, NotDiscovering, NotAwaited}
use Rattle.refusal.proofs.Rules.{Passed, passed, gave, refused as refused-for}
use Rattle.frame.specs.declared.Header.{Header}
use Rattle.frame.specs.declared.Frame.{Frame}
use Rattle.frame.specs.Frame.{Reading, Writing}
use Rattle.std.specs.Prelude.{Result, Ok, Err}
use Rattle.frame.specs.Frame.{fields, frame_values, header_of, length_byte, read_rules, reading, told as told-read}
use Rattle.frame.proofs.Told.{WellRead, read_frame}
use Rattle.board.specs.declared.Node.{Node}
use Rattle.board.specs.Node.{is_old}
use Rattle.board.specs.Table.{at, put}
use Rattle.board.specs.Change.{heard, renewed, owe_all}
use Rattle.board.proofs.Numbered.{put_numbered}
use Rattle.setup.specs.Fitness.{FitTable}
use Rattle.board.specs.Columns.{kinds_of, versions_of, typed}
use Rattle.board.proofs.SameKinds.{SameKinds}
use Rattle.setup.specs.Setup.{address}
use Rattle.nodelist.specs.List.{list_over, same_bytes, same_list}
use Rattle.nodelist.proofs.Theorems.{columns_to_list}
use Rattle.routing.specs.Route.{route_of}
use Rattle.routing.proofs.Theorems.{kinds_route}
use Rattle.message.specs.Message.{signed_header, signed, signed_frame, ack_code, Sends}
use Rattle.accept.specs.declared.Heard.{Heard as Hearing}
use Rattle.accept.specs.declared.Heard.TheVariants.{Ack, Echo, Deliver, Route, Answer as Response}
use Rattle.coordinator.specs.declared.Coordinator.{Coordinator}
use Rattle.coordinator.specs.declared.Kept.{Kept}
use Rattle.coordinator.specs.contracts.Exchange as exchange
use Rattle.coordinator.specs.declared.Exchange.{Exchange}
use Rattle.coordinator.specs.declared.Exchange.TheVariants.{Offer, List as Listing, Forward, Return}
use Rattle.coordinator.specs.contracts.Phase as phase
use Rattle.coordinator.specs.declared.Phase.{Phase}
use Rattle.coordinator.specs.declared.Phase.TheVariants.{Resting, Awaiting, ForwardDue, ReturnDue, Seeking, Unknown}
use Rattle.coordinator.specs.Phase.{phase_of}
use Rattle.coordinator.specs.Change.{with_phase, keeping}
use Rattle.coordinator.specs.State.{head_of, kept_as, bare}
use Rattle.coordinator.proofs.Fitting.{fits_forty}
use Rattle.coordinator.proofs.Phases.{waited_board}
use Rattle.look.specs.declared.Seen.{Seen}
use Rattle.look.specs.Seen.{Saw}
use Rattle.look.proofs.Seeing.{kinds_seen}
use Rattle.steps.specs.declared.Answer.{Answer}
use Rattle.steps.specs.declared.Answer.TheVariants.{Refuse}
use Rattle.steps.specs.After.{After, Shown, shows, leaving, refused, accepted, rests, told}
use Rattle.steps.specs.Hear.{hear}
use Rattle.steps.specs.Receive.{payload, awaits, answers_forward, is_stray, heard_in, hear_ack, kept_of, acking, routed, acked, taken_as, taken_in, hears_old, read_in, receive_in, receive_of}
use Rattle.steps.proofs.Writes.{shown_as, leaves_ack_written}
use Rattle.change.specs.declared.Edit.TheVariants.{Nothing, Heard, Renewed}
use Rattle.change.specs.declared.Move.{Move}
use Rattle.change.specs.declared.Move.TheVariants.{Stay, Keeping}
use Rattle.change.specs.declared.Change.{Change}
use Rattle.change.specs.Change.{kept_bytes, moved, changing, applied}
use Rattle.change.proofs.Keeping.{keeps_whole}
use Rattle.change.proofs.Making.{makes_edit, makes_owed, makes_refusal, made, Shows, shows_as}
use Rattle.receive.specs.Parts.{Brings, hearing, is_acknowledged, waited, listened, hears_from, read_from}

-- a refusal leaves the output as it was
pub shows_refused : (b o : List ℕ) (c : Coordinator) (t : List Node) (q : Refusal) {a : After} {x : Change} → a ≡ refused c t q → x ≡ changing Stay 0 Nothing false (Refuse q) 0 0 0 → Shows a (applied x b c t) o o
shows_refused b o c t q e h = shows_as o o e (makes_refusal b c t q h, refl)

-- an ACK ends each wait but a forward's
pub acked_ends : (e : Exchange) (board requester : ℕ) (c : Coordinator) (t : List Node) → OneOf (0 ∷ 1 ∷ 3 ∷ []) (tag_of exchange.the_type e) → acked e board requester c t ≡ accepted (with_phase c Resting) t rests []
acked_ends Offer board requester c t k = refl
acked_ends Listing board requester c t k = refl
acked_ends Forward board requester c t k = absurd (miss (0 ∷ 1 ∷ 3 ∷ []) 2 tt k)
acked_ends Return board requester c t k = refl

-- an ACK that is heard
pub makes_heard : (b : List ℕ) (c : Coordinator) (t : List Node) (m : Move) (board session : ℕ) (a : Answer) {x : Change} {n : Node} → x ≡ hearing m board n session a → FitTable c.setup.k t → n ≡ at t board → applied x b c t ≡ leaving (moved m b c) (hear_ack t board session) (told a) 0 0 0
unfolding choose
makes_heard b c t m board session a {x} {n} h f e = go (eqb session (at t board).session) (h ∙ ap (λ (k : Node). hearing m board k session a) e)
  where
    go : (known : Bool) → x ≡ choose known (changing m board Heard false a 0 0 0) (changing m board (Renewed session) true a 0 0 0) → applied x b c t ≡ leaving (moved m b c) (choose known (hear t board) (owe_all (put t board (renewed (heard (at t board)) session)))) (told a) 0 0 0
    go true q = makes_edit b c t board Heard a 0 0 0 q
    go false q = makes_owed b c t board (Renewed session) a 0 0 0 f.boards.forty (put_numbered t board (renewed (heard (at t board)) session) refl refl f.numbered) q

-- for an ACK nothing is written
pub shows_ack : {s : Shown} (o : List ℕ) (e : Exchange) (board requester : ℕ) (c : Coordinator) (t : List Node) → s ≡ shows (acked e board requester c t) → Shows (acked e board requester c t) s o o
shows_ack o Offer board requester c t h = (h, refl)
shows_ack o Listing board requester c t h = (h, refl)
shows_ack o Forward board requester c t h = (h, refl)
shows_ack o Return board requester c t h = (h, refl)

-- the change of an ACK that is due, by what its writing gave
abbrev pub acked_as : Writing → Move → ℕ → Answer → Change
acked_as (Ok n) after board answer = changing after board Heard false answer n 0 0
acked_as (Err q) after board answer = changing Stay 0 Nothing false (Refuse q) 0 0 0

-- the message kept of bytes that bring a frame is the frame's
pub keeps_brought : (c : Coordinator) (w : Phase) (b : List ℕ) (h : Header) (p : List ℕ) → Brings b h p → moved (Keeping w) b c ≡ with_phase (keeping c (kept_of h p)) w
keeps_brought c w b h p brought = λ i. with_phase (keeping c (kept_as (brought.0 i) (kept_bytes (brought.1 i)))) w

-- an ACK that is due: of its writing only 11 can be given, and its frame has 29 bytes
module _ {seen : Seen} {c : Coordinator} {t : List Node} (s : Saw seen c t) (b : List ℕ) (board : ℕ) {version index : ℕ} (v : version ≡ (at t board).version) (i : index ≡ (at t board).index) (answer : Answer) (after : Move) (before left : List ℕ) where
  pub shows_acking : (w : Writing) → Sends (signed_header seen.setup board version index) (signed seen.setup ack_code) w before left → Shows (acking c t board (length before) (told answer) (moved after b c)) (applied (acked_as w after board answer) b c t) before left
  unfolding choose
  shows_acking w sends = leaves_ack_written c.setup t board (at t board).version c t frame refl (made (acked_as w after board answer) b c t) before left w (rw (v, i, s.setup) at sends) (shown_as_lem w)
    where
      frame : After
      frame = accepted (moved after b c) (hear t board) (told answer) (signed_frame c.setup t board (at t board).version ack_code)

      shown_as_lem : (v : Writing) → applied (acked_as v after board answer) b c t ≡ shown_as v c t frame
      shown_as_lem (Ok n) = refl
      shown_as_lem (Err q) = makes_refusal b c t q refl

-- what was seen of the types tells what they tell of the records
module _ {seen : Seen} {kinds : List ℕ} {c : Coordinator} {t : List Node} (s : Saw seen c t) (k : kinds ≡ kinds_of t) where
  same : SameKinds (typed kinds) t
  same = kinds_seen s k

  -- where a request goes
  route_seen : (sender method parameter : ℕ) → route_of (typed kinds) seen.setup.k sender method parameter ≡ route_of t c.setup.k sender method parameter
  route_seen sender method parameter = rw s.setup (kinds_route same c.setup.k sender method parameter)

  -- whether a payload is the list for a board of a version
  pub list_seen : {versions : List ℕ} {version own : ℕ} → versions ≡ versions_of t → version ≡ own → (p : List ℕ) → same_bytes (list_over version seen.top seen.setup.internal kinds versions) p ≡ same_list own c.setup.internal t p
  list_seen {own = own} e v p = ap (λ (l : List ℕ). same_bytes l p) (rw (s.setup, s.top, k, e, v) (columns_to_list own c.setup.internal t (fits_forty c t s.fit)))

  -- a request that is routed: kept for its board, or discarded where there is none
  module _ (h : Header) (p : List ℕ) (board : ℕ) {to : ℕ} (e : to ≡ route_of (typed kinds) seen.setup.k board h.method h.parameter1) where
    goes : to ≡ route_of t c.setup.k board h.method h.parameter1
    goes = e ∙ route_seen board h.method h.parameter1

    pub routed_on : (b : List ℕ) → Brings b h p → 0 < to → routed c h p board (route_of t c.setup.k board h.method h.parameter1) ≡ moved (Keeping (ForwardDue to board)) b c
    routed_on b brought l = rw (← goes) (sym (choose_yes _ _ _ _ (lt-ltb 0 to l) (keeps_brought c (ForwardDue to board) b h p brought)))

    pub routed_off : to ≤ 0 → routed c h p board (route_of t c.setup.k board h.method h.parameter1) ≡ with_phase c Resting
    routed_off l = rw (← goes) (sym (choose_no _ _ _ _ (le-ltb 0 to l) refl))

-- all but an ACK is acknowledged
pub acknowledges : (k : Hearing) → (k ≡ Ack → ⊥) → is_acknowledged k ≡ true
acknowledges Ack ne = absurd (ne refl)
acknowledges Echo ne = refl
acknowledges Deliver ne = refl
acknowledges Route ne = refl
acknowledges Response ne = refl

-- of what is kept a stray asks for the head alone
answers_bare : (w : Phase) (m : Kept) (message : ℕ) → answers_forward w (bare (head_of m)) message ≡ answers_forward w m message
answers_bare Resting m message = refl
answers_bare (Awaiting board Offer requester a) m message = refl
answers_bare (Awaiting board Listing requester a) m message = refl
answers_bare (Awaiting board Forward requester a) m message = refl
answers_bare (Awaiting board Return requester a) m message = refl
answers_bare (ForwardDue board requester) m message = refl
answers_bare (ReturnDue board) m message = refl
answers_bare (Seeking position part) m message = refl
answers_bare Unknown m message = refl

module _ {seen : Seen} {c : Coordinator} {t : List Node} (s : Saw seen c t) (h : Header) (p : List ℕ) (room : ℕ) where
  -- a frame in a wait: 6 from another source
  module _ (w : Phase) where
    pub waited_other : not (awaits w seen.setup h.source) ≡ true → waited w c t h p room ≡ refused c t NotAwaited
    unfolding waited
    waited_other k = sym (choose_yes _ _ _ _ (rw s.setup at k) refl)

    pub waited_taken : not (awaits w seen.setup h.source) ≡ false → waited w c t h p room ≡ taken_in w c t h p room
    unfolding waited
    waited_taken k = sym (choose_no _ _ _ _ (rw s.setup at k) refl)

  -- what a frame from the board gets, by what it is to the wait
  pub waited_heard : (e : Exchange) (board requester : ℕ) (a : Bool) {n : ℕ} {k : Result Hearing Refusal} → n ≡ address seen.setup board → h.source ≡ n → k ≡ heard_in e board a c t h p → waited (Awaiting board e requester a) c t h p room ≡ taken_as k e board requester c t h p room
  waited_heard e board requester a q from k = waited_taken (Awaiting board e requester a) (not_no _ (eq-eqb _ _ (from ∙ q))) ∙ ap (λ (x : Result Hearing Refusal). taken_as x e board requester c t h p room) (sym k)

  -- nothing is waited for in the other phases
  pub waited_idle : (w : Phase) → OneOf (0 ∷ 2 ∷ 3 ∷ 5 ∷ []) (tag_of phase.the_type w) → waited w c t h p room ≡ refused c t NotAwaited
  waited_idle Resting k = waited_other Resting refl
  waited_idle (Awaiting board e requester a) k = absurd (miss (0 ∷ 2 ∷ 3 ∷ 5 ∷ []) 1 tt k)
  waited_idle (ForwardDue board requester) k = waited_other (ForwardDue board requester) refl
  waited_idle (ReturnDue board) k = waited_other (ReturnDue board) refl
  waited_idle (Seeking position part) k = absurd (miss (0 ∷ 2 ∷ 3 ∷ 5 ∷ []) 4 tt k)
  waited_idle Unknown k = waited_other Unknown refl

  -- a good frame: 5 where it is not for us
  pub listened_not_ours : (h.destination ≡ 255 → ⊥) → listened (phase_of c.stand) c t h p room ≡ refused c t NotForUs
  unfolding listened
  listened_not_ours ne = sym (choose_yes _ _ _ _ (not_yes _ (ne_eqb _ _ ne)) refl)

  -- then 23 where it is a stray; else what the wait gets
  module _ (ours : h.destination ≡ 255) {w : Phase} (phased : w ≡ phase_of seen.state.stand) {b : Bool} (test : b ≡ is_stray w (bare seen.state.head) h.message) where
    now_in : w ≡ phase_of c.stand
    now_in = rw s.state at phased

    stray : is_stray (phase_of c.stand) c.kept h.message ≡ b
    stray = rw (← now_in) (sym (test ∙ rw (s.state, answers_bare w c.kept h.message) refl))

    pub listened_stray : b ≡ true → listened (phase_of c.stand) c t h p room ≡ refused c t NotDiscovering
    unfolding listened
    listened_stray k = sym (choose_no _ _ _ _ (not_no _ (eq-eqb _ _ ours)) (choose_yes _ _ _ _ (stray ∙ k) refl))

    pub listened_waited : b ≡ false → listened (phase_of c.stand) c t h p room ≡ waited w c t h p room
    unfolding listened
    listened_waited k = sym (choose_no _ _ _ _ (not_no _ (eq-eqb _ _ ours)) (choose_no _ _ _ _ (stray ∙ k) refl)) ∙ ap (λ (x : Phase). waited x c t h p room) (sym now_in)

-- the record of the board that the stand names is that of the board that is waited for
pub node_named : (c : Coordinator) (t : List Node) {w : Phase} {n : Node} {board requester : ℕ} {e : Exchange} {a : Bool} → w ≡ phase_of c.stand → w ≡ Awaiting board e requester a → n ≡ at t c.stand.board → n ≡ at t board
node_named c t h known e = e ∙ ap (at t) (sym (waited_board c.stand (sym h ∙ known)))

-- what was seen of the phase, the record of the board that is waited for and what was discovered tell whether a 1.0 board may answer
hears_seen : (c : Coordinator) (t : List Node) (n : Node) → n ≡ at t c.stand.board → (w : Phase) → phase_of c.stand ≡ w → hears_from w n c.found ≡ hears_old w c t
hears_seen c t n e Resting h = refl
hears_seen c t n e (Awaiting board x requester a) h = ap (λ (m : Node). is_old m.version) (node_named c t (sym h) refl e)
hears_seen c t n e (ForwardDue board requester) h = refl
hears_seen c t n e (ReturnDue board) h = refl
hears_seen c t n e (Seeking position part) h = refl
hears_seen c t n e Unknown h = refl

-- and so in which subnet bytes are read
pub read_seen : {seen : Seen} {c : Coordinator} {t : List Node} → Saw seen c t → {n : Node} → n ≡ at t c.stand.board → (b : List ℕ) → read_from seen n b ≡ read_in (phase_of c.stand) c t b
read_seen {c = c} {t = t} s {n} e b = rw (s.setup, s.state, hears_seen c t n e (phase_of c.stand) refl) refl

-- bytes received, of a coordinator and records that are fit
module _ {seen : Seen} {c : Coordinator} {t : List Node} (s : Saw seen c t) (b : List ℕ) (room : ℕ) {r : Reading} (e : told-read r ≡ reading (read_in (phase_of c.stand) c t b) b) where
  -- the reader's refusals come first
  pub received_unread : {q : Refusal} → r ≡ Err q → receive_of c t b room ≡ refused c t q
  unfolding receive_in reading
  received_unread {q} n = sym (choose_no _ _ _ _ (not_no _ s.fit) (sym (refused-for (read_rules (read_in (phase_of c.stand) c t b) b) (fields (header_of b) ++ length_byte b ∷ []) (refused c t) _ q (sym e ∙ ap told-read n))))

  -- then what a good frame gets
  pub received_read : {f : Frame} → r ≡ Ok f → receive_of c t b room ≡ listened (phase_of c.stand) c t f.header (payload b) room
  unfolding receive_in reading listened waited
  received_read {f} w =
      sym (choose_no _ _ _ _ (not_no _ s.fit) (sym (passed (read_rules (read_in (phase_of c.stand) c t b) b) (refused c t) _ ok)))
      ∙ ap (λ (x : Header). listened (phase_of c.stand) c t x (payload b) room) (sym (read_frame (read_in (phase_of c.stand) c t b) b w e).header)
    where
      ok : Passed (read_rules (read_in (phase_of c.stand) c t b) b)
      ok = (gave (read_rules (read_in (phase_of c.stand) c t b) b) (fields (header_of b) ++ length_byte b ∷ []) (frame_values f) (sym e ∙ ap told-read w)).0

-- bytes that read well
module _ {ours : ℕ} {b : List ℕ} {f : Frame} (read : WellRead ours b f) where
  -- the part from offset 10, as long as was read, is the payload
  pub part_is : take (10 + f.length - 10) (drop 10 b) ≡ payload b
  part_is = ap (λ (m : ℕ). take m (drop 10 b)) (let e : 10 + f.length - 10 ≡ f.length = omega arith in e ∙ read.count)

  -- they bring their header and their payload
  pub brings_read : Brings b f.header (payload b)
  brings_read = (sym (choose_no _ _ _ _ (le-ltb (length b) 10 (omega (arith, read.bytes.long))) (rw (read.header, payload_long) refl)), keeps_whole b read.bytes.small)
    where
      payload_long : length (payload b) ≡ length_byte b
      payload_long = length-take-le (length_byte b) (drop 10 b) (rw (length-drop 10 b) (omega (arith, read.bytes.long)))
