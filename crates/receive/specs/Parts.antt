-- The parts of the step: what its functions leave.
use Rattle.std.specs.Prelude.{ℕ, ◌≡◌, Bool, true, false, ◌&&◌, not, List, [], ◌∷◌, eqb, length, Result, Ok}
use Rattle.ground.specs.Choose.{choose}
use Rattle.refusal.specs.Refusal.{ruled}
use Rattle.refusal.specs.declared.Refusal.{Refusal}
use Rattle.refusal.specs.declared.Refusal.TheVariants.{NotForUs, NotDiscovering, NotAwaited}
use Rattle.frame.specs.declared.Header.{Header}
use Rattle.frame.specs.Frame.{header_of}
use Rattle.board.specs.declared.Node.{Node}
use Rattle.board.specs.Node.{is_old}
use Rattle.board.specs.Table.{at}
use Rattle.board.specs.Columns.{kinds_of, versions_of}
use Rattle.accept.specs.declared.Heard.{Heard}
use Rattle.accept.specs.declared.Heard.TheVariants.{Ack, Echo, Deliver, Route, Answer as Response}
use Rattle.setup.specs.Setup.{old_subnet}
use Rattle.setup.specs.Fitness.{FitTable}
use Rattle.coordinator.specs.declared.Coordinator.{Coordinator}
use Rattle.coordinator.specs.declared.Exchange.{Exchange}
use Rattle.coordinator.specs.declared.Found.{Found}
use Rattle.coordinator.specs.declared.Phase.{Phase}
use Rattle.coordinator.specs.declared.Phase.TheVariants.{Resting, Awaiting, ForwardDue, ReturnDue, Seeking, Unknown}
use Rattle.coordinator.specs.Phase.{phase_of}
use Rattle.coordinator.specs.State.{head_of}
use Rattle.look.specs.declared.Seen.{Seen}
use Rattle.look.specs.Seen.{Saw, OfTypes}
use Rattle.steps.specs.declared.Answer.{Answer}
use Rattle.steps.specs.After.{After, refused, told, shows}
use Rattle.steps.specs.Receive.{awaits, is_stray, heard_in, hear_ack, kept_of, acking, acked, taken_as, taken_in, seeks_old}
use Rattle.change.specs.declared.Edit.TheVariants.{Heard as ToHear, Renewed}
use Rattle.change.specs.declared.Move.{Move}
use Rattle.change.specs.declared.Change.{Change}
use Rattle.change.specs.Change.{head_in, keepable, moved, changing, applied}
use Rattle.change.specs.Decides.{Takes}

-- the bytes received are a frame of this header and payload, as far as it is kept (house)
abbrev pub Brings : List ℕ → Header → List ℕ → Type 0
Brings b h p = (head_in b ≡ head_of (kept_of h p)) × (keepable b ≡ p)

-- the change of a frame is what a step does, whatever bytes bring it (house)
abbrev pub TakesFrame : Seen → (Coordinator → List Node → Type 0) → Header → List ℕ → (Coordinator → List Node → After) → Change → List ℕ → List ℕ → Type 0
TakesFrame seen Known h p step x before after = (b : List ℕ) → Brings b h p → Takes seen Known b step x before after

-- the change of an ACK that was heard: the session on record stays, or another replaces it and the list is owed to all (01, "Frame")
abbrev pub hearing : Move → ℕ → Node → ℕ → Answer → Change
hearing m board n session answer =
    choose (eqb session n.session) (changing m board ToHear false answer 0 0 0) (changing m board (Renewed session) true answer 0 0 0)

-- the change of an ACK that is accepted, whatever was received and whatever fit records it is made for: it is heard from the board of which this is the record, and ends its wait or not (01, "Frame")
abbrev pub Acknowledges : Node → Exchange → ℕ → ℕ → ℕ → Change → Type 0
Acknowledges n exchange board requester session x =
    (b : List ℕ) (c : Coordinator) (t : List Node) → FitTable c.setup.k t → n ≡ at t board → applied x b c t ≡ shows (acked exchange board requester c (hear_ack t board session))

-- the change of an ACK that is due to a board with this version and index, whatever was received: the coordinator then moves (01, "Frame")
abbrev pub Acks : Seen → ℕ → ℕ → ℕ → Answer → Move → Change → List ℕ → List ℕ → Type 0
Acks seen board version index answer after x before left =
    (b : List ℕ) → Takes seen (λ c t. (version ≡ (at t board).version) × (index ≡ (at t board).index)) b (λ c t. acking c t board (length before) (told answer) (moved after b c)) x before left

-- what a frame is to a wait for a board of which this is the record
abbrev pub Hears : Seen → List ℕ → List ℕ → Node → Exchange → Bool → Header → List ℕ → Result Heard Refusal → Type 0
Hears seen kinds versions n exchange acked h p r =
    (c : Coordinator) (t : List Node) (board : ℕ) → Saw seen c t → kinds ≡ kinds_of t → versions ≡ versions_of t → n ≡ at t board → r ≡ heard_in exchange board acked c t h p

-- an ACK is due to the sender of a request or a response, 0x94 too (01, "Frame")
abbrev pub is_acknowledged : Heard → Bool
is_acknowledged Ack = false
is_acknowledged Echo = true
is_acknowledged Deliver = true
is_acknowledged Route = true
is_acknowledged Response = true

-- what follows such a frame: the ACK, with this answer and the coordinator moved so, is all that the frame does (01, "Frame")
abbrev pub Follows : Heard → Seen → List ℕ → ℕ → ℕ → Header → Answer × Move → Type 0
Follows heard seen kinds board requester h n =
    (b p : List ℕ) → Brings b h p → (c : Coordinator) (t : List Node) (exchange : Exchange) (room : ℕ) → Saw seen c t → OfTypes kinds c t
    → taken_as (Ok heard) exchange board requester c t h p room ≡ acking c t board room (told n.0) (moved n.1 b c)

-- what a frame does in a wait, a board's or of the exchange by which a board joins: 6 from another source (01, "Numbers"; 02, C-11)
unfoldable pub waited : Phase → Coordinator → List Node → Header → List ℕ → ℕ → After
waited phase c t h p room = ruled ((not (awaits phase c.setup h.source), NotAwaited) ∷ []) (refused c t) (taken_in phase c t h p room)

-- what a good frame does: 5, then 23, then 6 (01, "Order"; 02, C-11)
unfoldable pub listened : Phase → Coordinator → List Node → Header → List ℕ → ℕ → After
listened phase c t h p room =
    ruled ((not (eqb h.destination 255), NotForUs) ∷ (is_stray phase c.kept h.message, NotDiscovering) ∷ []) (refused c t)
    (waited phase c t h p room)

-- a 1.0 board may answer, by the record of the board that the stand names and by what was discovered (02, C-15)
abbrev pub hears_from : Phase → Node → Found → Bool
hears_from Resting n f = false
hears_from (Awaiting board exchange requester acked) n f = is_old n.version
hears_from (ForwardDue board requester) n f = false
hears_from (ReturnDue board) n f = false
hears_from (Seeking position part) n f = seeks_old part f
hears_from Unknown n f = false

-- the subnet in which bytes are read, by what was seen and that record (02, C-15)
abbrev pub read_from : Seen → Node → List ℕ → ℕ
read_from s n b = choose (hears_from (phase_of s.state.stand) n s.state.found && eqb (header_of b).subnet old_subnet) old_subnet s.setup.subnet
