-- The exchange by which a board joins (02, C-11; 000, 11.11; 003, 6.6 to 6.8): what its parts are to a turn, a frame and a quiet.
use Rattle.std.specs.Prelude.{ℕ, ◌/◌, ◌%◌, Bool, true, false, List, [], eqb, ltb, Result, Ok, Err}
use Rattle.ground.specs.Choose.{choose}
use Rattle.refusal.specs.declared.Refusal.{Refusal}
use Rattle.refusal.specs.declared.Refusal.TheVariants.{NotAwaited, NotWaiting, NoRoom}
use Rattle.frame.specs.declared.Header.{Header}
use Rattle.frame.specs.Frame.{byte}
use Rattle.word.specs.Words.{word_at}
use Rattle.board.specs.declared.Node.{Node}
use Rattle.board.specs.Node.{version_of}
use Rattle.setup.specs.declared.Setup.{Setup}
use Rattle.setup.specs.Setup.{address, subnet_of}
use Rattle.message.specs.Message.{signed_frame, ack_code}
use Rattle.accept.specs.declared.Reply.{Reply}
use Rattle.accept.specs.declared.Reply.TheVariants.{Discovered, Present as AckCame, Identified, Assigned}
use Rattle.accept.specs.Replies.{mac_after, is_assignment, heard_in_search, heard_in_identify, heard_in_assign}
use Rattle.coordinator.specs.declared.Coordinator.{Coordinator}
use Rattle.coordinator.specs.declared.Found.{Found}
use Rattle.coordinator.specs.declared.Part.{Part}
use Rattle.coordinator.specs.declared.Part.TheVariants.{Search, IdentifyDue, Identify, Present, AssignDue, Assign}
use Rattle.coordinator.specs.declared.Phase.TheVariants.{Seeking}
use Rattle.coordinator.specs.Change.{with_phase, finding, ended}
use Rattle.steps.specs.declared.Seek.TheVariants.{Identify as ToIdentify}
use Rattle.steps.specs.After.{After, refused, accepted, resting, seeks, transmits, rests}
use Rattle.steps.specs.Hear.{hear_mac}
use Rattle.steps.specs.Join.{join_of}

-- a part that waits; in the other two a transmission is due
abbrev pub is_waiting : Part → Bool
is_waiting Search = true
is_waiting IdentifyDue = false
is_waiting Identify = true
is_waiting Present = true
is_waiting AssignDue = false
is_waiting Assign = true

-- the source that a part awaits: 0 in search, where nobody has an address; else the address at stake (02, C-11; 003, 6.6)
abbrev pub source_in : Part → Setup → ℕ → ℕ
source_in Search s position = 0
source_in IdentifyDue s position = address s position
source_in Identify s position = address s position
source_in Present s position = address s position
source_in AssignDue s position = address s position
source_in Assign s position = address s position

-- the version that a packet number tells: bit 5 is set by a 1.0 board (003, 4.3; 000, 11.11, 2.1.2.1; 02, C-15)
abbrev pub told_version : ℕ → ℕ
told_version packet = version_of (packet / 32 % 2)

-- who answered a discovery: node type, a reserved byte, MAC, session (003, Table 58), and the version that the packet number tells
abbrev pub discovered : ℕ → List ℕ → Found
discovered packet p = record { kind = byte p 0; version = told_version packet; mac = word_at p 2; session = word_at p 10 }

-- who has the address at stake: node type, MAC, session (003, Table 62); its version is what was discovered's, since it answered in that subnet (02, C-15)
abbrev pub identified : ℕ → List ℕ → Found
identified version p = record { kind = byte p 0; version = version; mac = mac_after p; session = word_at p 9 }

-- a join in the exchange is the join of 01, on the coordinator at rest (02, C-11)
abbrev pub join_found : Coordinator → List Node → Found → After
join_found c t f = join_of (ended c) t f.kind f.mac f.session f.version

-- the discovery was answered: Get Node ID is due to the position that the join of it would take; where that would be refused the exchange breaks off (02, C-11; 000, 11.11, 2.1.3)
abbrev pub answered : Coordinator → List Node → Found → After
answered c t f =
    choose (ltb 0 (join_found c t f).joined) (accepted (finding c f (join_found c t f).joined) t rests [])
    (accepted (ended c) t rests [])

-- an ACK from the address at stake: somebody has it, and the wait goes on (02, C-11; 000, 11.11, 2.1.5.1)
abbrev pub present : Coordinator → List Node → ℕ → ℕ → After
present c t position mac = accepted (with_phase c (Seeking position Present)) (hear_mac t position mac) (seeks position ToIdentify) []

-- how the exchange ends: with the join of who answered, where it would be accepted and take the very position at stake; else it breaks off (02, C-11: "an exchange whose join would be refused breaks off")
abbrev pub outcome : Coordinator → List Node → ℕ → Found → After
outcome c t position f =
    choose (eqb (join_found c t f).joined position) (join_found c t f) (resting (ended c) (hear_mac t position f.mac) 0 0)

-- the ACK to a response carries the index of the records that the step leaves, and goes to the subnet of the exchange's version (02, C-11 and C-15)
abbrev pub acknowledged : Setup → ℕ → ℕ → After → After
acknowledged s position version a =
    record {
      coordinator = a.coordinator;
      nodes = a.nodes;
      says = transmits;
      bytes = signed_frame s a.nodes position version ack_code;
      joined = a.joined;
      dropped = 0;
    }

-- a response that ends the exchange: its ACK is written either way; 11 where it has no room (02, C-11)
abbrev pub settled : Coordinator → List Node → ℕ → Found → ℕ → After
settled c t position f room =
    choose (ltb room 29) (refused c t NoRoom) (acknowledged c.setup position f.version (outcome c t position f))

-- what a frame is to the part that waits: what it takes, or 7, 8 (02, C-11)
abbrev pub reply_in : Part → ℕ → Coordinator → Header → List ℕ → Result Reply Refusal
reply_in Search position c h p = heard_in_search h.message p
reply_in IdentifyDue position c h p = Err NotAwaited
reply_in Identify position c h p = heard_in_identify h.message p false
reply_in Present position c h p = heard_in_identify h.message p true
reply_in AssignDue position c h p = Err NotAwaited
reply_in Assign position c h p = heard_in_assign h.message (is_assignment (address c.setup position) (subnet_of c.setup c.found.version) c.found.mac c.found.session p)

-- what each of them does, with the packet number and payload received (02, C-11)
abbrev pub replied_as : Result Reply Refusal → ℕ → Coordinator → List Node → ℕ → List ℕ → ℕ → After
replied_as (Ok Discovered) position c t packet p room = answered c t (discovered packet p)
replied_as (Ok AckCame) position c t packet p room = present c t position (mac_after p)
replied_as (Ok Identified) position c t packet p room = settled c t position (identified c.found.version p) room
replied_as (Ok Assigned) position c t packet p room = settled c t position c.found room
replied_as (Err r) position c t packet p room = refused c t r

-- a frame in the exchange
abbrev pub sought_in : Part → ℕ → Coordinator → List Node → Header → List ℕ → ℕ → After
sought_in part position c t h p room = replied_as (reply_in part position c h p) position c t h.packet p room

-- quiet in the exchange is a miss for no board: with nothing accepted in identify the address is free, and Set Address is due; else the exchange breaks off (02, C-11; 000, 11.11, 2.1.5.2)
abbrev pub quiet_in_seek : Part → ℕ → Coordinator → List Node → After
quiet_in_seek Search position c t = accepted (ended c) t rests []
quiet_in_seek IdentifyDue position c t = refused c t NotWaiting
quiet_in_seek Identify position c t = accepted (with_phase c (Seeking position AssignDue)) t rests []
quiet_in_seek Present position c t = accepted (ended c) t rests []
quiet_in_seek AssignDue position c t = refused c t NotWaiting
quiet_in_seek Assign position c t = accepted (ended c) t rests []
