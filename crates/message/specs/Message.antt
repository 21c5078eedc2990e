-- The frames that the panel itself writes (01, "Turn", "Frame" and "Forward and return"; 02, C-11; 003, sections 4.3, 5.14, 6.1 and 6.6 to 6.8).
use Rattle.std.specs.Prelude.{ℕ, ◌≡◌, List, [], ◌∷◌, ◌++◌, length}
use Rattle.ground.specs.Bytes.{laid}
use Rattle.frame.specs.declared.Header.{Header}
use Rattle.frame.specs.Frame.{Writing}
use Rattle.frame.specs.Frame.{frame_of, told_written, writing, written_bytes}
use Rattle.word.specs.Words.{bytes_of}
use Rattle.board.specs.declared.Node.{Node}
use Rattle.board.specs.Table.{at}
use Rattle.setup.specs.declared.Setup.{Setup}
use Rattle.setup.specs.Setup.{address, subnet_of}
use Rattle.nodelist.specs.List.{list_for}

-- a header sent to a board of a version: to its address, from 255, in its subnet, the rest as it was (01, "Forward and return"; 02, C-15)
unfoldable pub to_board : Setup → ℕ → ℕ → Header → Header
to_board s board version h =
    record {
      destination = address s board;
      source = 255;
      subnet = subnet_of s version;
      method = h.method;
      parameter1 = h.parameter1;
      parameter2 = h.parameter2;
      kind = h.kind;
      message = h.message;
      packet = h.packet;
    }

-- the header of a message of our own, in the subnet of the board's version: method 0, parameter 1 0, parameter 2 the board's index, node type 165 (01, "Turn": "Own frames"; 02, C-15)
unfoldable pub own_header : Setup → ℕ → ℕ → ℕ → ℕ → ℕ → Header
own_header s board version index message packet =
    record {
      destination = address s board;
      source = 255;
      subnet = subnet_of s version;
      method = 0;
      parameter1 = 0;
      parameter2 = index;
      kind = 165;
      message = message;
      packet = packet;
    }

-- the code of an offer, the R2R (003, Table 48)
abbrev pub offer_code : ℕ
offer_code = 0

-- the code of an ACK (003, Table 49)
abbrev pub ack_code : ℕ
ack_code = 6

-- the payload of an offer and of an ACK: the code, our MAC, our session (003, Tables 48 and 49)
unfoldable pub signed : Setup → ℕ → List ℕ
signed s code = code ∷ bytes_of 8 s.mac ++ bytes_of 8 s.session

-- both are message 0, packet number 0x80: the dataflow bit (003, 4.3)
abbrev pub signed_header : Setup → ℕ → ℕ → ℕ → Header
signed_header s board version index = own_header s board version index 0 128

-- the node list is message 0x14, packet number 0 (003, Table 30 and 4.3)
abbrev pub list_header : Setup → ℕ → ℕ → ℕ → Header
list_header s board version index = own_header s board version index 20 0

-- the offer to a board of the table, or the ACK, by the code, in the subnet of a version: parameter 2 is the stored index (02, C-13)
abbrev pub signed_frame : Setup → List Node → ℕ → ℕ → ℕ → List ℕ
signed_frame s t board version code = frame_of (signed_header s board version (at t board).index) (signed s code)

-- the node list to a board of the table, in the form and in the subnet of its version (02, C-15)
abbrev pub list_frame : Setup → List Node → ℕ → List ℕ
list_frame s t board = frame_of (list_header s board (at t board).version (at t board).index) (list_for (at t board).version s.internal t)

-- the header of a broadcast of the exchange by which a board joins: destination 0, subnet 0, method 0, parameters 0 (02, C-11; 003, 6.6 and 6.7)
unfoldable pub broadcast_header : ℕ → ℕ → Header
broadcast_header message packet =
    record {
      destination = 0;
      source = 255;
      subnet = 0;
      method = 0;
      parameter1 = 0;
      parameter2 = 0;
      kind = 165;
      message = message;
      packet = packet;
    }

-- Node Discovery is message 0x79, packet number 0x20: the version bit (003, Table 57 and 4.3)
abbrev pub discovery_header : Header
discovery_header = broadcast_header 121 32

-- its payload: every node type (003, Table 57: Node ID Filter)
abbrev pub every_kind : List ℕ
every_kind = 0 ∷ []

-- Get Node ID is message 0x7B, packet number 0, without a payload; it goes to the address at stake, in the subnet of what was discovered (003, Table 61; 02, C-15)
abbrev pub identify_header : Setup → ℕ → ℕ → ℕ → Header
identify_header s position version index = own_header s position version index 123 0

-- Set Address is message 0x7A, packet number 0 (003, Table 59)
abbrev pub assign_header : Header
assign_header = broadcast_header 122 0

-- its payload: the address at stake, the subnet, MAC and session of whom it is for, 1 (003, Table 59; 02, C-11 and C-15)
unfoldable pub assignment : Setup → ℕ → ℕ → ℕ → ℕ → List ℕ
assignment s position version mac session = address s position ∷ subnet_of s version ∷ bytes_of 8 mac ++ (bytes_of 8 session ++ 1 ∷ [])

-- a writer answers as the frame's writer does for this header and payload, and leaves the same output (01, "Order": "Writer 10, 11")
abbrev pub Sends : Header → List ℕ → Writing → List ℕ → List ℕ → Type 0
Sends h p r before after = (told_written r ≡ writing p (length before)) × (after ≡ laid (written_bytes h p (length before)) before)
