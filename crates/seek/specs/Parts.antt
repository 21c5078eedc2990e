-- The parts of the step: what its functions leave.
use Rattle.std.specs.Prelude.{ℕ, ◌+◌, Bool, ◌&&◌, ◌||◌, List, eqb, ltb}
use Rattle.ground.specs.Choose.{choose}
use Rattle.frame.specs.Frame.{byte}
use Rattle.word.specs.Words.{word_at}
use Rattle.board.specs.Columns.{column_at}
use Rattle.coordinator.specs.declared.State.{State}
use Rattle.change.specs.declared.Edit.{Edit}
use Rattle.change.specs.declared.Edit.TheVariants.{Nothing, Heard}
use Rattle.accept.specs.declared.Reply.{Reply}
use Rattle.accept.specs.declared.Reply.TheVariants.{Discovered, Present, Identified, Assigned}
use Rattle.coordinator.specs.declared.Found.{Found}
use Rattle.steps.specs.Seek.{told_version}

-- where the MAC stands in a reply: after node type and a reserved byte, or after a first byte (003, Tables 58 and 62; 6.1)
abbrev pub mac_place : Reply → ℕ
mac_place Discovered = 2
mac_place Present = 1
mac_place Identified = 1
mac_place Assigned = 1

-- the version of who sent a reply: what the packet number of a discovery's response tells, else what was discovered's (02, C-15)
abbrev pub version_in : Reply → ℕ → Found → ℕ
version_in Discovered packet found = told_version packet
version_in Present packet found = found.version
version_in Identified packet found = found.version
version_in Assigned packet found = found.version

-- who sent a reply, by the place of the MAC and the version: node type, MAC, session (003, Tables 58 and 62)
abbrev pub found_at : List ℕ → ℕ → ℕ → Found
found_at p place version = record { kind = byte p 0; version = version; mac = word_at p place; session = word_at p (place + 8) }

-- who is to join by a reply that ends the exchange: in identify whoever gave his ID, in assign what was discovered (02, C-11)
abbrev pub teller : Reply → Found → Found → Found
teller Discovered found told = found
teller Present found told = found
teller Identified found told = told
teller Assigned found told = found

-- a discovery is held back, by the state and the highest listed position (02, C-11)
abbrev pub held_back_in : State → ℕ → Bool
held_back_in s top = eqb s.held 1 || (eqb s.searched 1 && ltb 0 top)

-- what a frame of this MAC from a position's address is to the record there, by the MACs (02, C-11)
abbrev pub hearing : List ℕ → ℕ → ℕ → Edit
hearing macs position mac = choose (eqb (column_at macs position) mac) Heard Nothing
