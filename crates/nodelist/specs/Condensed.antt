-- The condensed node list for a 1.0 board, over the columns of types and versions (000, 8.1.2.4; 02, C-15). Index i, from 0, is position i + 1, and byte i + 1 of the list.
use Rattle.std.specs.Prelude.{ℕ, zero, suc, ◌&&◌, List, ◌∷◌, get_or, set, replicate, eqb}
use Rattle.ground.specs.Choose.{choose}
use Rattle.ground.specs.Below.{up_from, first_or}
use Rattle.board.specs.Node.{is_old}
use Rattle.board.specs.Types.{is_new}

-- a 1.0 board stands at its position where no lower one has its type (000, 8.1.2.4: "only allow the first instance of a node type to remain in the node list. Replace duplicated CT1.0 devices with a zero")
abbrev pub standing : List ℕ → ℕ → ℕ → ℕ → List ℕ
standing bytes i kind version = choose (is_old version && is_new bytes kind) (set bytes i kind) bytes

-- so do those of the first i positions; the other bytes are open, that is 0
unfoldable pub standing_to : List ℕ → List ℕ → ℕ → List ℕ
standing_to kinds versions zero = replicate 15 0
standing_to kinds versions (suc i) = standing (standing_to kinds versions i) i (get_or kinds i 0) (get_or versions i 0)

-- the index of the lowest open byte, 15 where there is none (000, 8.1.2.4: "the open locations")
abbrev pub open_byte : List ℕ → ℕ
open_byte bytes = first_or 15 (λ i. eqb (get_or bytes i 0) 0) (up_from 0 15)

-- a type that no byte has yet goes into the lowest open byte (000, 8.1.2.4: "For each new device type located, fill in the open locations .. Only one indication of a node type is allowed")
abbrev pub filling : List ℕ → ℕ → List ℕ
filling bytes kind = choose (is_new bytes kind) (set bytes (open_byte bytes) kind) bytes

-- so do those of the first i positions, in their order
unfoldable pub filled_to : List ℕ → List ℕ → ℕ → List ℕ
filled_to bytes kinds zero = bytes
filled_to bytes kinds (suc i) = filling (filled_to bytes kinds i) (get_or kinds i 0)

-- byte 0 the internal type; the 1.0 boards at positions up to 15 first, then every other type: always 16 bytes (000, 8.1.2.4; 02, C-15)
unfoldable pub condensed : ℕ → List ℕ → List ℕ → List ℕ
condensed internal kinds versions = internal ∷ filled_to (standing_to kinds versions 15) kinds 40
