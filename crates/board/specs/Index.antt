-- Each board's index is stored in its record (02, C-13). What is counted is `index_of` (Wanted.antt).
use Rattle.std.specs.Prelude.{ℕ, min, ◌≡◌, List, map, length}
use Rattle.ground.specs.Below.{up_from}
use Rattle.board.specs.declared.Node.{Node}
use Rattle.board.specs.Table.{at}
use Rattle.board.specs.Wanted.{index_of}

-- a record with this index; among more records than a table has it stops at 255
abbrev pub indexed : Node → ℕ → Node
indexed n index = record n { index = min index 255 }

-- every record with the index that is counted (02, C-13: "the stored number equals the count in document 01, for every board")
unfoldable pub numbered : List Node → List Node
numbered t = map (λ p. indexed (at t p) (index_of t p)) (up_from 1 (length t))

-- the stored index is the counted one at every position, 0 where nobody is listed (02, C-13)
abbrev pub Numbered : List Node → Type 0
Numbered t = (p : ℕ) → (at t p).index ≡ index_of t p
