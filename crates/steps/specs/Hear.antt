-- Hearing a board (01, "Frame": "sets the board's misses to 0").
use Rattle.std.specs.Prelude.{ℕ, List}
use Rattle.ground.specs.Choose.{choose}
use Rattle.board.specs.declared.Node.{Node}
use Rattle.board.specs.declared.Wanted.TheVariants.{Mac}
use Rattle.board.specs.Table.{at, put}
use Rattle.board.specs.Wanted.{wanted_at}
use Rattle.board.specs.Change.{heard}

-- a board that is heard has no misses (01, "Frame": "sets the board's misses to 0")
abbrev pub hear : List Node → ℕ → List Node
hear t board = put t board (heard (at t board))

-- a frame of this MAC from a position's address is heard from the board that is listed there only where the MAC is the record's: somebody else may sit at its address (02, C-11)
abbrev pub hear_mac : List Node → ℕ → ℕ → List Node
hear_mac t position mac = choose (wanted_at (Mac mac) t position) (hear t position) t
