-- What a step does to one board's record, and to every record (01, "Steps").
use Rattle.std.specs.Prelude.{ℕ, ◌+◌, min, List, map}
use Rattle.ground.specs.Choose.{choose}
use Rattle.board.specs.declared.Node.{Node}
use Rattle.board.specs.Node.{is_listed, version_of}
use Rattle.board.specs.Index.{numbered}

-- the record of a board that joins: no misses, nothing owed and no index counted yet (01, "Join"; 02, C-12, C-13 and C-15)
abbrev pub joined_node : ℕ → ℕ → ℕ → ℕ → Node
joined_node kind mac session version = record { kind = kind; mac = mac; session = session; misses = 0; owed = 0; index = 0; version = version_of version }

-- the list is owed to a listed board, and to nobody else (01, "Join": "the list is owed to every listed board")
abbrev pub owe : Node → Node
owe n = record n { owed = choose (is_listed n) 1 n.owed }

-- the list went out to the board (01, "Turn": "clearing that mark")
abbrev pub unmarked : Node → Node
unmarked n = record n { owed = 0 }

-- a frame of the board was accepted (01, "Frame": "sets the board's misses to 0")
abbrev pub heard : Node → Node
heard n = record n { misses = 0 }

-- one miss more (01, "Quiet"); the count of a record that is not fit stops at 255
abbrev pub missed : Node → Node
missed n = record n { misses = min (n.misses + 1) 255 }

-- the session replaced (01, "Frame")
abbrev pub renewed : Node → ℕ → Node
renewed n session = record n { session = session }

-- the list is owed to every listed board (01, "Join")
unfoldable pub owe_all : List Node → List Node
owe_all t = map owe t

-- who is listed, or as what, is another than before: every index is counted anew, and the list is owed to every listed board (01, "Join" and "Quiet"; 02, C-13)
unfoldable pub relisted : List Node → List Node
relisted t = owe_all (numbered t)
