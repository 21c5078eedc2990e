-- The table: the records of positions 1 to 40 (01, "Boards and positions").
use Rattle.std.specs.Prelude.{ℕ, ◌-◌, Bool, List, ◌∷◌, get_or, set, ltb}
use Rattle.ground.specs.Choose.{choose}
use Rattle.board.specs.declared.Node.{Node}
use Rattle.board.specs.Node.{none, is_listed}

-- the record at position p; position 0 and those past the table hold the blank record
unfoldable pub at : List Node → ℕ → Node
at t p = get_or (none ∷ t) p none

-- the table with record n at position p; as it is where p is 0 or past the table
unfoldable pub put : List Node → ℕ → Node → List Node
put t p n = choose (ltb 0 p) (set t (p - 1) n) t

-- a board is listed at position p
abbrev pub listed_at : List Node → ℕ → Bool
listed_at t p = is_listed (at t p)
