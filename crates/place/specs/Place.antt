-- Where a position stands among records, and records that are edited or numbered one after another (house).
use Rattle.std.specs.Prelude.{ℕ, zero, suc, ◌+◌, ◌-◌, min, List, ◌++◌, get_or, set, length, take, drop, ltb, leb}
use Rattle.ground.specs.Choose.{choose}
use Rattle.board.specs.declared.Node.{Node}
use Rattle.board.specs.Node.{none}
use Rattle.board.specs.Index.{numbered}
use Rattle.change.specs.declared.Edit.{Edit}
use Rattle.change.specs.Change.{edited}

-- the index of position p among n records, or n where there is none
abbrev pub place_of : ℕ → ℕ → ℕ
place_of p n = choose (ltb 0 p) (choose (leb p n) (p - 1) n) n

-- the record at index i edited
abbrev pub edited_in : List Node → ℕ → Edit → List Node
edited_in t i e = set t i (edited e (get_or t i none))

-- the j records from index a on edited, each once
unfoldable pub edited_from : List Node → ℕ → ℕ → Edit → List Node
edited_from t a zero e = t
edited_from t a (suc j) e = edited_in (edited_from t a j e) (a + j) e

-- the records from one index up to another edited, of those that there are
abbrev pub edited_between : List Node → ℕ → ℕ → Edit → List Node
edited_between t from to e = edited_from t from (min (length t) to - from) e

-- the first j records with the indexes that are counted among all (02, C-13), the others as they are
unfoldable pub numbered_first : List Node → ℕ → List Node
numbered_first t j = take j (numbered t) ++ drop j t
