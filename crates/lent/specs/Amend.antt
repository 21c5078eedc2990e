-- Single records that a host amends by itself: listed, cleared, marked (01, "thin faces .. that list, clear and mark single records").
use Rattle.std.specs.Prelude.{ℕ, ◌-◌, min, List, length, eqb}
use Rattle.ground.specs.Choose.{choose}
use Rattle.refusal.specs.Refusal.{refuses}
use Rattle.refusal.specs.declared.Refusal.TheVariants.{StateUnfit}
use Rattle.board.specs.declared.Node.{Node}
use Rattle.board.specs.Node.{none}
use Rattle.board.specs.Table.{at, put}
use Rattle.board.specs.Change.{joined_node, owe}
use Rattle.board.specs.Index.{numbered}
use Rattle.steps.specs.After.{rests}
use Rattle.change.specs.declared.Edit.{Edit}
use Rattle.place.specs.Place.{edited_between, numbered_first}
use Rattle.lent.specs.declared.Amendment.{Amendment}
use Rattle.lent.specs.Numbers.{packed}

-- a new board listed at a position, and every index counted anew (02, C-13); where the position names nobody there is no such board, and below nobody is cleared or marked
abbrev pub listing : List Node → ℕ → ℕ → ℕ → ℕ → ℕ → List Node
listing t position kind mac session version = numbered (put t position (joined_node kind mac session version))

-- the position cleared, and every index counted anew
abbrev pub clearing : List Node → ℕ → List Node
clearing t position = numbered (put t position none)

-- the list marked as owed to the board at the position; a free one stays as it is
abbrev pub marking : List Node → ℕ → List Node
marking t position = put t position (owe (at t position))

-- what the host is shown: the packed answer, and the records where they stand
pub record Amends : Type 0 where
  pub answer : ℕ
  pub nodes : List Node

abbrev pub amends : ℕ → List Node → Amends
amends n ys = record { answer = n; nodes = ys }

-- a change of one of n records: 22 unless they are forty, else it rests
abbrev pub amend_of : ℕ → List Node → List Node → Amends
amend_of n t changed = choose (eqb n 40) (amends (packed rests 0 0 0) changed) (amends (packed (refuses StateUnfit) 0 0 0) t)

-- which of n records that is, what is done to it and how many there are to number then: the one at the index before the position, none at position 0, and nothing unless they are forty
abbrev pub amending : ℕ → ℕ → Edit → Amendment
amending n position e =
    choose (eqb n 40)
    (record { from = position - 1; to = position; edit = e; all = n; answer = packed rests 0 0 0 })
    (record { from = 0; to = 0; edit = e; all = 0; answer = packed (refuses StateUnfit) 0 0 0 })

-- the records as an amendment leaves them: those from an index up to another edited, and of all of them the first so many counted anew (house)
abbrev pub amended_by : Amendment → List Node → List Node
amended_by a t = let edited = edited_between t a.from a.to a.edit in numbered_first edited (min (length edited) a.all)
