-- When a change is what the step over an event does, for whatever coordinator and forty records this was seen of (01, "Steps").
use Rattle.std.specs.Prelude.{ℕ, ◌≡◌, List, length}
use Rattle.ground.specs.Bytes.{laid}
use Rattle.board.specs.declared.Node.{Node}
use Rattle.board.specs.declared.Columns.{Columns}
use Rattle.board.specs.Table.{at}
use Rattle.coordinator.specs.declared.Coordinator.{Coordinator}
use Rattle.look.specs.declared.Seen.{Seen}
use Rattle.look.specs.Seen.{OfColumns, Sees}
use Rattle.steps.specs.declared.Event.{Event}
use Rattle.steps.specs.After.{shows}
use Rattle.steps.specs.Step.{step_of}
use Rattle.change.specs.declared.Change.{Change}
use Rattle.change.specs.Change.{applied}

-- what is known besides: the record of the board that the stand names, and the payload that is kept
abbrev pub Beside : Node → List ℕ → Coordinator → List Node → Type 0
Beside node payload c t = (node ≡ at t c.stand.board) × (payload ≡ c.kept.payload)

-- and the columns
abbrev pub Known : Node → List ℕ → Columns → Coordinator → List Node → Type 0
Known node payload columns c t = Beside node payload c t × OfColumns columns c t

-- the change, made, shows what the step shows, and the output that was lent holds what the step writes
abbrev pub DecidesStep : Seen → Node → List ℕ → Columns → Event → List ℕ → Change → List ℕ → List ℕ → Type 0
DecidesStep s node payload columns event b x before after =
    (c : Coordinator) (t : List Node) → Sees s columns c t → Beside node payload c t
    → (applied x b c t ≡ shows (step_of c t event b (length before))) × (after ≡ laid (step_of c t event b (length before)).bytes before)

-- the same of any number of records: those that are not forty need not be seen
abbrev pub DecidesCounted : ℕ → Seen → Node → List ℕ → Columns → Event → List ℕ → Change → List ℕ → List ℕ → Type 0
DecidesCounted count s node payload columns event b x before after =
    (c : Coordinator) (t : List Node) → length t ≡ count → (count ≡ 40 → Sees s columns c t × Beside node payload c t)
    → (applied x b c t ≡ shows (step_of c t event b (length before))) × (after ≡ laid (step_of c t event b (length before)).bytes before)
