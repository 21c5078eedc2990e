-- What one transmission leaves (01, "Turn"), as the functions behind `turn` promise it; what is due is said in steps/specs/Turn.antt.
use Rattle.std.specs.Prelude.{ℕ, ◌+◌, ◌≤◌, ◌≡◌, false, List, length, ltb}
use Rattle.ground.specs.Choose.{choose}
use Rattle.refusal.specs.declared.Refusal.TheVariants.{NoRoom}
use Rattle.frame.specs.Frame.{Writing}
use Rattle.std.specs.Prelude.{Ok, Err}
use Rattle.board.specs.declared.Node.{Node}
use Rattle.board.specs.declared.Columns.{Columns}
use Rattle.board.specs.Columns.{column_at}
use Rattle.message.specs.declared.Addressee.{Addressee}
use Rattle.coordinator.specs.declared.Coordinator.{Coordinator}
use Rattle.steps.specs.declared.Answer.{Answer}
use Rattle.steps.specs.declared.Answer.TheVariants.{Refuse}
use Rattle.steps.specs.After.{After, refused}
use Rattle.change.specs.declared.Edit.{Edit}
use Rattle.change.specs.declared.Edit.TheVariants.{Nothing}
use Rattle.change.specs.declared.Move.{Move}
use Rattle.change.specs.declared.Move.TheVariants.{Stay}
use Rattle.change.specs.declared.Change.{Change}
use Rattle.change.specs.Change.{changing}
use Rattle.steps.specs.Turn.{Due, sent}

-- what is due is written and its answer waited for, or refused 11 where there is no room for it (01, "Turn" and number 11)
unfoldable pub sending : Due → Coordinator → List Node → ℕ → After
sending d c t room = choose (ltb room (12 + length d.payload)) (refused c t NoRoom) (sent d)

-- the change that a transmission makes, by what its writing gave: the coordinator moves on to the wait and one record is edited, or it is refused and nothing changes
abbrev pub sent_as : Writing → Move → ℕ → Edit → Answer → Change
sent_as (Ok n) next position edit answer = changing next position edit false answer n 0 0
sent_as (Err q) next position edit answer = changing Stay 0 Nothing false (Refuse q) 0 0 0

-- whom a message of ours goes to, by the columns: a position, with the version and the stored index of the board there (02, C-13 and C-15)
abbrev pub addressed : Columns → ℕ → Addressee
addressed s board = record { board = board; version = column_at s.versions board; index = column_at s.indexes board }

-- the payload is the one that is kept, and no longer than a frame takes
abbrev pub OfKept : List ℕ → Coordinator → List Node → Type 0
OfKept payload c t = (payload ≡ c.kept.payload) × (c.kept.length ≤ 240)
