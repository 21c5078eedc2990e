-- One step over an event (01, "Steps").
use Rattle.std.specs.Prelude.{ℕ, List}
use Rattle.board.specs.declared.Node.{Node}
use Rattle.coordinator.specs.declared.Coordinator.{Coordinator}
use Rattle.steps.specs.declared.Event.{Event}
use Rattle.steps.specs.declared.Event.TheVariants.{Join, Turn, Frame, Quiet, Discover}
use Rattle.steps.specs.After.{After}
use Rattle.steps.specs.Join.{join_of}
use Rattle.steps.specs.Turn.{turn_of}
use Rattle.steps.specs.Receive.{receive_of}
use Rattle.steps.specs.Quiet.{quiet_of}
use Rattle.steps.specs.Discover.{discover_of}

-- the steps are join, turn, frame and quiet (01, "Steps"), and discover (02, C-11); received bytes and room stand beside the event
abbrev pub step_of : Coordinator → List Node → Event → List ℕ → ℕ → After
step_of c t (Join kind mac session version) b room = join_of c t kind mac session version
step_of c t Turn b room = turn_of c t room
step_of c t Frame b room = receive_of c t b room
step_of c t Quiet b room = quiet_of c t
step_of c t Discover b room = discover_of c t room
