-- What a host lends, and what it finds there afterwards (01, "The host lends the node table as forty records").
use Rattle.std.specs.Prelude.{List}
use Rattle.board.specs.declared.Node.{Node}
use Rattle.coordinator.specs.declared.Coordinator.{Coordinator}
use Rattle.steps.specs.declared.Outcome.{Outcome}
use Rattle.steps.specs.After.{Shown, told, leaving}

-- what the host is shown: the outcome that is returned, and the coordinator and the records where they stand
abbrev pub in_place : Outcome → Coordinator → List Node → Shown
in_place r c ys = leaving c ys (told r.answer) r.written r.joined r.dropped
