-- `place::number`. The loop's invariant: the first records have the indexes that are counted among all, the others are as they were.
use mathlib.Core.Path.{◌≡◌}
use Rattle.place.specs.Place.{numbered_first}
use Rattle.place.proofs.number.Given as goal

abbrev pub invariant-loop-i : goal.invariant-loop-i
invariant-loop-i l = l.nodes ≡ numbered_first l.initial.nodes l.i
