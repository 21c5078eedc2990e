-- `place::amend`. The loop's invariant: the records from the index on, up to here, are edited, and the others are as they were.
use Prim.Native.Nat.{◌+◌, ◌-◌, ◌≤◌}
use mathlib.Core.Path.{◌≡◌}
use Rattle.place.specs.Place.{edited_from}
use Rattle.place.proofs.amend.Given as goal

abbrev pub invariant-loop-i : goal.invariant-loop-i
invariant-loop-i l = record {
  within : l.i ≤ l.from + (l.i-end - l.from);
  edited : l.nodes ≡ edited_from l.initial.nodes l.from (l.i - l.from) l.edit;
}
