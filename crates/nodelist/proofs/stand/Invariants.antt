-- `nodelist::stand` meets its contract: the 1.0 boards of the first i positions stand, and their types are marked.
use Rattle.nodelist.specs.Condensed.{standing_to}
use Rattle.nodelist.proofs.Placed.{Noted}
use Rattle.nodelist.proofs.stand.Given as goal

abbrev pub invariant-loop-i : goal.invariant-loop-i
invariant-loop-i l = Noted l.internal (standing_to l.columns.kinds l.columns.versions l.i) l.list l.marks
