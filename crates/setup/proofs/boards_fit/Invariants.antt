-- `setup::boards_fit` meets its contract: fit says that those passed are fit, and the tally how many of each type they are.
use mathlib.Core.Path.{◌≡◌}
use Rattle.ground.specs.Below.{all}
use Rattle.setup.specs.Fit.{board_fits}
use Rattle.setup.proofs.Indexes.{Tallies}
use Rattle.setup.proofs.boards_fit.Given as goal

abbrev pub invariant-loop-i : goal.invariant-loop-i
invariant-loop-i l = (l.fit ≡ all (board_fits l.columns.kinds l.columns.indexes l.columns.macs) l.i) × Tallies l.columns.kinds l.i l.tally
