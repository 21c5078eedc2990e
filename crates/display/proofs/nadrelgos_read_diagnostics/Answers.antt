-- `display::nadrelgos_read_diagnostics` meets its contract.
use mathlib.Core.Path.{ap}
use Rattle.ground.specs.Choose.{choose}
use Rattle.display.specs.Numbers.{diagnostics_numbers}
use Rattle.display.proofs.nadrelgos_read_diagnostics.Goals as goal

pub returns-in-Ok : goal.returns-in-Ok
unfolding diagnostics_numbers choose
returns-in-Ok c = ap diagnostics_numbers c.in-Ok.ensures
