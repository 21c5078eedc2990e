-- `display::nadrelgos_read_display` meets its contract.
use mathlib.Core.Path.{ap}
use Rattle.ground.specs.Choose.{choose}
use Rattle.display.specs.Numbers.{display_numbers}
use Rattle.display.proofs.nadrelgos_read_display.Goals as goal

pub returns-in-Ok : goal.returns-in-Ok
unfolding display_numbers choose
returns-in-Ok c = let d = c.default.ensures in rw (d.0, d.1.1.0, d.1.1.1.0) (ap display_numbers c.in-Ok.ensures)
