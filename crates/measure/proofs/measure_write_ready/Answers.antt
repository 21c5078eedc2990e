-- `measure::measure_write_ready` meets its contract: its numbers are those of what `write_ready` says.
use mathlib.Core.Path.{ap, ◌∙◌}
use Rattle.frame.specs.Frame.{write_numbers}
use Rattle.measure.proofs.measure_write_ready.Goals as goal

pub returns : goal.returns
returns c = let did = c.write_ready.ensures in
    (c.numbers_of.ensures ∙ ap write_numbers did.0, did.1)
