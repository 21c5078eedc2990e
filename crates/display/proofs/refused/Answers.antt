-- `display::refused` meets its contract.
use borrow.Author.Tests.{ne_eqb}
use mathlib.Core.Path.{refl}
use Rattle.ground.specs.Choose.{choose}
use Rattle.refusal.proofs.Numbers.{not_zero}
use Rattle.display.specs.Numbers.{display_numbers, diagnostics_numbers}
use Rattle.display.proofs.refused.Goals as goal

pub returns : goal.returns
unfolding display_numbers diagnostics_numbers choose
returns c =
    let d = c.default.ensures in
    rw (c.number.ensures, ne_eqb _ 0 (not_zero c.args.refusal), d.1.0, d.1.1.0, d.1.1.1.0, d.1.1.1.1.0, d.1.1.1.1.1) (refl, refl)
