-- `shared::held_by` meets its contract, by who holds the record.
use native.Mathlib.Omega.{arith}
use mathlib.Core.Path.{refl}
use borrow.Author.Tests.{ne_eqb}
use Rattle.ground.specs.Choose.{choose}
use Rattle.shared.specs.Numbers.{holder_numbers}
use Rattle.shared.proofs.held_by.Goals as goal
use Rattle.shared.proofs.held_by.Goals.{in-Network, in-Factory}

pub returns : goal.returns
unfolding holder_numbers choose
returns c =
    elim c.match-held.branch [
      | in-Network w ↦ let some = rw w.in-Network.is at c.requires in rw (c.start_of.ensures, w.image-is, w.in-Network.is, ne_eqb w.in-Network.slot 0 (omega (arith, some))) refl
      | in-Factory w ↦ let some = rw w.in-Factory.is at c.requires in rw (c.start_of.ensures, w.image-is, w.in-Factory.is, ne_eqb w.in-Factory.slot 0 (omega (arith, some))) refl
    ]
