-- `setup::apart_from_lower` meets its contract: apart says that the MAC is none of those passed.
use mathlib.Core.Path.{◌≡◌}
use mathlib.Core.Bool.{not, ◌||◌}
use lib.Dec.{eqb}
use lib.ListN.{get_or}
use Rattle.ground.specs.Below.{all}
use Rattle.setup.proofs.apart_from_lower.Given as goal

abbrev pub invariant-loop-other : goal.invariant-loop-other
invariant-loop-other l = l.apart ≡ all (λ j. eqb l.mac 0 || not (eqb l.mac (get_or l.other-items j 0))) l.other-index
