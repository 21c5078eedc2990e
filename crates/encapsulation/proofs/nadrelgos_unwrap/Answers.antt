-- `encapsulation::nadrelgos_unwrap` meets its contract.
use native.Mathlib.Omega.{arith}
use Rattle.encapsulation.proofs.Positions.{told_stands}
use Rattle.encapsulation.proofs.nadrelgos_unwrap.Goals as goal

pub overflow_cast-result : goal.overflow_cast-result
overflow_cast-result c = let w = told_stands _ _ _ _ _ _ c.in-Ok.ensures.told in omega (arith, w.few)

pub overflow_mul-result : goal.overflow_mul-result
overflow_mul-result c = let w = told_stands _ _ _ _ _ _ c.in-Ok.ensures.told in record { fits = omega (arith, w.few) }

pub overflow_add-result : goal.overflow_add-result
overflow_add-result c = let w = told_stands _ _ _ _ _ _ c.in-Ok.ensures.told in record { fits = omega (arith, w.few) }
