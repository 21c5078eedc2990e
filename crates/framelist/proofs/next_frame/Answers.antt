-- `framelist::next_frame` meets its contract: what is found lies inside the rest, and is at least twelve bytes long.
use native.Mathlib.Omega.{arith}
use lib.ListN.{length-take, length-drop}
use Rattle.finder.proofs.Exactly.{found_inside}
use Rattle.framelist.proofs.next_frame.Goals as goal

pub overflow_add-from : goal.overflow_add-from
overflow_add-from c = let w = found_inside _ _ _ c.in-Found.is c.find.ensures in record { fits = omega (arith, simp (length-take, length-drop) at w.end, w.least) }

pub overflow_add-result : goal.overflow_add-result
overflow_add-result c = let w = found_inside _ _ _ c.in-Found.is c.find.ensures in record { fits = omega (arith, simp (length-take, length-drop) at w.end, w.least) }

pub returns-in-Found : goal.returns-in-Found
returns-in-Found c = let w = found_inside _ _ _ c.in-Found.is c.find.ensures in let end = simp (length-take, length-drop) at w.end in (omega arith, omega arith, omega arith)
