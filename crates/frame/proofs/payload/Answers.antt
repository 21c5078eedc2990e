-- `frame::payload` meets its contract, by what `read` ensures.
use native.Mathlib.Nat.{add-sub_cancel_left}
use mathlib.Core.Path.{sym}
use native.Mathlib.Omega.{arith}
use Rattle.frame.proofs.Told.{read_frame, read_refused}
use Rattle.frame.proofs.payload.Goals as goal

pub overflow_add-end : goal.overflow_add-end
overflow_add-end c = let w = read_frame _ _ c.in-Ok.is c.read.ensures in record { fits = omega (arith, w.count, w.bytes.small) }

pub slice_bounds-result-end : goal.slice_bounds-result-end
slice_bounds-result-end c = let w = read_frame _ _ c.in-Ok.is c.read.ensures in omega (arith, w.count, w.bytes.small, w.bytes.long)

pub returns-in-Ok : goal.returns-in-Ok
returns-in-Ok c = rw (add-sub_cancel_left 10 c.in-Ok.frame.length) (sym (read_frame _ _ c.in-Ok.is c.read.ensures).part)

pub returns-in-Err : goal.returns-in-Err
returns-in-Err c = sym (read_refused _ _ c.in-Err.is c.read.ensures)
