-- `encapsulation::inner_payload` meets its contract.
use Prim.Native.Nat.{ℕ, ◌+◌, ◌*◌}
use native.Mathlib.Nat.{add-sub_cancel_left}
use native.Mathlib.Omega.{arith}
use mathlib.Core.Path.{ap, ◌∙◌}
use lib.ListN.{take, drop}
use Rattle.encapsulation.proofs.Positions.{told_stands}
use Rattle.encapsulation.proofs.inner_payload.Goals as goal

pub overflow_mul-start : goal.overflow_mul-start
overflow_mul-start c = let w = told_stands _ _ _ _ _ _ c.in-Ok.ensures.told in record { fits = omega (arith, w.few) }

pub overflow_add-start : goal.overflow_add-start
overflow_add-start c = let w = told_stands _ _ _ _ _ _ c.in-Ok.ensures.told in record { fits = omega (arith, w.few) }

pub overflow_add-end : goal.overflow_add-end
overflow_add-end c = let w = told_stands _ _ _ _ _ _ c.in-Ok.ensures.told in record { fits = omega (arith, w.within) }

pub slice_bounds-result-end : goal.slice_bounds-result-end
slice_bounds-result-end c = let w = told_stands _ _ _ _ _ _ c.in-Ok.ensures.told in omega (arith, w.within)

pub returns-in-Ok : goal.returns-in-Ok
returns-in-Ok c =
    let w = told_stands _ _ _ _ _ _ c.in-Ok.ensures.told in
    ap (λ (k : ℕ). take k (drop (10 + 7 * c.in-Ok.plain.depth) c.args.bytes.now)) (add-sub_cancel_left (10 + 7 * c.in-Ok.plain.depth) c.in-Ok.plain.length) ∙ w.part
