-- `encapsulation::unwrap` meets its contract.
use Prim.Native.Nat.{ℕ}
use native.Mathlib.Nat.{add-sub_cancel_left}
use native.Mathlib.Omega.{arith}
use mathlib.Core.Path.{ap, ◌∙◌}
use lib.ListN.{take, drop}
use Rattle.frame.proofs.Told.{well_read}
use Rattle.encapsulation.specs.Answer.{told_inside}
use Rattle.refusal.proofs.Numbers.{exit}
use Rattle.encapsulation.proofs.Received.{read_answers, unread_answers}
use Rattle.encapsulation.proofs.unwrap.Goals as goal

pub returns-in_err-header-clause-told : goal.returns-in_err-header-clause-told
returns-in_err-header-clause-told c = ap told_inside (exit _ _ c.from_residual.ensures.1) ∙ (unread_answers _ _ _ c.in_err-header.ensures).0

pub overflow_add-end : goal.overflow_add-end
overflow_add-end c = let w = well_read _ _ _ c.in_ok-header.ensures in record { fits = omega (arith, w.count, w.bytes.small) }

pub slice_bounds-read_message-end : goal.slice_bounds-read_message-end
slice_bounds-read_message-end c = let w = well_read _ _ _ c.in_ok-header.ensures in omega (arith, w.count, w.bytes.small, w.bytes.long)

pub returns-clause-told : goal.returns-clause-told
returns-clause-told c =
    let bytes = c.args.bytes.now in
    (read_answers c.args.ours bytes _ _ _ c.in_ok-header.ensures (ap (λ (k : ℕ). take k (drop 10 bytes)) (add-sub_cancel_left 10 c.in_ok-header.field-0.length)) c.read_message.ensures).0

pub returns-clause-levels : goal.returns-clause-levels
returns-clause-levels c =
    let bytes = c.args.bytes.now in
    (read_answers c.args.ours bytes _ _ _ c.in_ok-header.ensures (ap (λ (k : ℕ). take k (drop 10 bytes)) (add-sub_cancel_left 10 c.in_ok-header.field-0.length)) c.read_message.ensures).1
