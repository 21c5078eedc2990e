-- `receive::receive` meets its contract: the refusals of the reader, then what a good frame gets.
use native.Mathlib.Omega.{arith}
use Prim.Native.Nat.{ℕ}
use mathlib.Core.Path.{ap, ◌∙◌}
use Rattle.frame.specs.Frame.{reading}
use Rattle.frame.proofs.Told.{read_frame}
use Rattle.change.proofs.Making.{shows_as}
use Rattle.receive.proofs.Leaving.{shows_refused, read_seen, received_unread, received_read, part_is, brings_read}
use Rattle.receive.proofs.receive.Goals as goal

pub overflow_add-end : goal.overflow_add-end
overflow_add-end c =
    let read = read_frame _ _ c.in-Ok.is c.read.ensures in
    omega (arith, read.count, read.bytes.small)

pub slice_bounds-listened-end : goal.slice_bounds-listened-end
slice_bounds-listened-end c =
    let read = read_frame _ _ c.in-Ok.is c.read.ensures in
    omega (arith, read.count, read.bytes.long)

pub returns-in-Ok : goal.returns-in-Ok
returns-in-Ok c =
    let args = c.args in
    let read = read_frame _ _ c.in-Ok.is c.read.ensures in
    λ co t s k. shows_as args.out.now _ (received_read s args.received.now _ (c.read.ensures ∙ ap (λ (n : ℕ). reading n args.received.now) (c.read_in.ensures ∙ read_seen s k.1 args.received.now)) c.in-Ok.is) ((rw (part_is read) at c.listened.ensures) args.received.now (brings_read read) co t s k)

pub returns-in-Err : goal.returns-in-Err
returns-in-Err c =
    let args = c.args in
    λ co t s k. shows_refused args.received.now args.out.now co t _ (received_unread s args.received.now _ (c.read.ensures ∙ ap (λ (n : ℕ). reading n args.received.now) (c.read_in.ensures ∙ read_seen s k.1 args.received.now)) c.in-Err.is) c.refusing.ensures
