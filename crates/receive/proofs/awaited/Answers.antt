-- `receive::awaited` meets its contract: the source is compared with the address of the board.
use borrow.Author.Tests.{ne_eqb}
use Rattle.ground.proofs.Choices.{not_yes}
use Rattle.refusal.specs.declared.Refusal.TheVariants.{NotAwaited}
use Rattle.coordinator.specs.declared.Phase.TheVariants.{Awaiting}
use Rattle.change.proofs.Making.{shows_as}
use Rattle.receive.proofs.Leaving.{shows_refused, waited_other, waited_heard}
use Rattle.receive.proofs.awaited.Goals as goal

pub returns-then-header-address_at : goal.returns-then-header-address_at
returns-then-header-address_at c =
    let args = c.args in
    λ b brought co t s k. shows_refused b args.out.now co t NotAwaited (waited_other s args.header args.payload.now _ (Awaiting args.board args.exchange args.requester args.acked) (not_yes _ (ne_eqb _ _ (rw c.address_at.ensures at c.if-header-address_at.true)))) c.refusing.ensures

pub returns-in-Ok : goal.returns-in-Ok
returns-in-Ok c =
    let args = c.args in
    λ b brought co t s k. shows_as args.out.now _ (waited_heard s args.header args.payload.now _ args.exchange args.board args.requester args.acked c.address_at.ensures c.if-header-address_at.false (c.in-Ok.ensures co t args.board s k.0 k.1 k.2)) (c.taken.ensures b brought co t s (k.0, k.2))

pub returns-in-Err : goal.returns-in-Err
returns-in-Err c =
    let args = c.args in
    λ b brought co t s k. shows_refused b args.out.now co t _ (waited_heard s args.header args.payload.now _ args.exchange args.board args.requester args.acked c.address_at.ensures c.if-header-address_at.false (c.in-Err.ensures co t args.board s k.0 k.1 k.2)) c.refusing-in-Err.ensures
