-- `receive::taken` meets its contract: an ACK, or the ACK due with what follows it.
use mathlib.Core.Path.{ap}
use Rattle.board.specs.declared.Node.{Node}
use Rattle.coordinator.proofs.Fitting.{fit_told}
use Rattle.change.proofs.Making.{shows_as}
use Rattle.receive.proofs.Leaving.{shows_ack}
use Rattle.receive.proofs.taken.Goals as goal

pub returns-in-Ack : goal.returns-in-Ack
returns-in-Ack c =
    let args = c.args in
    λ b brought co t s k. rw c.in-Ack.is (shows_ack args.out.now args.exchange args.board args.requester co _ (rw c.ack_session-session.ensures at (c.acknowledged.ensures b co t (fit_told co t s.fit).table k.1)))

pub returns-in-Echo : goal.returns-in-Echo
returns-in-Echo c =
    let args = c.args in
    λ b brought co t s k. shows_as args.out.now _ (c.following-answer.ensures b args.payload.now brought co t args.exchange _ s k.0) (c.acking.ensures b co t s (ap (λ (n : Node). n.version) k.1, ap (λ (n : Node). n.index) k.1))
