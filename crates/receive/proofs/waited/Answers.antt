-- `receive::waited` meets its contract, by the phase: 6 where nothing is waited for.
use borrow.Author.Rules.{rules}
use Rattle.refusal.specs.declared.Refusal.TheVariants.{NotAwaited}
use Rattle.receive.proofs.Leaving.{shows_refused, waited_idle, node_named}
use Rattle.receive.proofs.waited.Goals as goal

pub returns-in-Awaiting : goal.returns-in-Awaiting
returns-in-Awaiting c =
    λ b brought co t s k. rw c.in-Awaiting.is (c.awaited.ensures b brought co t s (k.0.0, k.0.1, node_named co t k.1.1 c.in-Awaiting.is k.1.0))

pub returns-in-Seeking : goal.returns-in-Seeking
returns-in-Seeking c =
    λ b brought co t s k. rw c.in-Seeking.is (c.sought.ensures b co t s k.0)

pub returns-in_default : goal.returns-in_default
returns-in_default c =
    let args = c.args in
    λ b brought co t s k. shows_refused b args.out.now co t NotAwaited (waited_idle s args.header args.payload.now _ args.phase (search rules)) c.refusing.ensures
