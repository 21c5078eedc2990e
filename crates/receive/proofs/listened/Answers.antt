-- `receive::listened` meets its contract: 5, then 23, else what the wait gets.
use Rattle.refusal.specs.declared.Refusal.TheVariants.{NotForUs, NotDiscovering}
use Rattle.change.proofs.Making.{shows_as}
use Rattle.receive.proofs.Leaving.{shows_refused, listened_not_ours, listened_stray, listened_waited}
use Rattle.receive.proofs.listened.Goals as goal

pub returns-then-header-ne255 : goal.returns-then-header-ne255
returns-then-header-ne255 c =
    let args = c.args in
    λ b brought co t s k. shows_refused b args.out.now co t NotForUs (listened_not_ours s args.header args.payload.now _ c.if-header-ne255.true) c.refusing.ensures

pub returns-then-is_stray : goal.returns-then-is_stray
returns-then-is_stray c =
    let args = c.args in
    λ b brought co t s k. shows_refused b args.out.now co t NotDiscovering (listened_stray s args.header args.payload.now _ c.if-header-ne255.false c.phase_of-phase.ensures c.is_stray.ensures c.if-is_stray.true) c.refusing-then-is_stray.ensures

pub returns : goal.returns
returns c =
    let args = c.args in
    λ b brought co t s k. shows_as args.out.now _ (listened_waited s args.header args.payload.now _ c.if-header-ne255.false c.phase_of-phase.ensures c.is_stray.ensures c.if-is_stray.false) (c.waited.ensures b brought co t s (k.0, (k.1, rw s.state at c.phase_of-phase.ensures)))
