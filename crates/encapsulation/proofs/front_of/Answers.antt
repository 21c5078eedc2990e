-- `encapsulation::front_of` meets its contract: each turn wraps what there is in one level more.
use mathlib.Core.Path.{refl}
use Rattle.encapsulation.specs.Wrap.{sent}
use Rattle.encapsulation.proofs.Fronts.{none_wrapped, one_wrapped}
use Rattle.encapsulation.proofs.front_of.Goals as goal

pub loop-at-init : goal.loop-at-init
loop-at-init c = none_wrapped c.args.levels.now (sent c.args.header c.args.payload.now) _ refl

pub loop-at-preserved : goal.loop-at-preserved
loop-at-preserved c =
    let at = c.loop-at in
    one_wrapped c.args.levels.now (sent c.args.header c.args.payload.now) at.front.bytes _ at.front.message at.front.packet at.n at.at _ c.requires.depth_bound c.loop-at-test.true at.invariant (rw c.head_of-head.ensures at c.lay.ensures)
