-- `setup::apart_from_lower` meets its contract: apart says that the MAC is none of those passed, which are all before it, and none where it is 0.
use native.Mathlib.Omega.{arith}
use mathlib.Core.Path.{sym, ◌∙◌}
use lib.ListN.{length-take}
use Rattle.ground.proofs.Loops.{all_none, all_end}
use Rattle.setup.proofs.Lower.{apart_zero, apart_lower}
use Rattle.setup.proofs.apart_from_lower.Goals as goal
use Rattle.setup.proofs.apart_from_lower.Goals.{then-mac-eq0, else-mac-eq0}

pub returns : goal.returns
returns c =
    let length = length-take c.if-mac-eq0.compared c.args.macs.now in
    elim c.if-mac-eq0.branch [
      | then-mac-eq0 w ↦ all_end _ _ 0 c.loop-other.invariant (omega (arith, length)) (omega arith) ∙ sym (all_none _) ∙ apart_zero c.args.macs.now c.args.i w.if-mac-eq0.true
      | else-mac-eq0 w ↦ all_end _ _ c.args.i c.loop-other.invariant (omega (arith, length)) (omega (arith, length)) ∙ apart_lower c.args.macs.now c.args.i _ w.compared-is
    ]
