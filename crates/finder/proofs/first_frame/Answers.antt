-- `finder::first_frame` meets its contract: what a part of the stretch holds, the stretch holds further back.
use Rattle.std.proofs.Common.{arith, sym, ◌∙◌}
use Rattle.finder.proofs.Near.{later, further}
use Rattle.finder.proofs.first_frame.Goals as goal

pub returns-in-Some : goal.returns-in-Some
returns-in-Some c = let found = c.in-Some.ensures in
    (omega (arith, found), sym (later _ _ _ _) ∙ found.1, further _ _ _ _ c.loop-at.invariant.1 found.2)

pub loop-at-preserved : goal.loop-at-preserved
loop-at-preserved c = (omega arith, further _ _ _ _ c.loop-at.invariant.1 c.in_default.ensures)
