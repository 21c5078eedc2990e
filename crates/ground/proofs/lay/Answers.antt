-- `ground::lay` meets its contract: one byte more is pasted with each turn.
use borrow.Author.Rules.{rules}
use native.Mathlib.Omega.{arith}
use mathlib.Core.Path.{◌≡◌}
use lib.ListN.{length}
use Rattle.ground.specs.Bytes.{fitting}
use Rattle.ground.proofs.Laid.{paste_step, paste_end}
use Rattle.ground.proofs.lay.Goals as goal

pub loop-i-preserved : goal.loop-i-preserved
loop-i-preserved c =
    let args = c.args in
    let start : c.min-start.result ≡ args.at = omega arith in
    (search rules, rw start (paste_step args.out.now _ args.at args.bytes.now c.loop-i.i c.loop-i.invariant.1 (omega arith) (omega arith)))

pub returns : goal.returns
unfolding fitting
returns c =
    let args = c.args in
    paste_end args.out.now _ args.at args.bytes.now c.loop-i.i (fitting (length args.bytes.now) args.at (length args.out.now)) c.loop-i.invariant.1 (omega arith)
