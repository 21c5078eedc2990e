-- `frame::write_parts` meets its contract: the first part is begun, and the seed stands before all bytes.
use borrow.Author.Tests.{lt-ltb, le-ltb}
use Prim.Native.Nat.{◌+◌}
use native.Mathlib.Omega.{arith}
use mathlib.Core.Path.{refl}
use mathlib.Core.List.{◌++◌}
use lib.ListN.{length, length-append}
use Rattle.ground.specs.Choose.{choose}
use Rattle.frame.specs.Frame.{writing, written_bytes}
use Rattle.frame.proofs.Parts.{parts_written}
use Rattle.frame.proofs.write_parts.Goals as goal
use Rattle.frame.proofs.write_parts.Goals.{then-m-gt240-via-then-m-gt240, then-m-gt240-via-else-m-gt240+then-m-rest}

pub returns-then-m-gt240 : goal.returns-then-m-gt240
unfolding writing written_bytes choose
returns-then-m-gt240 c = let args = c.args in
    let payload = args.front.now ++ args.rest.now in
    let whole = length-append args.front.now args.rest.now in
    elim c.then-m-gt240.branch [
      | then-m-gt240-via-then-m-gt240 w ↦ rw (lt-ltb 240 (length payload) (omega (arith, whole, w.if-m-gt240.true))) (refl, refl)
      | then-m-gt240-via-else-m-gt240+then-m-rest w ↦ rw (lt-ltb 240 (length payload) (omega (arith, whole, w.if-m-rest.true))) (refl, refl)
    ]

pub returns-then-out-m : goal.returns-then-out-m
unfolding writing written_bytes choose
returns-then-out-m c = let args = c.args in
    let payload = args.front.now ++ args.rest.now in
    let whole = length-append args.front.now args.rest.now in
    rw (le-ltb 240 (length payload) (omega (arith, whole, c.if-m-gt240.false, c.if-m-rest.false)), lt-ltb (length args.out.now) (12 + length payload) (omega (arith, whole, c.if-out-m.true))) (refl, refl)

pub returns : goal.returns
returns c = let args = c.args in
    let did = rw c.seed.ensures at c.written.ensures in
    parts_written args.header args.front.now args.rest.now args.out.now _ _ c.written.result (omega (arith, c.if-m-gt240.false, c.if-m-rest.false)) c.if-out-m.false c.lay.ensures did.0 did.1
