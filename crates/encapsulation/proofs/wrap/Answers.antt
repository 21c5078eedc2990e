-- `encapsulation::wrap` meets its contract.
use borrow.Author.Tests.{lt-ltb, le-ltb, eq-eqb, ne_eqb}
use native.Mathlib.Omega.{arith}
use mathlib.Core.Path.{◌≡◌, refl}
use lib.Seq.{length-take-le}
use mathlib.Core.Bool.{true}
use lib.ListN.{length}
use lib.Dec.{ltb}
use Rattle.ground.specs.Choose.{choose}
use Rattle.frame.specs.Frame.{writing, written_bytes}
use Rattle.encapsulation.specs.Wrap.{outermost, wrapping, wrapped_bytes}
use Rattle.encapsulation.proofs.Writing.{outermost_length, shallow, says_as_frame, writes_as_frame, wraps}
use Rattle.encapsulation.proofs.wrap.Goals as goal
use Rattle.encapsulation.proofs.wrap.Goals.{then-depth-gt-MOST-via-then-depth-gt-MOST, then-depth-gt-MOST-via-else-depth-gt-MOST+then-header-eq-ENCAPSULATION}

pub returns-then-depth-gt-MOST : goal.returns-then-depth-gt-MOST
unfolding wrapping wrapped_bytes choose
returns-then-depth-gt-MOST c =
    elim c.then-depth-gt-MOST.branch [
      | then-depth-gt-MOST-via-then-depth-gt-MOST w ↦ rw (lt-ltb _ _ w.if-depth-gt-MOST.true) (refl, refl)
      | then-depth-gt-MOST-via-else-depth-gt-MOST+then-header-eq-ENCAPSULATION w ↦ rw (le-ltb _ _ w.if-depth-gt-MOST.false, eq-eqb _ _ w.if-header-eq-ENCAPSULATION.true) (refl, refl)
    ]

pub returns-then-m-payload : goal.returns-then-m-payload
unfolding writing written_bytes choose
returns-then-m-payload c = let args = c.args in
    let h = args.header in
    let p = args.payload.now in
    let ok = shallow h args.levels args.depth p c.if-depth-gt-MOST.false (ne_eqb _ _ c.if-header-eq-ENCAPSULATION.false) in
    let long = outermost_length h args.levels args.depth p (omega (arith, c.well_formed.1.0.1.0.1, c.if-depth-gt-MOST.false)) in
    let over : ltb 240 (length (outermost h args.levels args.depth p).payload) ≡ true = lt-ltb 240 (length (outermost h args.levels args.depth p).payload) (omega (arith, long, c.if-m-payload.true)) in
    rw (says_as_frame h args.levels args.depth p (length args.out.now) ok, writes_as_frame h args.levels args.depth p (length args.out.now) ok, over) (refl, refl)

pub returns : goal.returns
returns c = let args = c.args in
    let h = args.header in
    let p = args.payload.now in
    let ok = shallow h args.levels args.depth p c.if-depth-gt-MOST.false (ne_eqb _ _ c.if-header-eq-ENCAPSULATION.false) in
    let few = length-take-le args.depth args.levels (omega (arith, c.well_formed.1.0.1.0.1, c.if-depth-gt-MOST.false)) in
    let did = c.write_parts.ensures in
    wraps h args.levels args.depth p (length args.out.now) ok c.front_of-front.result (rw few at c.front_of-front.ensures) _ c.write_parts.result _ _ refl did.0 did.1
