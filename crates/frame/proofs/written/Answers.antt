-- `frame::written` meets its contract: the three lays are the frame, around what of its payload stood there.
use Prim.Native.Nat.{ℕ, ◌+◌}
use mathlib.Core.Path.{◌≡◌, refl, sym, ap}
use mathlib.Core.Bool.{false}
use borrow.Author.Tests.{lt-ltb, le-ltb}
use native.Mathlib.Omega.{arith}
use mathlib.Core.List.{[], ◌∷◌, ◌++◌}
use lib.Dec.{ltb}
use lib.ListN.{length}
use Rattle.ground.specs.Choose.{choose}
use Rattle.refusal.specs.Refusal.{gives}
use Rattle.fletcher.specs.Joined.{run_of, joined, started, sums_of}
use Rattle.frame.specs.Frame.{fields, begun, writing}
use Rattle.frame.specs.ReadyHeader.{closed_bytes}
use Rattle.frame.proofs.Laying.{begun_length, rest_laid, check_laid}
use Rattle.frame.proofs.written.Goals as goal

pub returns-then-m-rest : goal.returns-then-m-rest
unfolding writing closed_bytes choose
returns-then-m-rest c = let args = c.args in
    let payload = begun args.m args.out.now ++ args.rest.now in
    let whole = begun_length args.m args.out.now args.rest.now c.requires.1.1 in
    rw (lt-ltb 240 (length payload) (omega (arith, whole, c.requires.1.0, c.if-m-rest.true))) (refl, refl)

pub returns-then-out-n : goal.returns-then-out-n
unfolding writing closed_bytes choose
returns-then-out-n c = let args = c.args in
    let payload = begun args.m args.out.now ++ args.rest.now in
    let whole = begun_length args.m args.out.now args.rest.now c.requires.1.1 in
    rw (le-ltb 240 (length payload) (omega (arith, whole, c.requires.1.0, c.if-m-rest.false)), lt-ltb (length args.out.now) (12 + length payload) (omega (arith, whole, c.if-out-n.true))) (refl, refl)

pub returns : goal.returns
unfolding writing closed_bytes choose
returns c = let args = c.args in
    let rest = args.rest.now in
    let out = args.out.now in
    let payload = begun args.m out ++ rest in
    let whole = begun_length args.m out rest c.requires.1.1 in
    let head = fields args.header ++ length payload ∷ [] in
    let fits : ltb 240 (length payload) ≡ false = le-ltb 240 (length payload) (omega (arith, whole, c.requires.1.0, c.if-m-rest.false)) in
    let roomy : ltb (length out) (12 + length payload) ≡ false = le-ltb (length out) (12 + length payload) (omega (arith, whole, c.if-out-n.false)) in
    rw (fits, roomy) (
      ap (λ (n : ℕ). gives ((12 + n) ∷ [])) (sym whole),
      check_laid head payload out (args.m + length rest) whole refl c.if-out-n.false args.from c.requires.0 (λ bs. sums_of (joined (started args.before) (run_of bs))) _ _ _
          (rest_laid head rest out _ _ args.m refl (omega (arith, c.if-out-n.false)) (rw (c.head-front.ensures, ← whole) at c.lay.ensures) c.lay-2.ensures)
          c.check_after-check.ensures c.lay-3.ensures,
    )
