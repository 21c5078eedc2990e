-- `script::spell` meets its contract: the first i bytes are spelled.
use Prim.Native.Nat.{ℕ, ◌*◌}
use native.Mathlib.Omega.{arith}
use mathlib.Core.Path.{ap, ◌∙◌}
use lib.ListN.{take, length-take}
use Rattle.ground.specs.Bytes.{laid}
use Rattle.ground.proofs.Fronts.{front_end}
use Rattle.script.specs.Hex.{spelled}
use Rattle.script.proofs.Hex.{spelled_length, byte_spelled}
use Rattle.script.proofs.spell.Goals as goal

pub loop-i-preserved : goal.loop-i-preserved
loop-i-preserved c = let args = c.args in
    let bytes = take c.min-n.result args.bytes.now in
    let long = length-take c.min-n.result args.bytes.now in
    byte_spelled bytes args.text.now c.loop-i.text c.loop-i.i _ _ _ _ c.loop-i.invariant c.loop-i-test.true (omega arith) c.glyph.ensures c.glyph-in-loop-i.ensures (omega arith) (omega arith)

pub returns-clause-value : goal.returns-clause-value
returns-clause-value c = let args = c.args in
    let bytes = take c.min-n.result args.bytes.now in
    let cut = length-take c.min-n.result args.bytes.now in
    let long = spelled_length bytes in
    let written = front_end (spelled bytes) args.text.now c.loop-i.text (2 * c.loop-i.i) c.loop-i.invariant (omega arith) (omega arith) in
    (omega arith, written ∙ ap (λ (m : ℕ). laid (spelled (take m args.bytes.now)) args.text.now) c.min-n.ensures)
