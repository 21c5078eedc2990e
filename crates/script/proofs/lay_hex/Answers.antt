-- `script::lay_hex` meets its contract: the first i bytes are laid.
use native.Mathlib.Omega.{arith}
use Rattle.ground.proofs.Fronts.{front_end}
use Rattle.script.specs.Hex.{hex_bytes}
use Rattle.script.proofs.Hex.{hex_length}
use Rattle.script.proofs.lay_hex.Goals as goal

pub returns : goal.returns
returns c = let n = hex_length c.args.word.now in
    front_end (hex_bytes c.args.word.now) c.args.out.now c.loop-i.out c.loop-i.i c.loop-i.invariant (omega arith) (omega arith)
