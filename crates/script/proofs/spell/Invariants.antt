-- `script::spell` meets its contract: the first i bytes are spelled.
use Prim.Native.Nat.{◌*◌}
use mathlib.Core.Path.{◌≡◌}
use mathlib.Core.List.{◌++◌}
use lib.ListN.{take, drop}
use Rattle.script.specs.Hex.{spelled}
use Rattle.script.proofs.spell.Given as goal

abbrev pub invariant-loop-i : goal.invariant-loop-i
invariant-loop-i l = l.text ≡ take (2 * l.i) (spelled (take l.n l.bytes)) ++ drop (2 * l.i) l.initial.text
