-- `script::lay_hex` meets its contract: the first i bytes are laid.
use mathlib.Core.Path.{◌≡◌}
use mathlib.Core.List.{◌++◌}
use lib.ListN.{take, drop}
use Rattle.script.specs.Hex.{hex_bytes}
use Rattle.script.proofs.lay_hex.Given as goal

abbrev pub invariant-loop-i : goal.invariant-loop-i
invariant-loop-i l = l.out ≡ take l.i (hex_bytes l.word) ++ drop l.i l.initial.out
