-- `script::all_hex` meets its contract: the bytes so far have been asked.
use mathlib.Core.Path.{◌≡◌}
use lib.ListN.{get_or}
use lib.Dec.{ltb}
use Rattle.ground.specs.Below.{all}
use Rattle.script.specs.Hex.{nibble}
use Rattle.script.proofs.all_hex.Given as goal

abbrev pub invariant-loop-b : goal.invariant-loop-b
invariant-loop-b l = l.ok ≡ all (λ j. ltb (nibble (get_or l.word j 0)) 16) l.b-index
