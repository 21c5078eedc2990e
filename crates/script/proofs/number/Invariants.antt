-- `script::number` meets its contract: the bytes so far are digits, and n is what they are worth.
use Prim.Native.Nat.{◌≤◌}
use mathlib.Core.Path.{◌≡◌}
use mathlib.Core.Bool.{true}
use Rattle.script.specs.Numbers.{worth_to, widest}
use Rattle.script.proofs.Numbers.{digits_to}
use Rattle.script.proofs.number.Given as goal

abbrev pub invariant-loop-b : goal.invariant-loop-b
invariant-loop-b l = (l.n ≡ worth_to l.word l.b-index) × (digits_to l.word l.b-index ≡ true) × (l.n ≤ widest)
