-- `replay::order::read_addresses` ends: each byte that is read stands behind the one before, on the same line.
use Prim.Native.Nat.{◌+◌, ◌-◌, ◌≤◌}
use mathlib.Core.Path.{◌≡◌}
use lib.ListN.{length}
use Rattle.replay.proofs.order.read_addresses.Given as goal

abbrev pub invariant-loop-line : goal.invariant-loop-line
invariant-loop-line l = (l.line.text ≡ l.initial.line.text) × (l.n ≤ length l.bytes)

abbrev pub decreases-loop-line : goal.decreases-loop-line
decreases-loop-line l = (length l.initial.line.text.now + 1) - l.line.at
