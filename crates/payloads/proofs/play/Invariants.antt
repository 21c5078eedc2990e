-- `payloads::play` ends: each line takes one byte at least of the script, so that their number fits.
use Prim.Native.Nat.{◌+◌, ◌-◌, ◌≤◌}
use lib.ListN.{length}
use Rattle.payloads.proofs.play.Given as goal

abbrev pub invariant-loop-line : goal.invariant-loop-line
invariant-loop-line g l = l.number ≤ l.at

abbrev pub decreases-loop-line : goal.decreases-loop-line
decreases-loop-line g l = (length l.lines + 1) - l.at
