-- `framelist::list_frames` ends: what is found lies inside the rest, and is at least twelve bytes long.
use Prim.Native.Nat.{◌-◌, ◌≤◌}
use lib.ListN.{length}
use Rattle.framelist.proofs.list_frames.Given as goal

abbrev pub invariant-loop-start : goal.invariant-loop-start
invariant-loop-start g l = l.at ≤ length l.bytes

abbrev pub decreases-loop-start : goal.decreases-loop-start
decreases-loop-start g l = length l.bytes - l.at
