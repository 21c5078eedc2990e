-- `encapsulation::read_message` and `encapsulation::read_payload`, which call each other: the levels that are left fall.
use Prim.Native.Nat.{◌+◌}
use Rattle.encapsulation.proofs.+read_message_read_payload.Given as goal

abbrev pub decreases-read_message : goal.decreases-read_message
decreases-read_message l = l.left + l.left

abbrev pub decreases-read_payload : goal.decreases-read_payload
decreases-read_payload l = l.left + l.left + 1
