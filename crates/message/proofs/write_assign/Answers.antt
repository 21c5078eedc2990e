-- `message::write_assign` meets its contract: the payload is what `assignment_bytes` gave.
use Rattle.message.proofs.write_assign.Goals as goal

pub returns : goal.returns
returns c = rw c.assignment_bytes.ensures at c.write_broadcast.ensures
