-- `message::write_broadcast` meets its contract: the header is the broadcast's, and the frame's writer does the rest.
use Rattle.message.specs.Message.{broadcast_header}
use Rattle.message.proofs.write_broadcast.Goals as goal

pub returns : goal.returns
unfolding broadcast_header
returns c = let e = c.default.ensures in rw (e.0, e.1.1.0, e.1.1.1.0, e.1.1.1.1.0, e.1.1.1.1.1.0) at c.write.ensures
