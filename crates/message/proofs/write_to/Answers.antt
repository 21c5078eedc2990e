-- `message::write_to` meets its contract: the header is `to_board`'s, and the frame's writer does the rest.
use Rattle.message.proofs.write_to.Goals as goal

pub returns : goal.returns
returns c = rw c.to_board.ensures at c.write.ensures
