-- `message::write_own` meets its contract: the header sent to the board is our own.
use Rattle.message.specs.Message.{to_board, own_header}
use Rattle.message.proofs.write_own.Goals as goal

pub returns : goal.returns
unfolding own_header to_board
returns c = let e = c.default.ensures in rw (e.1.1.1.0, e.1.1.1.1.0) at c.write_to.ensures
