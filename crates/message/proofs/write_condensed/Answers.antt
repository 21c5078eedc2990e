-- `message::write_condensed` meets its contract: the payload is what `condense` gave.
use Rattle.message.proofs.write_condensed.Goals as goal

pub returns : goal.returns
returns c = rw c.condense-payload.ensures at c.write_own.ensures
