-- `message::write_signed` meets its contract: the payload is what `signed_bytes` gave.
use Rattle.message.proofs.write_signed.Goals as goal

pub returns : goal.returns
returns c = rw c.signed_bytes.ensures at c.write_own.ensures
