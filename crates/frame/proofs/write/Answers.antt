-- `frame::write` meets its contract: the seed stands before all bytes.
use Rattle.frame.proofs.ReadyHeader.{from_seed}
use Rattle.frame.proofs.write.Goals as goal

pub returns : goal.returns
returns c = let did = rw c.seed.ensures at c.written.ensures in
    let args = c.args in
    (did.0, from_seed args.header args.payload.now args.out.now _ did.1)
