-- `frame::write_ready` meets its contract: the kept sums stand before the length byte.
use Rattle.frame.proofs.ReadyHeader.{from_kept}
use Rattle.frame.proofs.write_ready.Goals as goal

pub returns : goal.returns
returns c = let did = c.written.ensures in
    let args = c.args in
    (did.0, from_kept args.ready args.payload.now args.out.now _ did.1)
