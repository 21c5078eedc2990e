-- `receive::acking` meets its contract, by what the writer of the ACK gave.
use Rattle.std.specs.Prelude.{Ok, Err}
use Rattle.receive.proofs.Leaving.{shows_acking}
use Rattle.receive.proofs.acking.Goals as goal

pub returns-in-Ok : goal.returns-in-Ok
returns-in-Ok c =
    let args = c.args in
    λ b co t s k. rw c.changing.ensures (shows_acking s b args.to.board k.0 k.1 args.answer args.after args.out.now _ (Ok c.in-Ok.written) (rw c.in-Ok.is at c.write_signed.ensures))

pub returns-in-Err : goal.returns-in-Err
returns-in-Err c =
    let args = c.args in
    λ b co t s k. rw c.refusing.ensures (shows_acking s b args.to.board k.0 k.1 args.answer args.after args.out.now _ (Err c.in-Err.refusal) (rw c.in-Err.is at c.write_signed.ensures))
