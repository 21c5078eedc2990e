-- `display::is_reply` meets its contract: both tests tell whether the payload is the reply.
use Rattle.std.specs.Bool.{one_answer}
use Rattle.std.proofs.lemmas.Bool.Decides.{Decides-eqb}
use Rattle.std.proofs.lemmas.Slice.Eq.{slice_eq-Decides}
use Rattle.display.proofs.Messages.{reply_exactly}
use Rattle.display.proofs.is_reply.Goals as goal

pub returns : goal.returns
returns c =
    one_answer _ _ (slice_eq-Decides Decides-eqb _ _ _ (rw c.as_slice.ensures at c.eq.ensures)) (reply_exactly c.args.payload.now)
