-- `seek::settled` meets its contract: by what the writer of the ACK gave.
use native.Mathlib.Omega.{arith}
use mathlib.Core.Path.{refl}
use Rattle.board.specs.Columns.{typed}
use Rattle.board.proofs.Index.{index_within}
use Rattle.board.proofs.Column.{typed_length}
use Rattle.change.proofs.Making.{makes_refusal}
use Rattle.seek.proofs.Settling.{acked, leaves_settled}
use Rattle.seek.proofs.settled.Goals as goal

pub overflow_cast-to : goal.overflow_cast-to
overflow_cast-to c = record { fits = omega (arith, c.index_of.ensures, index_within (typed c.with_byte-types.result) c.args.position (typed_length _)) }

pub returns-in-Ok : goal.returns-in-Ok
returns-in-Ok c = λ p co t s k.
    let args = c.args in
    let ending = c.outcome-after.result in
    leaves_settled co t args.position args.found s k.0 (acked ending c.in-Ok.written) p args.out.now _ ending (c.outcome-after.ensures p co t s k) c.with_byte-types.ensures c.index_of.ensures c.write_signed.result c.write_signed.ensures (rw c.in-Ok.is refl)

pub returns-in-Err : goal.returns-in-Err
returns-in-Err c = λ p co t s k.
    let args = c.args in
    let ending = c.outcome-after.result in
    leaves_settled co t args.position args.found s k.0 c.refusing.result p args.out.now _ ending (c.outcome-after.ensures p co t s k) c.with_byte-types.ensures c.index_of.ensures c.write_signed.result c.write_signed.ensures (rw c.in-Err.is (makes_refusal p co t _ c.refusing.ensures))
