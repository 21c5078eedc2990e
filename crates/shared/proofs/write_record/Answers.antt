-- `shared::write_record` meets its contract.
use native.Mathlib.Omega.{arith}
use mathlib.Core.List.{◌∷◌}
use Rattle.shared.proofs.Answers.{fits_in, fits_not, record_laid}
use Rattle.shared.proofs.write_record.Goals as goal

pub returns-then-out-n : goal.returns-then-out-n
returns-then-out-n c =
    let args = c.args in
    fits_not (args.sector ∷ args.bytes.now) args.out.now (omega (arith, c.if-out-n.true))

pub returns : goal.returns
returns c =
    let args = c.args in
    fits_in (args.sector ∷ args.bytes.now) args.out.now _ _ (omega arith) (omega (arith, c.if-out-n.false)) (record_laid args.sector args.bytes.now args.out.now _ _ c.if-out-n.false c.lay.ensures c.lay-2.ensures)
