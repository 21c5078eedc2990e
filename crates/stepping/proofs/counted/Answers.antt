-- `stepping::counted` meets its contract: forty records are decided on as seen, any other count is refused and nothing is written.
use mathlib.Core.Path.{sym, ◌∙◌}
use Rattle.stepping.proofs.Unfit.{unfit_decided, unfit_counted}
use Rattle.stepping.proofs.counted.Goals as goal

pub returns-then-count-ne-RECORDS : goal.returns-then-count-ne-RECORDS
returns-then-count-ne-RECORDS c = let args = c.args in
    λ co t n k. unfit_decided co t args.event args.received.now args.out.now (unfit_counted co t (λ h. c.if-count-ne-RECORDS.true (sym n ∙ h))) c.refusing.ensures
