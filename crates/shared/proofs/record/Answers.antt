-- `shared::record` meets its contract: what is served is the record, and where nothing is there is none.
use Rattle.shared.proofs.Looking.{record_is}
use Rattle.shared.proofs.record.Goals as goal

pub returns-in-Ok-Some : goal.returns-in-Ok-Some
returns-in-Ok-Some c = record_is _ _ _ _ (rw c.in-Ok-Some.field-0-is at c.in-Ok-Some.ensures)
