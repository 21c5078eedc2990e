-- `shared::nadrelgos_shared_holder` meets its contract.
use mathlib.Core.Path.{◌∙◌}
use Rattle.shared.proofs.Looking.{who_is, record_is, slot_within}
use Rattle.shared.proofs.Faces.{told_alike, nobody_told, refused_told}
use Rattle.shared.proofs.nadrelgos_shared_holder.Goals as goal

pub held_by-requires : goal.held_by-requires
held_by-requires c = slot_within _ _ _ _ (rw c.in-Ok-Some.field-0-is at c.in-Ok-Some.ensures)

pub returns-in-Ok-Some : goal.returns-in-Ok-Some
returns-in-Ok-Some c =
    let served = rw c.in-Ok-Some.field-0-is at c.in-Ok-Some.ensures in
    c.held_by.ensures ∙ told_alike (who_is _ _ _ _ served) (record_is _ _ _ _ served)

pub returns-in-Ok-None : goal.returns-in-Ok-None
returns-in-Ok-None c =
    let served = rw c.in-Ok-None.field-0-is at c.in-Ok-None.ensures in
    nobody_told _ c.default.ensures ∙ told_alike (who_is _ _ _ _ served) (record_is _ _ _ _ served)

pub returns-in-Err : goal.returns-in-Err
returns-in-Err c =
    refused_told _ c.in-Err.refusal c.default-in-Err.ensures c.number.ensures ∙ told_alike (who_is _ _ _ _ c.in-Err.ensures) (record_is _ _ _ _ c.in-Err.ensures)
