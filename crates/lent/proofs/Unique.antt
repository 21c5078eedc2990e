-- The contracts, as they stand in the source, leave one outcome for each input.
use mathlib.Core.Path.{◌≡◌, sym, ◌∙◌}
use Prim.Native.Nat.{ℕ}
use Rattle.steps.specs.declared.Event.{Event}
use Rattle.lent.specs.declared.Amendment.{Amendment}
use Rattle.lent.proofs.list_edit.Reads as list-edit
use Rattle.lent.proofs.clear_edit.Reads as clear-edit
use Rattle.lent.proofs.mark_edit.Reads as mark-edit
use Rattle.lent.proofs.event_of.Reads as event-of
use Rattle.lent.proofs.pack.Reads as pack

pub unique_list_edit : (a s t : _) (r q : Amendment) → list-edit.Post tt a r s → list-edit.Post tt a q t → r ≡ q
unique_list_edit a s t r q p p' = p ∙ sym p'

pub unique_clear_edit : (a s t : _) (r q : Amendment) → clear-edit.Post tt a r s → clear-edit.Post tt a q t → r ≡ q
unique_clear_edit a s t r q p p' = p ∙ sym p'

pub unique_mark_edit : (a s t : _) (r q : Amendment) → mark-edit.Post tt a r s → mark-edit.Post tt a q t → r ≡ q
unique_mark_edit a s t r q p p' = p ∙ sym p'

pub unique_event_of : (a s t : _) (r q : Event) → event-of.Post tt a r s → event-of.Post tt a q t → r ≡ q
unique_event_of a s t r q p p' = p ∙ sym p'

pub unique_pack : (a s t : _) (r q : ℕ) → pack.Post tt a r s → pack.Post tt a q t → r ≡ q
unique_pack a s t r q p p' = p ∙ sym p'
