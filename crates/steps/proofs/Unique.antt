-- The contracts, as they stand in the source, leave one outcome for each input.
use mathlib.Core.Path.{◌≡◌, sym, ◌∙◌}
use mathlib.Core.Bool.{Bool}
use Rattle.steps.specs.declared.Outcome.{Outcome}
use Rattle.steps.proofs.OutcomeFromAnswer.from.Reads as outcome-from
use Rattle.steps.proofs.is_waiting.Reads as is-waiting

pub unique_outcome_from : (a s t : _) (r q : Outcome) → outcome-from.Post tt a r s → outcome-from.Post tt a q t → r ≡ q
unique_outcome_from a s t r q p p' = p ∙ sym p'

pub unique_is_waiting : (a s t : _) (r q : Bool) → is-waiting.Post tt a r s → is-waiting.Post tt a q t → r ≡ q
unique_is_waiting a s t r q p p' = p ∙ sym p'
