-- The contracts, as they stand in the source, leave one result for each input.
use mathlib.Core.Path.{◌≡◌, sym, ◌∙◌, ap}
use mathlib.Core.List.{List}
use Rattle.board.specs.declared.Node.{Node}
use Rattle.board.specs.declared.Table.{Table}
use Rattle.coordinator.specs.declared.Phase.{Phase}
use Rattle.coordinator.specs.declared.Stand.{Stand}
use Rattle.coordinator.specs.declared.Head.{Head}
use Rattle.coordinator.specs.declared.State.{State}
use Rattle.coordinator.specs.declared.Coordinator.{Coordinator}
use Rattle.coordinator.proofs.phase_of.Reads as phase-of
use Rattle.coordinator.proofs.StandFromPhase.from.Reads as stand-from
use Rattle.coordinator.proofs.HeadFromRefKept.from.Reads as head-from
use Rattle.coordinator.proofs.StateFromRefCoordinator.from.Reads as state-from
use Rattle.coordinator.proofs.fresh.Reads as fresh
use Rattle.coordinator.proofs.blank_table.Reads as blank-table
use Rattle.coordinator.proofs.with_phase.Reads as with-phase
use Rattle.coordinator.proofs.offered.Reads as offered
use Rattle.coordinator.proofs.holding.Reads as holding
use Rattle.coordinator.proofs.keeping.Reads as keeping
use Rattle.coordinator.proofs.searching.Reads as searching
use Rattle.coordinator.proofs.finding.Reads as finding
use Rattle.coordinator.proofs.ended.Reads as ended

pub unique_phase_of : (a s t : _) (r q : Phase) → phase-of.Post tt a r s → phase-of.Post tt a q t → r ≡ q
unique_phase_of a s t r q p p' = p ∙ sym p'

pub unique_stand_from : (a s t : _) (r q : Stand) → stand-from.Post tt a r s → stand-from.Post tt a q t → r ≡ q
unique_stand_from a s t r q p p' = p ∙ sym p'

pub unique_head_from : (κs a s t : _) (r q : Head) → head-from.Post κs a r s → head-from.Post κs a q t → r ≡ q
unique_head_from κs a s t r q p p' = p ∙ sym p'

pub unique_state_from : (κs a s t : _) (r q : State) → state-from.Post κs a r s → state-from.Post κs a q t → r ≡ q
unique_state_from κs a s t r q p p' = p ∙ sym p'

pub unique_fresh : (a s t : _) (r q : Coordinator) → fresh.Post tt a r s → fresh.Post tt a q t → r ≡ q
unique_fresh a s t r q p p' = p ∙ sym p'

pub unique_blank_table : (a s t : _) (r q : Table) → blank-table.Post tt a r s → blank-table.Post tt a q t → r ≡ q
unique_blank_table a s t r q p p' = ap (λ (l : List Node). record { nodes = l }) (p ∙ sym p')

pub unique_with_phase : (a s t : _) (r q : State) → with-phase.Post tt a r s → with-phase.Post tt a q t → r ≡ q
unique_with_phase a s t r q p p' = p ∙ sym p'

pub unique_offered : (a s t : _) (r q : State) → offered.Post tt a r s → offered.Post tt a q t → r ≡ q
unique_offered a s t r q p p' = p ∙ sym p'

pub unique_holding : (a s t : _) (r q : State) → holding.Post tt a r s → holding.Post tt a q t → r ≡ q
unique_holding a s t r q p p' = p ∙ sym p'

pub unique_keeping : (a s t : _) (r q : State) → keeping.Post tt a r s → keeping.Post tt a q t → r ≡ q
unique_keeping a s t r q p p' = p ∙ sym p'

pub unique_searching : (a s t : _) (r q : State) → searching.Post tt a r s → searching.Post tt a q t → r ≡ q
unique_searching a s t r q p p' = p ∙ sym p'

pub unique_finding : (a s t : _) (r q : State) → finding.Post tt a r s → finding.Post tt a q t → r ≡ q
unique_finding a s t r q p p' = p ∙ sym p'

pub unique_ended : (a s t : _) (r q : State) → ended.Post tt a r s → ended.Post tt a q t → r ≡ q
unique_ended a s t r q p p' = p ∙ sym p'
