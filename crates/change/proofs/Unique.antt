-- The contracts, as they stand in the source, leave one result for each input.
use mathlib.Core.Path.{◌≡◌, sym, ◌∙◌}
use Rattle.board.specs.declared.Node.{Node}
use Rattle.change.specs.declared.Change.{Change}
use Prim.Native.Nat.{ℕ}
use mathlib.Core.Bool.{Bool}
use denote.Ref.{Bor, MutBor}
use mathlib.Core.List.{List}
use Rattle.coordinator.specs.declared.State.{State}
use Rattle.change.proofs.edited.Reads as edited
use Rattle.change.proofs.changing.Reads as changing
use Rattle.change.proofs.refusing.Reads as refusing
use Rattle.change.proofs.resting.Reads as resting
use Rattle.change.proofs.keep.Reads as keep
use Rattle.change.proofs.after.Reads as after
use Rattle.change.proofs.keeps.Reads as keeps
use Rattle.change.proofs.ending.Reads as ending

pub unique_edited : (a s t : _) (r q : Node) → edited.Post tt a r s → edited.Post tt a q t → r ≡ q
unique_edited a s t r q p p' = p ∙ sym p'

pub unique_changing : (a s t : _) (r q : Change) → changing.Post tt a r s → changing.Post tt a q t → r ≡ q
unique_changing a s t r q p p' = p ∙ sym p'

pub unique_refusing : (a s t : _) (r q : Change) → refusing.Post tt a r s → refusing.Post tt a q t → r ≡ q
unique_refusing a s t r q p p' = p ∙ sym p'

pub unique_resting : (a s t : _) (r q : Change) → resting.Post tt a r s → resting.Post tt a q t → r ≡ q
unique_resting a s t r q p p' = p ∙ sym p'

pub unique_after : (κs a s t : _) (r q : State) → after.Post κs a r s → after.Post κs a q t → r ≡ q
unique_after κs a s t r q p p' = p ∙ sym p'

pub unique_keeps : (a s t : _) (r q : Bool) → keeps.Post tt a r s → keeps.Post tt a q t → r ≡ q
unique_keeps a s t r q p p' = p ∙ sym p'

pub unique_ending : (a s t : _) (r q : Change) → ending.Post tt a r s → ending.Post tt a q t → r ≡ q
unique_ending a s t r q p p' = p ∙ sym p'

-- what is passed to keep a payload, and the same at its exit
abbrev Keeps : Type 0
Keeps = Bool × (Bor (List ℕ) × (MutBor (List ℕ) × Unit {0}))

pub unique_keep : (κs : _) (a s t : Keeps) (r q : Unit {0}) → keep.Post κs a r s → keep.Post κs a q t → s.1.1.0.now ≡ t.1.1.0.now
unique_keep κs a s t r q p p' = p ∙ sym p'
