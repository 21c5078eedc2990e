-- The contracts, as they stand in the source, leave one outcome for each input: a decision one change of whatever coordinator and records it was made for.
use Prim.Native.Nat.{ℕ}
use mathlib.Core.Path.{◌≡◌, sym, ◌∙◌}
use mathlib.Core.Bool.{Bool}
use mathlib.Core.List.{List}
use Rattle.board.specs.declared.Node.{Node}
use Rattle.coordinator.specs.declared.Coordinator.{Coordinator}
use Rattle.look.specs.Seen.{Saw, OfBoards}
use Rattle.change.specs.declared.Change.{Change}
use Rattle.change.specs.Change.{applied}
use Rattle.join.proofs.is_busy.Reads as is-busy
use Rattle.join.proofs.join.Reads as join

pub unique_is_busy : (a s t : _) (r q : Bool) → is-busy.Post tt a r s → is-busy.Post tt a q t → r ≡ q
unique_is_busy a s t r q p p' = p ∙ sym p'

pub unique_join : (κs a s t : _) (r q : Change) → join.Post κs a r s → join.Post κs a q t → (p : List ℕ) (c : Coordinator) (u : List Node) → Saw a.0 c u → OfBoards a.1.0.now c u → applied r p c u ≡ applied q p c u
unique_join κs a s t r q h h' = λ p c u saw known. h p c u saw known ∙ sym (h' p c u saw known)
