-- `place::make` meets its contract: coordinator and records are what the change makes of them.
use Prim.Native.Nat.{ℕ}
use mathlib.Core.Path.{◌≡◌, refl, sym}
use mathlib.Core.Bool.{Bool}
use mathlib.Core.List.{List}
use Rattle.ground.specs.Choose.{choose}
use Rattle.ground.proofs.Choices.{choose_yes, choose_no}
use Rattle.coordinator.specs.declared.Coordinator.{Coordinator}
use Rattle.coordinator.specs.declared.State.{State}
use Rattle.coordinator.specs.State.{state_of, stated, composed}
use Rattle.change.specs.declared.Change.{Change}
use Rattle.change.specs.declared.Edit.TheVariants.{Owed}
use Rattle.change.specs.Change.{kept_bytes, keepable, rested, moved, keeps, changed_from}
use Rattle.place.proofs.Edits.{change_made, nothing_edited}
use Rattle.place.proofs.Numbers.{nothing_numbered}
use Rattle.place.proofs.make.Goals as goal

-- the state put, and the payload kept or not, are the coordinator of the change
coordinator_made : (s s₁ : State) (x : Change) (b : Bool) (bs p : List ℕ) (h h₁ : Coordinator) → s₁ ≡ state_of (moved x.moves bs (rested x.ended (stated s))) → h₁ ≡ composed h.setup s₁ h.kept.payload → b ≡ keeps x.moves → p ≡ choose b (kept_bytes (keepable bs)) h₁.kept.payload → composed h₁.setup (state_of h₁) p ≡ changed_from s x bs h
coordinator_made s s₁ x b bs p h h₁ a c d e = rw (e, d, c, a) refl

pub returns-then-change : goal.returns-then-change
returns-then-change c = (
  coordinator_made c.args.state _ c.args.change _ c.args.received.now _ c.args.coordinator.now _ c.after.ensures c.put_state.ensures c.keeps-kept.ensures c.keep.ensures,
  change_made c.args.change c.args.nodes.now _ _ _ _ _ c.below.ensures c.amend.ensures c.amend.auto.nodes (choose_yes _ _ _ _ c.if-change.true c.amend.auto.nodes) c.number.ensures c.number.auto.nodes c.amend-then-change.ensures,
)

pub returns-else-change : goal.returns-else-change
returns-else-change c = (
  coordinator_made c.args.state _ c.args.change _ c.args.received.now _ c.args.coordinator.now _ c.after.ensures c.put_state.ensures c.keeps-kept.ensures c.keep.ensures,
  change_made c.args.change c.args.nodes.now _ _ _ _ 0 c.below.ensures c.amend.ensures c.amend.auto.nodes (choose_no _ _ _ _ c.if-change.false refl) (sym (nothing_numbered _)) refl (sym (nothing_edited _ 0 Owed)),
)
