-- Whatever the event, coordinator and records that are not fit are refused 22 (01, "Order").
use Prim.Native.Nat.{ℕ}
use mathlib.Core.Path.{◌≡◌, refl}
use mathlib.Core.Bool.{false}
use mathlib.Core.List.{List}
use lib.ListN.{length}
use borrow.Author.Tests.{ne_eqb}
use Rattle.ground.specs.Choose.{choose}
use Rattle.ground.specs.Bytes.{laid}
use Rattle.refusal.specs.declared.Refusal.TheVariants.{StateUnfit}
use Rattle.board.specs.declared.Node.{Node}
use Rattle.coordinator.specs.declared.Coordinator.{Coordinator}
use Rattle.coordinator.specs.Fit.{fits}
use Rattle.steps.specs.declared.Event.{Event}
use Rattle.steps.specs.declared.Event.TheVariants.{Join, Turn, Frame, Quiet, Discover}
use Rattle.steps.specs.declared.Answer.TheVariants.{Refuse}
use Rattle.steps.specs.After.{refused, shows}
use Rattle.steps.specs.Join.{join_of}
use Rattle.steps.specs.Turn.{turn_in}
use Rattle.steps.specs.Receive.{receive_in}
use Rattle.steps.specs.Quiet.{quiet_in}
use Rattle.steps.specs.Discover.{discover_of}
use Rattle.steps.specs.Step.{step_of}
use Rattle.change.specs.declared.Edit.TheVariants.{Nothing}
use Rattle.change.specs.declared.Move.TheVariants.{Stay}
use Rattle.change.specs.declared.Change.{Change}
use Rattle.change.specs.Change.{changing, applied}
use Rattle.change.proofs.Making.{makes_refusal}

pub step_unfit : (c : Coordinator) (t : List Node) (e : Event) (b : List ℕ) (room : ℕ) → fits c t ≡ false → step_of c t e b room ≡ refused c t StateUnfit
unfolding join_of turn_in receive_in quiet_in discover_of choose
step_unfit c t (Join kind mac session version) b room h = rw h refl
step_unfit c t Turn b room h = rw h refl
step_unfit c t Frame b room h = rw h refl
step_unfit c t Quiet b room h = rw h refl
step_unfit c t Discover b room h = rw h refl

-- so a decision that refuses them is the step's, and nothing is written
pub unfit_decided : (c : Coordinator) (t : List Node) (e : Event) (b before : List ℕ) {x : Change} → fits c t ≡ false → x ≡ changing Stay 0 Nothing false (Refuse StateUnfit) 0 0 0
    → (applied x b c t ≡ shows (step_of c t e b (length before))) × (before ≡ laid (step_of c t e b (length before)).bytes before)
unfit_decided c t e b before h made = rw (step_unfit c t e b (length before) h) (makes_refusal b c t StateUnfit made, refl)

-- records that are not forty are not fit
pub unfit_counted : (c : Coordinator) (t : List Node) → (length t ≡ 40 → ⊥) → fits c t ≡ false
unfolding fits
unfit_counted c t h = rw (ne_eqb (length t) 40 h) refl
