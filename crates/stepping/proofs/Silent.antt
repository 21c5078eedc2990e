-- A join and a quiet write nothing.
use Prim.Native.Nat.{ℕ}
use mathlib.Core.Path.{◌≡◌, refl}
use mathlib.Core.Bool.{Bool, true, false}
use mathlib.Core.List.{List, []}
use lib.Dec.{ltb}
use Rattle.ground.specs.Choose.{choose}
use Rattle.refusal.specs.declared.Refusal.{Refusal}
use Rattle.refusal.proofs.Rules.{each, by_rules}
use Rattle.board.specs.declared.Node.{Node}
use Rattle.board.specs.Table.{at}
use Rattle.coordinator.specs.declared.Coordinator.{Coordinator}
use Rattle.coordinator.specs.declared.Part.{Part}
use Rattle.coordinator.specs.declared.Part.TheVariants.{Search, IdentifyDue, Identify, Present, AssignDue, Assign}
use Rattle.coordinator.specs.declared.Phase.{Phase}
use Rattle.coordinator.specs.declared.Phase.TheVariants.{Resting, Awaiting, ForwardDue, ReturnDue, Seeking, Unknown}
use Rattle.coordinator.specs.Phase.{phase_of}
use Rattle.steps.specs.After.{After, refused}
use Rattle.steps.specs.Join.{join_rules, join_of}
use Rattle.steps.specs.Seek.{quiet_in_seek}
use Rattle.steps.specs.Quiet.{quiet_rules, quiet_value, quiet_in, quiet_of}

Silent : After → Type 0
Silent a = a.bytes ≡ []

refusal_silent : (c : Coordinator) (t : List Node) (r : Refusal) → Silent (refused c t r)
unfolding Silent
refusal_silent c t r = refl

pub join_silent : (c : Coordinator) (t : List Node) (kind mac session version : ℕ) → (join_of c t kind mac session version).bytes ≡ []
unfolding join_of Silent
join_silent c t kind mac session version = by_rules Silent (join_rules c t kind mac version) (refused c t) _ (each (refusal_silent c t) (join_rules c t kind mac version)) (λ h. refl)

silent_choice : (b : Bool) (x y : After) → Silent x → Silent y → Silent (choose b x y)
unfolding choose
silent_choice true x y p q = p
silent_choice false x y p q = q

silent_seek : (part : Part) (position : ℕ) (c : Coordinator) (t : List Node) → Silent (quiet_in_seek part position c t)
unfolding Silent
silent_seek Search position c t = refl
silent_seek IdentifyDue position c t = refl
silent_seek Identify position c t = refl
silent_seek Present position c t = refl
silent_seek AssignDue position c t = refl
silent_seek Assign position c t = refl

silent_value : (phase : Phase) (c : Coordinator) (t : List Node) → Silent (quiet_value phase c t)
unfolding Silent
silent_value Resting c t = refl
silent_value (Awaiting board exchange requester acked) c t = silent_choice acked _ _ refl (silent_choice (ltb (at t board).misses 2) _ _ refl refl)
silent_value (ForwardDue board requester) c t = refl
silent_value (ReturnDue board) c t = refl
silent_value (Seeking position part) c t = silent_seek part position c t
silent_value Unknown c t = refl

pub quiet_silent : (c : Coordinator) (t : List Node) → (quiet_of c t).bytes ≡ []
unfolding quiet_in Silent
quiet_silent c t = by_rules Silent (quiet_rules (phase_of c.stand) c t) (refused c t) _ (each (refusal_silent c t) (quiet_rules (phase_of c.stand) c t)) (λ h. silent_value (phase_of c.stand) c t)
