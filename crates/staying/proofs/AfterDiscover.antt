-- Discover: a wait of the exchange by which a board joins, which is a message to no board; nobody's run changes.
use Prim.Native.Nat.{ℕ}
use mathlib.Core.Path.{refl}
use mathlib.Core.List.{List, []}
use Rattle.ground.specs.Choose.{choose}
use Rattle.board.specs.declared.Node.{Node}
use Rattle.coordinator.specs.declared.Coordinator.{Coordinator}
use Rattle.coordinator.specs.declared.Part.TheVariants.{Search}
use Rattle.coordinator.proofs.Phases.{seeking, phase_back}
use Rattle.steps.specs.declared.Event.TheVariants.{Discover}
use Rattle.steps.specs.Discover.{free_place, discover_rules, searched, discover_of}
use Rattle.series.specs.Observed.{Seen}
use Rattle.staying.proofs.Agreement.{Agrees, Told, still_tells, seen_tells, rules_tell}

pub discover_tells : (s : Seen) (c : Coordinator) (t : List Node) → Agrees s c t → (room : ℕ) → Told s t Discover [] (discover_of c t room)
unfolding discover_of choose
discover_tells s c t g room =
    rules_tell s c t Discover [] g (discover_rules c t room) (searched c t)
    (λ passed. seen_tells Discover [] refl (still_tells g (λ p. refl) (λ p. refl) (λ p. refl) (λ p. refl) (λ p. refl) (λ p. refl) (rw (phase_back (seeking (free_place c t) Search)) (refl, refl))))
