-- The exchange by which a board joins as an observer has it, beside the panel: where it stands, that it is over, that it joined.
use Prim.Native.Nat.{ℕ, ◌≤◌}
use mathlib.Core.Path.{◌≡◌, subst}
use mathlib.Core.List.{List}
use Rattle.board.specs.declared.Node.{Node}
use Rattle.coordinator.specs.declared.Coordinator.{Coordinator}
use Rattle.coordinator.specs.declared.Found.{Found}
use Rattle.coordinator.specs.declared.Part.{Part}
use Rattle.coordinator.specs.declared.Part.TheVariants.{Search, IdentifyDue, Identify, Present, AssignDue, Assign}
use Rattle.coordinator.specs.declared.Phase.TheVariants.{Seeking}
use Rattle.coordinator.specs.Phase.{phase_of}
use Rattle.coordinator.specs.Change.{ended}
use Rattle.steps.specs.Join.{join_of}
use Rattle.steps.specs.Seek.{join_found}
use Rattle.series.specs.Series.{World, left}
use Rattle.series.specs.Exchange.{Course, before}

-- the wait that an observer has of a part, 0 where something is due
abbrev pub wait_of : Part → ℕ
wait_of Search = 5
wait_of IdentifyDue = 0
wait_of Identify = 6
wait_of Present = 6
wait_of AssignDue = 0
wait_of Assign = 7

-- the accepted steps that lead to it
abbrev pub steps_of : Part → ℕ
steps_of Search = 1
steps_of IdentifyDue = 2
steps_of Identify = 3
steps_of Present = 4
steps_of AssignDue = 4
steps_of Assign = 5

-- what was discovered is who the observer has, and its join would take the position
abbrev pub Takes : Coordinator → List Node → ℕ → Found → Type 0
Takes c t p f = (f ≡ c.found) × ((join_found c t f).joined ≡ p)

-- so the join of what the panel has would
pub found_takes : (c : Coordinator) (t : List Node) (p : ℕ) (f : Found) → Takes c t p f → (join_found c t c.found).joined ≡ p
found_takes c t p f k = subst (λ (g : Found). (join_found c t g).joined ≡ p) k.0 k.1

-- what holds in a part, with position p at stake, position q and who f as the observer has them
abbrev pub Knows : Part → Coordinator → List Node → ℕ → ℕ → Found → Type 0
Knows Search c t p q f = Unit {0}
Knows IdentifyDue c t p q f = Takes c t p f
Knows Identify c t p q f = (q ≡ p) × Takes c t p f
Knows Present c t p q f = (q ≡ p) × (f ≡ c.found)
Knows AssignDue c t p q f = Takes c t p f
Knows Assign c t p q f = (q ≡ p) × Takes c t p f

-- the exchange stands in a part, begun with coordinator c₀; broken off it leaves what was there
pub record Stands (c₀ : Coordinator) (part : Part) (c : Coordinator) (t : List Node) (p q : ℕ) (f : Found) : Type 0 where
  pub phase : phase_of c.stand ≡ Seeking p part
  pub from : 1 ≤ p
  pub over : ended c ≡ before c₀
  pub knows : Knows part c t p q f

-- it is over without a join: what was there is left
pub record Over (c₀ : Coordinator) (x : Course) (w : World) : Type 0 where
  pub wait : x.wait ≡ 0
  pub steps : x.steps ≤ 6
  pub joins : x.joins ≡ 0
  pub world : w ≡ record { coordinator = before c₀; nodes = x.nodes }

-- it is over with one join: what 01's join of who answered leaves
pub record Joined (c₀ : Coordinator) (x : Course) (w : World) : Type 0 where
  pub wait : x.wait ≡ 0
  pub steps : x.steps ≤ 6
  pub joins : x.joins ≡ 1
  pub world : w ≡ left (join_of (before c₀) x.nodes x.who.kind x.who.mac x.who.session x.who.version)

-- it is in one of the three
pub data Reach (c₀ : Coordinator) : Course → World → Type 0 where
  going : (part : Part) (c : Coordinator) (t : List Node) (p q : ℕ) (f : Found) → Stands c₀ part c t p q f → Reach c₀ (record { wait = wait_of part; position = q; steps = steps_of part; joins = 0; nodes = t; who = f }) (record { coordinator = c; nodes = t })
  over : {x : Course} {w : World} → Over c₀ x w → Reach c₀ x w
  joined : {x : Course} {w : World} → Joined c₀ x w → Reach c₀ x w
