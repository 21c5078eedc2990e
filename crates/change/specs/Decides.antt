-- When a change is what a step does, for whatever coordinator and records this was seen of (house).
use Rattle.std.specs.Prelude.{◌≡◌, ℕ, List}
use Rattle.ground.specs.Bytes.{laid}
use Rattle.board.specs.declared.Node.{Node}
use Rattle.coordinator.specs.declared.Coordinator.{Coordinator}
use Rattle.look.specs.declared.Seen.{Seen}
use Rattle.look.specs.Seen.{Saw}
use Rattle.steps.specs.After.{After, shows}
use Rattle.change.specs.declared.Change.{Change}
use Rattle.change.specs.Change.{applied}

-- of every coordinator and records that are fit, of which this was seen and that are known so: the change, made, shows what the step shows,
-- and the output that was lent holds what the step writes at its front, and past it what it held; b are the bytes received
abbrev pub Takes : Seen → (Coordinator → List Node → Type 0) → List ℕ → (Coordinator → List Node → After) → Change → List ℕ → List ℕ → Type 0
Takes s Known b step x before after = (c : Coordinator) (t : List Node) → Saw s c t → Known c t → (applied x b c t ≡ shows (step c t)) × (after ≡ laid (step c t).bytes before)

-- whatever was received
abbrev pub Decides : Seen → (Coordinator → List Node → Type 0) → (Coordinator → List Node → After) → Change → List ℕ → List ℕ → Type 0
Decides s Known step x before after = (b : List ℕ) → Takes s Known b step x before after

-- and where no output is lent
abbrev pub Makes : Seen → (Coordinator → List Node → Type 0) → (Coordinator → List Node → After) → Change → Type 0
Makes s Known step x = (b : List ℕ) (c : Coordinator) (t : List Node) → Saw s c t → Known c t → applied x b c t ≡ shows (step c t)
