-- Setup, told how many records there are: of them it only says how many it clears (house; 01, "Order").
use Rattle.std.specs.Prelude.{ℕ, Bool, not, List, ◌∷◌, eqb}
use Rattle.refusal.specs.Refusal.{ruled}
use Rattle.refusal.specs.declared.Refusal.{Refusal}
use Rattle.refusal.specs.declared.Refusal.TheVariants.{StateUnfit}
use Rattle.setup.specs.Setup.{setup_rules}
use Rattle.coordinator.specs.declared.Coordinator.{Coordinator}
use Rattle.coordinator.specs.Fresh.{fresh}
use Rattle.steps.specs.declared.Answer.{Answer}
use Rattle.steps.specs.declared.Answer.TheVariants.{Rest, Refuse}
use Rattle.steps.specs.Start.{setup_of}
use Rattle.start.specs.declared.Begun.{Begun}

-- a coordinator, how many records are cleared, and an answer with which nothing is written, nobody joins and nobody is dropped
abbrev pub begun : Coordinator → ℕ → Answer → Begun
begun c n answer = record { coordinator = c; clear = n; outcome = record { answer = answer; written = 0; joined = 0; dropped = 0 } }

-- when setup over n records is refused
abbrev pub begin_rules : ℕ → List ℕ → ℕ → List (Bool × Refusal)
begin_rules n addresses mac = (not (eqb n 40), StateUnfit) ∷ setup_rules addresses mac

-- then the coordinator is as it was and no record is cleared; else it is fresh, and all are
abbrev pub begin_of : Coordinator → ℕ → List ℕ → ℕ → ℕ → ℕ → ℕ → Begun
begin_of c n addresses subnet internal mac session =
    ruled (begin_rules n addresses mac) (λ q. begun c 0 (Refuse q)) (begun (fresh (setup_of addresses subnet internal mac session)) n Rest)
