-- Setup: the fresh start (01, "Boards and positions" and "Order").
use Rattle.std.specs.Prelude.{ℕ, Bool, not, List, [], ◌∷◌, length, replicate, eqb}
use Rattle.ground.specs.Bytes.{laid}
use Rattle.refusal.specs.Refusal.{ruled}
use Rattle.refusal.specs.declared.Refusal.{Refusal}
use Rattle.refusal.specs.declared.Refusal.TheVariants.{StateUnfit}
use Rattle.board.specs.declared.Node.{Node}
use Rattle.setup.specs.declared.Setup.{Setup}
use Rattle.setup.specs.Setup.{setup_rules}
use Rattle.coordinator.specs.declared.Coordinator.{Coordinator}
use Rattle.coordinator.specs.Fresh.{fresh, blank_table}
use Rattle.steps.specs.After.{After, refused, accepted, rests}

-- the setup of a pool, padded with zeros to the forty places that hold it
abbrev pub setup_of : List ℕ → ℕ → ℕ → ℕ → ℕ → Setup
setup_of addresses subnet internal mac session =
    record {
      pool = laid addresses (replicate 40 0);
      k = length addresses;
      subnet = subnet;
      internal = internal;
      mac = mac;
      session = session;
    }

-- when setup is refused: 22 (only if not forty records), 21, 13 (01, "Order")
abbrev pub start_rules : List Node → List ℕ → ℕ → List (Bool × Refusal)
start_rules t addresses mac = (not (eqb (length t) 40), StateUnfit) ∷ setup_rules addresses mac

-- else it clears all records, waits, dues and holds (01, "Order")
unfoldable pub start_of : Coordinator → List Node → List ℕ → ℕ → ℕ → ℕ → ℕ → After
start_of c t addresses subnet internal mac session =
    ruled (start_rules t addresses mac) (refused c t)
    (accepted (fresh (setup_of addresses subnet internal mac session)) blank_table rests [])
