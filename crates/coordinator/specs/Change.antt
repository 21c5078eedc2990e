-- What a step does to the coordinator's record (01, "Steps"); each leaves the rest as it was.
use Rattle.std.specs.Prelude.{ℕ, Bool, false}
use Rattle.ground.specs.Below.{one}
use Rattle.coordinator.specs.declared.Exchange.TheVariants.{Offer}
use Rattle.coordinator.specs.declared.Part.TheVariants.{Search, IdentifyDue}
use Rattle.coordinator.specs.declared.Phase.{Phase}
use Rattle.coordinator.specs.declared.Phase.TheVariants.{Resting, Awaiting, Seeking}
use Rattle.coordinator.specs.declared.Kept.{Kept}
use Rattle.coordinator.specs.declared.Found.{Found}
use Rattle.coordinator.specs.declared.Coordinator.{Coordinator}
use Rattle.coordinator.specs.Phase.{stand_of}
use Rattle.coordinator.specs.Fresh.{blank_found}

-- another phase
abbrev pub with_phase : Coordinator → Phase → Coordinator
with_phase c phase =
    record {
      setup = c.setup;
      last = c.last;
      held = c.held;
      searched = c.searched;
      stand = stand_of phase;
      kept = c.kept;
      found = c.found;
    }

-- an offer to a board: it is the last one offered, joins are no longer held, no discovery was started since, and it is waited for (01, "Turn", and "held until an offer is made"; 02, C-11)
abbrev pub offered : Coordinator → ℕ → Coordinator
offered c board =
    record {
      setup = c.setup;
      last = board;
      held = 0;
      searched = 0;
      stand = stand_of (Awaiting board Offer 0 false);
      kept = c.kept;
      found = c.found;
    }

-- joins held or not (01, "Join": "further joins are held until an offer is made or nobody is listed")
abbrev pub holding : Coordinator → Bool → Coordinator
holding c held =
    record {
      setup = c.setup;
      last = c.last;
      held = one held;
      searched = c.searched;
      stand = c.stand;
      kept = c.kept;
      found = c.found;
    }

-- another message kept (01, "Forward and return keep ..")
abbrev pub keeping : Coordinator → Kept → Coordinator
keeping c kept =
    record {
      setup = c.setup;
      last = c.last;
      held = c.held;
      searched = c.searched;
      stand = c.stand;
      kept = kept;
      found = c.found;
    }

-- a discovery is started, with the address of a position at stake; it is remembered until an offer is made (02, C-11)
abbrev pub searching : Coordinator → ℕ → Coordinator
searching c position =
    record {
      setup = c.setup;
      last = c.last;
      held = c.held;
      searched = 1;
      stand = stand_of (Seeking position Search);
      kept = c.kept;
      found = c.found;
    }

-- the memory that a discovery was started, alone (02, C-11)
abbrev pub remembering : Coordinator → Coordinator
remembering c =
    record {
      setup = c.setup;
      last = c.last;
      held = c.held;
      searched = 1;
      stand = c.stand;
      kept = c.kept;
      found = c.found;
    }

-- what was discovered is kept, and Get Node ID is due to the address at stake (000, 11.11, 2.1.1 and 2.1.4; 02, C-11)
abbrev pub finding : Coordinator → Found → ℕ → Coordinator
finding c found position =
    record {
      setup = c.setup;
      last = c.last;
      held = c.held;
      searched = c.searched;
      stand = stand_of (Seeking position IdentifyDue);
      kept = c.kept;
      found = found;
    }

-- the exchange by which a board joins is over: at rest, and what was discovered is forgotten (02, C-11)
abbrev pub ended : Coordinator → Coordinator
ended c =
    record {
      setup = c.setup;
      last = c.last;
      held = c.held;
      searched = c.searched;
      stand = stand_of Resting;
      kept = c.kept;
      found = blank_found;
    }
