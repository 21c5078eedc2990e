-- The fresh start (01, "Setup .. clears all records, waits, dues and holds").
use Rattle.std.specs.Prelude.{List, replicate}
use Rattle.board.specs.declared.Node.{Node}
use Rattle.board.specs.Node.{none}
use Rattle.setup.specs.declared.Setup.{Setup}
use Rattle.coordinator.specs.declared.Phase.TheVariants.{Resting}
use Rattle.coordinator.specs.declared.Kept.{Kept}
use Rattle.coordinator.specs.declared.Found.{Found}
use Rattle.coordinator.specs.declared.Coordinator.{Coordinator}
use Rattle.coordinator.specs.Phase.{stand_of}

-- nothing is kept: all zeros (house)
abbrev pub blank_kept : Kept
blank_kept = record { message = 0; packet = 0; kind = 0; method = 0; parameter = 0; length = 0; payload = replicate 240 0 }

-- nothing is discovered: all zeros (house)
abbrev pub blank_found : Found
blank_found = record { kind = 0; version = 0; mac = 0; session = 0 }

-- nobody was offered the bus yet, so that the first offer begins at 1; joins are not held, no discovery was started, nothing is waited for or due (01, "A fresh start begins at 1")
abbrev pub fresh : Setup → Coordinator
fresh s =
    record {
      setup = s;
      last = 0;
      held = 0;
      searched = 0;
      stand = stand_of Resting;
      kept = blank_kept;
      found = blank_found;
    }

-- forty free positions (01, "forty records")
abbrev pub blank_table : List Node
blank_table = replicate 40 none
