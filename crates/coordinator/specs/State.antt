-- What a step reads of the coordinator besides the setup, and what it may change besides the payload that is kept (house).
use Rattle.std.specs.Prelude.{ℕ, List, replicate}
use Rattle.setup.specs.declared.Setup.{Setup}
use Rattle.coordinator.specs.declared.Kept.{Kept}
use Rattle.coordinator.specs.declared.Head.{Head}
use Rattle.coordinator.specs.declared.State.{State}
use Rattle.coordinator.specs.declared.Coordinator.{Coordinator}

-- the head of a message
abbrev pub head_of : Kept → Head
head_of m = record { message = m.message; packet = m.packet; kind = m.kind; method = m.method; parameter = m.parameter; length = m.length }

-- the message of a head and a payload
abbrev pub kept_as : Head → List ℕ → Kept
kept_as h payload = record { message = h.message; packet = h.packet; kind = h.kind; method = h.method; parameter = h.parameter; length = h.length; payload = payload }

-- the state of a coordinator
abbrev pub state_of : Coordinator → State
state_of c = record { last = c.last; held = c.held; searched = c.searched; stand = c.stand; head = head_of c.kept; found = c.found }

-- the coordinator of a setup, a state and a payload
abbrev pub composed : Setup → State → List ℕ → Coordinator
composed setup s payload = record { setup = setup; last = s.last; held = s.held; searched = s.searched; stand = s.stand; kept = kept_as s.head payload; found = s.found }

-- a message of which the head alone is known, and a coordinator of which the state alone is
abbrev pub bare : Head → Kept
bare h = kept_as h (replicate 240 0)

abbrev pub stated : State → Coordinator
stated s = composed (record { pool = replicate 40 0; k = 0; subnet = 0; internal = 0; mac = 0; session = 0 }) s (replicate 240 0)
