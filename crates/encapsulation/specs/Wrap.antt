-- The writer (02, C-21): a whole frame from a header, levels and the message inside.
use Rattle.std.specs.Prelude.{ℕ, Bool, List, [], ◌∷◌, take, ltb}
use Rattle.refusal.specs.Refusal.{Told, refuses, ruled}
use Rattle.refusal.specs.declared.Refusal.{Refusal}
use Rattle.refusal.specs.declared.Refusal.TheVariants.{TooDeep}
use Rattle.frame.specs.declared.Header.{Header}
use Rattle.frame.specs.Frame.{writing, written_bytes}
use Rattle.encapsulation.specs.declared.Level.{Level}
use Rattle.encapsulation.specs.Message.{Message, is_encapsulation, most, wrapped}

-- the message that a frame of this header and this payload would carry, in no level (003, Table 1)
abbrev pub sent : Header → List ℕ → Message
sent h p = record { message = h.message; packet = h.packet; payload = p }

-- the header of a frame that carries a message of this type and packet number (003, Table 1)
abbrev pub carrying : Header → ℕ → ℕ → Header
carrying h message packet =
    record {
      destination = h.destination;
      source = h.source;
      subnet = h.subnet;
      method = h.method;
      parameter1 = h.parameter1;
      parameter2 = h.parameter2;
      kind = h.kind;
      message = message;
      packet = packet;
    }

-- the bytes written of the frame that carries a message (01, "The frame")
abbrev pub carried : Header → Message → ℕ → List ℕ
carried h m room = written_bytes (carrying h m.message m.packet) m.payload room

-- what the frame carries: the message in the first of the levels that are given (02, C-21)
abbrev pub outermost : Header → List Level → ℕ → List ℕ → Message
outermost h levels depth p = wrapped (take depth levels) (sent h p)

-- 31: at more than four levels, and where the message inside is an encapsulation, a level that was not given as one (02, C-21)
abbrev pub depth_rules : ℕ → Message → List (Bool × Refusal)
depth_rules depth m = (ltb most depth, TooDeep) ∷ (is_encapsulation m, TooDeep) ∷ []

-- what the writer says, with this much room: 31, "then 10 when the outermost payload would pass 240, then 11", as any frame's writer (02, C-21)
unfoldable pub wrapping : Header → List Level → ℕ → List ℕ → ℕ → Told
wrapping h levels depth p room =
    ruled (depth_rules depth (sent h p)) refuses (writing (outermost h levels depth p).payload room)

-- the bytes that it writes at the front of the room: the frame, or none on a refusal (01, "A refusal .. writes nowhere")
unfoldable pub wrapped_bytes : Header → List Level → ℕ → List ℕ → ℕ → List ℕ
wrapped_bytes h levels depth p room =
    ruled (depth_rules depth (sent h p)) (λ r. []) (carried h (outermost h levels depth p) room)
