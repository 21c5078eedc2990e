-- The reader (02, C-21): "from message to payload to message until a plain one is reached".
use Rattle.std.specs.Prelude.{ℕ, zero, suc, ◌+◌, Bool, not, List, [], ◌∷◌, length, take, drop, eqb, ltb}
use Rattle.ground.specs.Choose.{choose}
use Rattle.refusal.specs.Refusal.{ruled}
use Rattle.refusal.specs.declared.Refusal.{Refusal}
use Rattle.refusal.specs.declared.Refusal.TheVariants.{BadInner, TooDeep}
use Rattle.frame.specs.Frame.{byte, header_of, length_byte, read_rules}
use Rattle.encapsulation.specs.declared.Level.{Level}
use Rattle.encapsulation.specs.Message.{Message, is_encapsulation, most}

-- what opening a message comes to: its levels, from the outermost on, and the plain message in them; or nothing, for this reason
pub data Opened : Type 0 where
  plain : List Level → Message → Opened
  refused : Refusal → Opened

-- the same with one level more around it; "a refusal says nothing about inner levels" (02, C-21)
abbrev pub under : Level → Opened → Opened
under l (plain ls m) = plain (l ∷ ls) m
under l (refused r) = refused r

-- the level of an encapsulation with this packet number and this payload (003, Table 65)
abbrev pub level_of : ℕ → List ℕ → Level
level_of packet p = record { code = byte p 0; operand1 = byte p 1; operand2 = byte p 2; operand3 = byte p 3; packet = packet }

-- the message behind code and operands (003, Tables 1 and 65)
abbrev pub inner_of : List ℕ → Message
inner_of p = record { message = byte p 4; packet = byte p 5; payload = drop 7 p }

-- 30: "when an inner message isn't complete", its length not exactly what remains (02, C-21)
abbrev pub inner_rules : List ℕ → List (Bool × Refusal)
inner_rules p = (ltb (length p) 7, BadInner) ∷ (not (eqb (length p) (7 + byte p 6)), BadInner) ∷ []

-- the payload of an encapsulation is opened: code, operands and one whole message, which is opened in its turn (02, C-21)
unfoldable pub opened_inside : (Message → Opened) → ℕ → List ℕ → Opened
opened_inside next packet p = ruled (inner_rules p) refused (under (level_of packet p) (next (inner_of p)))

-- a message is opened, with so many levels left: 31 where none is left for an encapsulation, "tested before 30" (02, C-21)
unfoldable pub opened : ℕ → Message → Opened
opened zero m = choose (is_encapsulation m) (refused TooDeep) (plain [] m)
opened (suc left) m = choose (is_encapsulation m) (opened_inside (λ inner. opened left inner) m.packet m.payload) (plain [] m)

-- the message of a frame (003, Table 1; 01, "The frame")
abbrev pub message_of : List ℕ → Message
message_of b = record { message = (header_of b).message; packet = (header_of b).packet; payload = take (length_byte b) (drop 10 b) }

-- received bytes are unwrapped, by a system with this subnet: the frame reader's refusals come first (02, C-21)
unfoldable pub unwrapping : ℕ → List ℕ → Opened
unwrapping ours b = ruled (read_rules ours b) refused (opened most (message_of b))

-- the plain message's payload; a refusal "hands no part of the payload out" (02, C-21)
abbrev pub payload_in : Opened → List ℕ
payload_in (plain ls m) = m.payload
payload_in (refused r) = []
