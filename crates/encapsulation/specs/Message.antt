-- Messages, and messages inside messages (003, 4.1 and 6.10; 02, C-21).
use Rattle.std.specs.Prelude.{ℕ, Bool, List, [], ◌∷◌, ◌++◌, length, eqb}
use Rattle.encapsulation.specs.declared.Level.{Level}

-- a message: its type, its packet number and its payload (003, Table 1)
pub record Message : Type 0 where
  pub message : ℕ
  pub packet : ℕ
  pub payload : List ℕ

-- its bytes: type, packet number, the payload's length, the payload (003, Table 1)
abbrev pub message_bytes : Message → List ℕ
message_bytes m = m.message ∷ m.packet ∷ length m.payload ∷ m.payload

-- the message type of Network Encapsulation (003, 6.10)
abbrev pub encapsulation : ℕ
encapsulation = 0x7E

-- a message that holds another; one of any other type, 0xFE among them, is plain (003, 6.10; 02, C-21)
abbrev pub is_encapsulation : Message → Bool
is_encapsulation m = eqb m.message encapsulation

-- "up to four levels in all" (02, C-21)
abbrev pub most : ℕ
most = 4

-- code and operands, with which the payload of an encapsulation begins (003, Table 65)
abbrev pub opening : Level → List ℕ
opening l = l.code ∷ l.operand1 ∷ l.operand2 ∷ l.operand3 ∷ []

-- a message in one level: code, operands, and the message to the very end (003, Table 65)
abbrev pub around : Level → Message → Message
around l m = record { message = encapsulation; packet = l.packet; payload = opening l ++ message_bytes m }

-- and in several, from the outermost on: "an encapsulated message may be encapsulated again" (02, C-21)
unfoldable pub wrapped : List Level → Message → Message
wrapped [] m = m
wrapped (l ∷ ls) m = around l (wrapped ls m)
