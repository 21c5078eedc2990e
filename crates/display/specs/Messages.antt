-- Set Display (003, 5.4) and Set Diagnostics (003, 5.5), and the response to both.
use Rattle.std.specs.Prelude.{ℕ, Bool, ◌&&◌, List, [], ◌∷◌, length, get_or, eqb, Result}
use Rattle.ground.specs.Below.{all}
use Rattle.refusal.specs.Refusal.{Told, says}
use Rattle.refusal.specs.declared.Refusal.{Refusal}
use Rattle.display.specs.declared.Message.{Message}
use Rattle.display.specs.declared.Fault.{Fault}
use Rattle.display.specs.Text.{read_text, text_of, write_text, text_bytes}

-- "the maximum message length is thirty" (003, 5.4)
abbrev pub display_most : ℕ
display_most = 30

-- before its length byte a Set Display has the node type (003, Table 8)
abbrev pub display_own : ℕ → List ℕ
display_own kind = kind ∷ []

-- what is read of a Set Display: node type, message length (003, Table 8)
abbrev pub read_display : List ℕ → Told
read_display p = read_text 1 display_most p

-- its message (003, Table 8)
abbrev pub display_text : List ℕ → List ℕ
display_text p = text_of 1 display_most p

-- what writing one says (003, Table 8)
abbrev pub write_display : ℕ → List ℕ → ℕ → Told
write_display kind text room = write_text display_most (display_own kind) text room

-- and the bytes that it writes (003, Table 8)
abbrev pub display_bytes : ℕ → List ℕ → ℕ → List ℕ
display_bytes kind text room = text_bytes display_most (display_own kind) text room

-- "the maximum message length is fifteen" (003, 5.5)
abbrev pub diagnostics_most : ℕ
diagnostics_most = 15

-- before its length byte a Set Diagnostics has node type, major and minor fault code (003, Table 10)
abbrev pub diagnostics_own : ℕ → ℕ → ℕ → List ℕ
diagnostics_own kind major minor = kind ∷ major ∷ minor ∷ []

-- what is read of a Set Diagnostics: node type, major and minor fault code, message length (003, Table 10)
abbrev pub read_diagnostics : List ℕ → Told
read_diagnostics p = read_text 3 diagnostics_most p

-- its fault message (003, Table 10)
abbrev pub diagnostics_text : List ℕ → List ℕ
diagnostics_text p = text_of 3 diagnostics_most p

-- what writing one says (003, Table 10)
abbrev pub write_diagnostics : ℕ → ℕ → ℕ → List ℕ → ℕ → Told
write_diagnostics kind major minor text room = write_text diagnostics_most (diagnostics_own kind major minor) text room

-- and the bytes that it writes (003, Table 10)
abbrev pub diagnostics_bytes : ℕ → ℕ → ℕ → List ℕ → ℕ → List ℕ
diagnostics_bytes kind major minor text room = text_bytes diagnostics_most (diagnostics_own kind major minor) text room

-- the numbers of a Set Display that was read: node type, message length (003, Table 8)
abbrev pub message_values : Message → List ℕ
message_values m = m.kind ∷ m.length ∷ []

-- what a reading of one says
abbrev pub told_display : Result Message Refusal → Told
told_display = says message_values

-- the numbers of a Set Diagnostics that was read: node type, major and minor fault code, message length (003, Table 10)
abbrev pub fault_values : Fault → List ℕ
fault_values f = f.kind ∷ f.major ∷ f.minor ∷ f.length ∷ []

-- what a reading of one says
abbrev pub told_diagnostics : Result Fault Refusal → Told
told_diagnostics = says fault_values

-- the payload of either's response: the confirmation code 0xAC 0x06 (003, Tables 9 and 11)
abbrev pub reply : List ℕ
reply = 172 ∷ 6 ∷ []

-- a payload is that one (003, Tables 9 and 11)
unfoldable pub is_reply : List ℕ → Bool
is_reply p = eqb (length p) (length reply) && all (λ i. eqb (get_or p i 0) (get_or reply i 0)) (length reply)
