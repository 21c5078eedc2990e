-- A text behind its length (003, 5.4 and 5.5; 02, C-22): bytes of the message's own, a length byte, then so many text bytes, at most a maximum.
-- For a reader `own` is how many bytes of the message's own there are, for a writer these bytes.
use Rattle.std.specs.Prelude.{ℕ, ◌+◌, Bool, ◌&&◌, not, List, [], ◌∷◌, ◌++◌, length, get_or, take, drop, eqb, leb, ltb}
use Rattle.ground.specs.Below.{all}
use Rattle.refusal.specs.Refusal.{Told, refuses, gives, ruled}
use Rattle.refusal.specs.declared.Refusal.{Refusal}
use Rattle.refusal.specs.declared.Refusal.TheVariants.{NoRoom, BadTextLength, BadText}

-- a byte that is text: "a text byte outside 0x20 to 0x7E is refused" (02, C-22; 003, 3.1)
abbrev pub is_text : ℕ → Bool
is_text b = leb 32 b && leb b 126

-- every byte is text (02, C-22)
unfoldable pub all_text : List ℕ → Bool
all_text text = all (λ i. is_text (get_or text i 0)) (length text)

-- the length byte stands behind the message's own bytes (003, Tables 8 and 10)
abbrev pub inner_length : ℕ → List ℕ → ℕ
inner_length own p = get_or p own 0

-- the text is all that stands behind the length byte (003, Tables 8 and 10)
abbrev pub behind : ℕ → List ℕ → List ℕ
behind own p = drop (own + 1) p

-- 32: "when the payload lacks its fixed bytes, or the inner length and payload length disagree or exceed the maximum" (02, C-22)
abbrev pub length_rules : ℕ → ℕ → List ℕ → List (Bool × Refusal)
length_rules own most p =
    (ltb (length p) (own + 1), BadTextLength) ∷
    (not (eqb (length p) (own + 1 + inner_length own p)), BadTextLength) ∷
    (ltb most (inner_length own p), BadTextLength) ∷ []

-- 33, "the same in reader and writer" (02, C-22)
abbrev pub text_rules : List ℕ → List (Bool × Refusal)
text_rules text = (not (all_text text), BadText) ∷ []

-- when the reader refuses: 32, then 33 (02, C-22)
abbrev pub read_text_rules : ℕ → ℕ → List ℕ → List (Bool × Refusal)
read_text_rules own most p = length_rules own most p ++ text_rules (behind own p)

-- what the reader says of a payload: its fixed bytes, the last of them the text's length, or its refusal (003, Tables 8 and 10)
unfoldable pub read_text : ℕ → ℕ → List ℕ → Told
read_text own most p = ruled (read_text_rules own most p) refuses (gives (take (own + 1) p))

-- the text, a part of the payload; empty on a refusal (02, C-22)
unfoldable pub text_of : ℕ → ℕ → List ℕ → List ℕ
text_of own most p = ruled (read_text_rules own most p) (λ r. []) (behind own p)

-- the payload of these bytes of the message's own and this text (003, Tables 8 and 10)
abbrev pub text_payload : List ℕ → List ℕ → List ℕ
text_payload own text = own ++ length text ∷ text

-- when the writer refuses: 32, then 33, then 11 (02, C-22)
abbrev pub write_text_rules : ℕ → List ℕ → List ℕ → ℕ → List (Bool × Refusal)
write_text_rules most own text room =
    (ltb most (length text), BadTextLength) ∷ text_rules text ++ (ltb room (length own + 1 + length text), NoRoom) ∷ []

-- what the writer says, with this much room: the count of bytes written, or its refusal (02, C-22)
unfoldable pub write_text : ℕ → List ℕ → List ℕ → ℕ → Told
write_text most own text room = ruled (write_text_rules most own text room) refuses (gives ((length own + 1 + length text) ∷ []))

-- the bytes that it writes at the front of the room: the payload, or none on a refusal (01, "A refusal .. writes nowhere")
unfoldable pub text_bytes : ℕ → List ℕ → List ℕ → ℕ → List ℕ
text_bytes most own text room = ruled (write_text_rules most own text room) (λ r. []) (text_payload own text)
