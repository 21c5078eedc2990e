-- The frame (001, sections 5 and 7; 01, "The frame").
use Rattle.std.specs.Prelude.{ℕ, ◌+◌, ◌≡◌, Bool, ◌||◌, not, List, [], ◌∷◌, ◌++◌, length, get_or, take, drop, eqb, ltb, Result}
use Rattle.refusal.specs.Refusal.{Told, value, refuses, gives, says, counts, ruled}
use Rattle.refusal.specs.declared.Refusal.{Refusal}
use Rattle.refusal.specs.declared.Refusal.TheVariants.{Short, OverLong, LengthMismatch, BadChecksum, PayloadTooLong, NoRoom, OtherSubnet}
use Rattle.fletcher.specs.Fletcher.{is_good, check_bytes, never_zero}
use Rattle.frame.specs.declared.Header.{Header}
use Rattle.frame.specs.declared.Frame.{Frame}
use Rattle.frame.specs.declared.WriteNumbers.{WriteNumbers}

-- the byte at an offset
abbrev pub byte : List ℕ → ℕ → ℕ
byte b i = get_or b i 0

-- the header's fields stand at offsets 0 to 8 (01, "The frame")
abbrev pub header_of : List ℕ → Header
header_of b =
    record {
      destination = byte b 0;
      source = byte b 1;
      subnet = byte b 2;
      method = byte b 3;
      parameter1 = byte b 4;
      parameter2 = byte b 5;
      kind = byte b 6;
      message = byte b 7;
      packet = byte b 8;
    }

-- the header's nine bytes in the order of the wire (01, "The frame")
abbrev pub fields : Header → List ℕ
fields h =
    h.destination ∷ h.source ∷ h.subnet ∷ h.method ∷ h.parameter1 ∷ h.parameter2 ∷ h.kind ∷ h.message ∷ h.packet ∷ []

-- the payload's length stands at offset 9 (01, "The frame")
abbrev pub length_byte : List ℕ → ℕ
length_byte b = byte b 9

-- when bytes are no frame, in the order of the numbers 1 to 4 (01, "Numbers" and "Order")
abbrev pub whole_rules : List ℕ → List (Bool × Refusal)
whole_rules b =
    (ltb (length b) 12, Short) ∷
    (ltb 240 (length_byte b), OverLong) ∷
    (not (eqb (length b) (12 + length_byte b)), LengthMismatch) ∷
    (not (is_good b), BadChecksum) ∷ []

-- which frames a system takes by their subnet: its own, and 0, everybody's (02, C-14: "refuse any frame whose subnet byte is neither ours nor 0")
abbrev pub takes_subnet : ℕ → ℕ → Bool
takes_subnet ours subnet = eqb subnet ours || eqb subnet 0

-- when a frame is none for a system with this subnet: 24 (02, C-14)
abbrev pub subnet_rules : ℕ → List ℕ → List (Bool × Refusal)
subnet_rules ours b = (not (takes_subnet ours (header_of b).subnet), OtherSubnet) ∷ []

-- when its reader refuses: 1 to 4, and 24 "directly after 4" (02, C-14)
abbrev pub read_rules : ℕ → List ℕ → List (Bool × Refusal)
read_rules ours b = whole_rules b ++ subnet_rules ours b

-- what that reader says of bytes: the nine fields and the payload's length, or its refusal
unfoldable pub reading : ℕ → List ℕ → Told
reading ours b = ruled (read_rules ours b) refuses (gives (fields (header_of b) ++ length_byte b ∷ []))

-- bytes that read well: the reader gives their own fields, and their payload's length
abbrev pub ReadsWell : ℕ → List ℕ → Type 0
ReadsWell ours b = reading ours b ≡ gives (fields (header_of b) ++ length_byte b ∷ [])

-- the payload: the bytes from offset 10 on, as many as the length byte says; empty on a refusal (01, "The frame")
unfoldable pub payload_of : ℕ → List ℕ → List ℕ
payload_of ours b = ruled (read_rules ours b) (λ r. []) (take (length_byte b) (drop 10 b))

-- the numbers of a frame that was read: the nine fields and the payload's length
abbrev pub frame_values : Frame → List ℕ
frame_values f = fields f.header ++ f.length ∷ []

-- a reading: a frame, or why there is none
abbrev pub Reading : Type 0
Reading = Result Frame Refusal

-- what a reading says
abbrev pub told : Reading → Told
told = says frame_values

-- a frame before its check bytes: the fields, the payload's length, the payload (01, "The frame")
abbrev pub body : Header → List ℕ → List ℕ
body h p = (fields h ++ length p ∷ []) ++ p

-- the frame of a header and a payload
unfoldable pub frame_of : Header → List ℕ → List ℕ
frame_of h p = body h p ++ check_bytes (body h p)

-- the same frame with each check byte as it is written: 255 in the place of a 0 (00, demand 2)
unfoldable pub settled : List ℕ → List ℕ
settled b =
    take (10 + length_byte b) b ++ never_zero (byte b (10 + length_byte b)) ∷ never_zero (byte b (11 + length_byte b)) ∷ []

-- the first bytes of a payload that stand in the room already, where a frame's payload begins (house)
abbrev pub begun : ℕ → List ℕ → List ℕ
begun m out = take m (drop 10 out)

-- when the writer refuses: 10, then 11 (01, "Order")
abbrev pub write_rules : List ℕ → ℕ → List (Bool × Refusal)
write_rules p room = (ltb 240 (length p), PayloadTooLong) ∷ (ltb room (12 + length p), NoRoom) ∷ []

-- what the writer says, with this much room: the count of bytes written, or its refusal
unfoldable pub writing : List ℕ → ℕ → Told
writing p room = ruled (write_rules p room) refuses (gives ((12 + length p) ∷ []))

-- the bytes that it writes at the front of the room: the frame, or none on a refusal (01, "A refusal .. writes nowhere")
unfoldable pub written_bytes : Header → List ℕ → ℕ → List ℕ
written_bytes h p room = ruled (write_rules p room) (λ r. []) (frame_of h p)

-- a writing: the count of bytes written, or why none was
abbrev pub Writing : Type 0
Writing = Result ℕ Refusal

-- what a writing says
abbrev pub told_written : Writing → Told
told_written = counts

-- what C is given of it: the refusal's number or 0, and the count (house)
abbrev pub write_numbers : Told → WriteNumbers
write_numbers t = record { refusal = t.number; written = value t 0 }
