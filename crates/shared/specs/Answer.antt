-- The payload that answers a request for a sector's record (003, 5.11; 02, C-16).
use Rattle.std.specs.Prelude.{ℕ, Bool, List, [], ◌∷◌, length, ltb}
use Rattle.ground.specs.Choose.{choose}
use Rattle.refusal.specs.Refusal.{Told, refuses, gives, ruled}
use Rattle.refusal.specs.declared.Refusal.{Refusal}
use Rattle.refusal.specs.declared.Refusal.TheVariants.{NoRoom}
use Rattle.shared.specs.Image.{has, record_of}
use Rattle.shared.specs.Holder.{both_rules, serving}

-- sector and record of an image (003, Table 25); "if no shared data is available the response shall return with a Payload length of 0x00" (003, 5.11)
unfoldable pub answer_of : List ℕ → ℕ → List ℕ
answer_of image sector = choose (has image sector) (sector ∷ record_of image sector) []

-- the payload, from the image that serves the sector (02, C-16)
abbrev pub answer_payload : List ℕ → List ℕ → ℕ → List ℕ
answer_payload network factory sector = answer_of (serving network factory sector) sector

-- 11: output shorter than what is due (01, "Numbers")
abbrev pub room_rules : List ℕ → ℕ → List (Bool × Refusal)
room_rules payload room = (ltb room (length payload), NoRoom) ∷ []

-- what a writer says of a payload, with this much room: how many bytes it wrote, or 11 (01, "Numbers")
unfoldable pub fitted : List ℕ → ℕ → Told
fitted payload room = ruled (room_rules payload room) refuses (gives (length payload ∷ []))

-- and what it lays at the front of the room; nothing on a refusal (01, "A refusal .. writes nowhere")
unfoldable pub fitted_bytes : List ℕ → ℕ → List ℕ
fitted_bytes payload room = ruled (room_rules payload room) (λ r. []) payload

-- what the writer of the answer says: 22, then 11 (02, C-16)
unfoldable pub answering : List ℕ → List ℕ → ℕ → ℕ → Told
answering network factory sector room =
    ruled (both_rules network factory) refuses (fitted (answer_payload network factory sector) room)

-- and what it lays (02, C-16)
unfoldable pub answer_bytes : List ℕ → List ℕ → ℕ → ℕ → List ℕ
answer_bytes network factory sector room =
    ruled (both_rules network factory) (λ r. []) (fitted_bytes (answer_payload network factory sector) room)
