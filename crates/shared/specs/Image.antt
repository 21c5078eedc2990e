-- An image of shared data (02, C-16): forty slots, each with a sector, a length and a record.
use Rattle.std.specs.Prelude.{ℕ, ◌+◌, ◌-◌, ◌*◌, Bool, ◌&&◌, not, List, [], get_or, take, drop, eqb, leb, ltb}
use Rattle.ground.specs.Choose.{choose}
use Rattle.ground.specs.Below.{up_from, first_or}

-- "An image is 40 slots of 202 bytes" (02, C-16)
abbrev pub slots : ℕ
slots = 40

-- how long a slot is (02, C-16)
abbrev pub slot_long : ℕ
slot_long = 202

-- and so the size of an image (02, C-16)
abbrev pub image_long : ℕ
image_long = slots * slot_long

-- where a slot begins; they are counted from 1 (house)
abbrev pub start_of : ℕ → ℕ
start_of slot = slot_long * (slot - 1)

-- a slot has a "sector" at its first byte (02, C-16)
abbrev pub sector_at : List ℕ → ℕ → ℕ
sector_at image slot = get_or image (start_of slot) 0

-- a "length" at its second (02, C-16)
abbrev pub length_at : List ℕ → ℕ → ℕ
length_at image slot = get_or image (start_of slot + 1) 0

-- and so many bytes of "record" behind it (02, C-16)
abbrev pub record_at : List ℕ → ℕ → List ℕ
record_at image slot = take (length_at image slot) (drop (start_of slot + 2) image)

-- the lengths that a record may have, 6 to 200 (003, Table 22; 02, C-16)
abbrev pub is_length : ℕ → Bool
is_length n = leb 6 n && leb n 200

-- a slot holds the record of a sector (02, C-16)
unfoldable pub holds : List ℕ → ℕ → ℕ → Bool
holds image sector slot = is_length (length_at image slot) && eqb (sector_at image slot) sector

-- "a length outside 6 to 200 is a free slot" (02, C-16)
unfoldable pub is_free : List ℕ → ℕ → Bool
is_free image slot = not (is_length (length_at image slot))

-- "the lowest slot that fits", 0 where none does (02, C-16)
unfoldable pub lowest : (ℕ → Bool) → ℕ
lowest fits = first_or 0 fits (up_from 1 slots)

-- the slot of a sector: of slots with one sector the lowest counts (02, C-16)
abbrev pub slot_of : List ℕ → ℕ → ℕ
slot_of image sector = lowest (holds image sector)

-- and the slot that a new sector gets (02, C-16)
abbrev pub free_slot : List ℕ → ℕ
free_slot image = lowest (is_free image)

-- an image has a record of this sector (02, C-16)
abbrev pub has : List ℕ → ℕ → Bool
has image sector = ltb 0 (slot_of image sector)

-- the record of a sector; empty where there is none (02, C-16)
unfoldable pub record_of : List ℕ → ℕ → List ℕ
record_of image sector = choose (has image sector) (record_at image (slot_of image sector)) []
