-- A number as bytes (01, "Boards and positions": MAC and session go low byte first).
use Rattle.std.specs.Prelude.{ℕ, zero, suc, ◌+◌, ◌*◌, ◌/◌, ◌%◌, List, [], ◌∷◌, take, drop}

-- the n low bytes of w, low byte first (01: "Both go low byte first")
unfoldable pub bytes_of : ℕ → ℕ → List ℕ
bytes_of zero w = []
bytes_of (suc n) w = w % 256 ∷ bytes_of n (w / 256)

-- what bytes are worth, low byte first
unfoldable pub value_of : List ℕ → ℕ
value_of [] = 0
value_of (b ∷ bs) = b + 256 * value_of bs

-- the word of the eight bytes from a place on; bytes past the end count as 0
unfoldable pub word_at : List ℕ → ℕ → ℕ
word_at bytes at = value_of (take 8 (drop at bytes))
