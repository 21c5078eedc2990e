-- Bytes laid at the front of a buffer, and over a part of it; a part that numbers name.
use Rattle.std.specs.Prelude.{ℕ, ◌+◌, ◌-◌, ◌≤◌, min, ◌≡◌, List, ◌++◌, length, take, drop, replicate}

-- the bytes, and past them what the buffer held
abbrev pub laid : List ℕ → List ℕ → List ℕ
laid bytes out = bytes ++ drop (length bytes) out

-- the bytes, and zeros in the places that they leave of so many; as many bytes as there is room for
abbrev pub padded : ℕ → List ℕ → List ℕ
padded places bytes = laid (take places bytes) (replicate places 0)

-- how many of so many bytes fit into a buffer from a place on
unfoldable pub fitting : ℕ → ℕ → ℕ → ℕ
fitting bytes at room = min bytes (room - at)

-- so many bytes from a place on lie in the whole, and are this part: what two numbers name
abbrev pub Names : ℕ → ℕ → List ℕ → List ℕ → Type 0
Names start n whole part = (start + n ≤ length whole) × (take n (drop start whole) ≡ part)
