-- Bytes in hex (docs/REPLAY.md, "A script": an even number of hex digits, of either case, two for a byte).
use Rattle.std.specs.Prelude.{ℕ, ◌+◌, ◌-◌, ◌*◌, ◌/◌, ◌%◌, min, Bool, ◌&&◌, Option, Some, None, List, [], ◌∷◌, ◌++◌, map, length, take, get_or, drop, eqb, leb, ltb}
use Rattle.std.specs.Fmt.{decimal}
use Rattle.ground.specs.Choose.{choose}
use Rattle.ground.specs.Below.{all, up_from}
use Rattle.ground.specs.Bytes.{laid}
use Rattle.script.specs.Numbers.{between, is_digit}

-- what a hex digit is worth, '0' to '9', 'A' to 'F', 'a' to 'f'; 16 where it is none (docs/REPLAY.md, "of either case")
unfoldable pub nibble : ℕ → ℕ
nibble b = choose (is_digit b) (b - 48) (choose (between 65 70 b) (b - 55) (choose (between 97 102 b) (b - 87) 16))

-- every byte of a word is a hex digit (docs/REPLAY.md, "hex digits, of either case")
abbrev pub all_hex : List ℕ → Bool
all_hex word = all (λ i. ltb (nibble (get_or word i 0)) 16) (length word)

-- a word of pairs of hex digits: one byte at least, and at most so many (docs/REPLAY.md, "at least one byte and at most 1,024")
unfoldable pub is_hex : ℕ → List ℕ → Bool
is_hex most word = eqb (length word % 2) 0 && ltb 0 (length word) && leb (length word / 2) most && all_hex word

-- the byte that a pair of digits stands for, the first worth sixteen times as much (docs/REPLAY.md, "two for a byte")
unfoldable pub pair_at : List ℕ → ℕ → ℕ
pair_at word i = 16 * nibble (get_or word (2 * i) 0) + nibble (get_or word (2 * i + 1) 0)

-- the bytes that the pairs of a word stand for (docs/REPLAY.md, "two for a byte")
unfoldable pub hex_bytes : List ℕ → List ℕ
hex_bytes word = map (pair_at word) (up_from 0 (length word / 2))

-- what reading it answers, with room for so many bytes: how many there are (house)
abbrev pub hex_count : ℕ → List ℕ → Option ℕ
hex_count room word = choose (is_hex room word) (Some (length word / 2)) None

-- what the room holds after: the bytes at its front, or what it held (01, "A refusal .. writes nowhere")
abbrev pub hex_laid : List ℕ → List ℕ → List ℕ
hex_laid word out = choose (is_hex (length out) word) (laid (hex_bytes word) out) out

-- the bytes from a place of a line on: none where the line ends before it (docs/REPLAY.md, "without HEX the empty frame")
abbrev pub bytes_count : ℕ → List ℕ → ℕ → Option ℕ
bytes_count room line at = choose (ltb (length line) at) (Some 0) (hex_count room (drop at line))

-- what the room holds after reading them (docs/REPLAY.md, "without HEX the empty frame")
abbrev pub bytes_laid : List ℕ → ℕ → List ℕ → List ℕ
bytes_laid line at out = choose (ltb (length line) at) out (hex_laid (drop at line) out)

-- the hex digit of a number below 16, in upper case (docs/REPLAY.md, "in upper case")
unfoldable pub glyph : ℕ → ℕ
glyph n = choose (ltb n 10) (48 + n) (55 + n)

-- bytes in hex, two digits a byte (docs/REPLAY.md, "The answers")
unfoldable pub spelled : List ℕ → List ℕ
spelled [] = []
spelled (b ∷ bytes) = glyph (b / 16) ∷ glyph (b % 16) ∷ spelled bytes

-- how many of them a text of this length has room for (house)
abbrev pub spellable : List ℕ → ℕ → ℕ
spellable bytes room = min (length bytes) (room / 2)

-- how many bytes there are, and the first 1,024 of them behind a space, where there are any (docs/REPLAY.md, "there is no HEX where COUNT is 0")
abbrev pub counted : List ℕ → List ℕ
counted bytes = decimal (length bytes) ++ choose (eqb (length bytes) 0) [] (32 ∷ spelled (take 1024 bytes))
