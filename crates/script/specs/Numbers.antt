-- The numbers of a line (docs/REPLAY.md, "A script": decimal digits only, leading zeros allowed).
use Rattle.std.specs.Prelude.{ℕ, zero, suc, ◌+◌, ◌-◌, ◌*◌, Bool, ◌&&◌, Option, Some, None, List, length, get_or, leb, ltb}
use Rattle.ground.specs.Choose.{choose}
use Rattle.ground.specs.Below.{all}
use Rattle.script.specs.Words.{word_from}

-- a byte from one to another, both included (house)
abbrev pub between : ℕ → ℕ → ℕ → Bool
between low high b = leb low b && leb b high

-- a decimal digit: '0' to '9' (docs/REPLAY.md, "A script")
abbrev pub is_digit : ℕ → Bool
is_digit b = between 48 57 b

-- what the first n digits of a word are worth, the last of them least (docs/REPLAY.md, "decimal")
unfoldable pub worth_to : List ℕ → ℕ → ℕ
worth_to word zero = 0
worth_to word (suc n) = 10 * worth_to word n + (get_or word n 0 - 48)

-- what a word of digits is worth (docs/REPLAY.md, "decimal")
abbrev pub worth : List ℕ → ℕ
worth word = worth_to word (length word)

-- a word that is a number: one digit at least, and nothing else (docs/REPLAY.md, "decimal digits only")
unfoldable pub is_number : List ℕ → Bool
is_number word = ltb 0 (length word) && all (λ i. is_digit (get_or word i 0)) (length word)

-- a word that is a number of at most this much: one that fits its field (docs/REPLAY.md, "bad line")
abbrev pub fits : ℕ → List ℕ → Bool
fits most word = is_number word && leb (worth word) most

-- the most that a field can hold (docs/REPLAY.md, "MAC and SESSION 0 to 18,446,744,073,709,551,615")
abbrev pub widest : ℕ
widest = 18446744073709551615

-- what a word is worth, where it fits the widest field (house)
abbrev pub worth_of : List ℕ → Option ℕ
worth_of word = choose (fits widest word) (Some (worth word)) None

-- what a word read at a place is as a field: what it is worth, where it fits, and where the next word begins (docs/REPLAY.md, "A script")
abbrev pub field_of : ℕ → ℕ → Option (List ℕ × ℕ) → Option ℕ × ℕ
field_of at most None = (None, at)
field_of at most (Some word) = (choose (fits most word.0) (Some (worth word.0)) None, word.1)

-- the field at a place: past the line's end there is none, and nothing is passed (docs/REPLAY.md, "A script")
unfoldable pub field_at : List ℕ → ℕ → ℕ → Option ℕ × ℕ
field_at line at most = field_of at most (word_from line at)

-- the number that a field is, and where the next word begins (docs/REPLAY.md, "A script")
abbrev pub number_in : ℕ → Option ℕ → Option (ℕ × ℕ)
number_in next None = None
number_in next (Some n) = Some (n, next)

-- the number at a place; none past the line's end, or where its word does not fit (docs/REPLAY.md, "A script")
abbrev pub number_at : List ℕ → ℕ → ℕ → Option (ℕ × ℕ)
number_at line at most = number_in (field_at line at most).1 (field_at line at most).0
