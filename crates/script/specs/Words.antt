-- The words of a line (docs/REPLAY.md, "A script": one space between words).
use Rattle.std.specs.Prelude.{◌≡◌, ℕ, ◌+◌, Bool, ◌&&◌, ◌||◌, Option, Some, None, List, length, get_or, take, drop, eqb, ltb}
use Rattle.ground.specs.Choose.{choose}
use Rattle.script.specs.declared.Line.{Line}
use Rattle.ground.specs.Below.{all, up_from, first_or}

-- the byte at a place is this one (house)
abbrev pub is_at : ℕ → List ℕ → ℕ → Bool
is_at mark text i = eqb (get_or text i 0) mark

-- a line that is passed over: an empty one, and one "whose very first byte is `#`" (docs/REPLAY.md, "A script")
unfoldable pub is_passed : List ℕ → Bool
is_passed line = eqb (length line) 0 || is_at 35 line 0

-- how many bytes stand before the first of this value: all of them where there is none (house)
unfoldable pub before : ℕ → List ℕ → ℕ
before mark text = first_or (length text) (is_at mark text) (up_from 0 (length text))

-- the part of a text that begins at a place: up to the next of this mark, or to the end (house)
abbrev pub part_at : ℕ → List ℕ → ℕ → List ℕ
part_at mark text at = take (before mark (drop at text)) (drop at text)

-- the word that begins at a place: up to the next space, or to the end of the line (docs/REPLAY.md, "A script")
abbrev pub word_at : List ℕ → ℕ → List ℕ
word_at line at = part_at 32 line at

-- two words are one: as long, and alike at each byte (house)
unfoldable pub same : List ℕ → List ℕ → Bool
same a b = eqb (length a) (length b) && all (λ i. eqb (get_or a i 0) (get_or b i 0)) (length b)

-- that part, and where the next one begins, past the text's end where there is none; none past the text's end (house)
abbrev pub part_from : ℕ → List ℕ → ℕ → Option (List ℕ × ℕ)
part_from mark text at = choose (ltb (length text) at) None (Some (part_at mark text at, at + length (part_at mark text at) + 1))

-- the line that begins at a place of a script, up to the next line feed, which the last may lack; behind a last line feed stands one more, which is empty (docs/REPLAY.md, "A script")
abbrev pub line_from : List ℕ → ℕ → Option (List ℕ × ℕ)
line_from script at = part_from 10 script at

-- the word at a place, and where the next one begins, past the line's end where there is none; none past the line's end (docs/REPLAY.md, "A script")
abbrev pub word_from : List ℕ → ℕ → Option (List ℕ × ℕ)
word_from line at = part_from 32 line at

-- what a reading answers that gives a value and the place behind it (house)
abbrev pub answered : {A : Type 0} → Option (A × ℕ) → Option A
answered None = None
answered (Some read) = Some read.0

-- where it leaves the reader, who stays where nothing was read (house)
abbrev pub left_at : {A : Type 0} → ℕ → Option (A × ℕ) → ℕ
left_at at None = at
left_at at (Some read) = read.1

-- a line's reading of it: the value is the answer, the place is where the line then stands, and its text stays (house)
abbrev pub Reads : {A : Type 0} → Option (A × ℕ) → Line → Line → Option A → Type 0
Reads read old new answer = (answer ≡ answered read) × (new.at ≡ left_at old.at read) × (new.text ≡ old.text)
