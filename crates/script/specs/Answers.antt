-- The lines of an answer that every script has (docs/REPLAY.md, "The answers").
use Rattle.std.specs.Prelude.{ℕ, List, [], ◌∷◌, ◌++◌}
use Rattle.std.specs.Fmt.{decimal}

-- the line of a refusal: the word "refuse", a space, the number and the line's end (docs/REPLAY.md, "refuse N")
abbrev pub refused : ℕ → List ℕ
refused number = 114 ∷ 101 ∷ 102 ∷ 117 ∷ 115 ∷ 101 ∷ 32 ∷ (decimal number ++ (10 ∷ []))
