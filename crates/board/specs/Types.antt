-- How many different types are listed, and the rule on them where a 1.0 board is (02, C-15; 000, 8.1.2.4).
use Rattle.std.specs.Prelude.{ℕ, ◌+◌, ◌≤◌, ◌<◌, ◌≡◌, Bool, ◌&&◌, not, List, [], ◌∷◌, eqb, ltb, length, get_or}
use Rattle.ground.specs.Below.{one, among}
use Rattle.board.specs.declared.Node.{Node}
use Rattle.board.specs.Table.{at}
use Rattle.board.specs.Columns.{kinds_of, column_with, forty}

-- somebody's type, which is not 0, and none of these (02, C-15: "different node types")
abbrev pub is_new : List ℕ → ℕ → Bool
is_new kinds kind = not (eqb kind 0) && not (among kind kinds)

-- how many different types there are in a column of them; 0 is nobody's (02, C-15)
unfoldable pub type_count : List ℕ → ℕ
type_count [] = 0
type_count (kind ∷ kinds) = type_count kinds + one (is_new kinds kind)

-- a 1.0 board is listed, and more than 15 different types are, over the columns of types and versions (02, C-15)
unfoldable pub too_many_types : List ℕ → List ℕ → Bool
too_many_types kinds versions = among 1 versions && ltb 15 (type_count kinds)

-- the same with a board of a type and a version, and without the one at a position, 0 for none (02, C-15)
abbrev pub many_in : List ℕ → List ℕ → ℕ → ℕ → ℕ → Bool
many_in kinds versions but kind version = too_many_types (kind ∷ forty (column_with kinds but 0)) (version ∷ forty (column_with versions but 0))

-- as a plain fact of a table: where a 1.0 board is listed there are at most 15 different types (02, C-15)
abbrev pub FewTypes : List Node → Type 0
FewTypes t = (p : ℕ) → (at t p).version ≡ 1 → type_count (kinds_of t) ≤ 15

-- marks for the types that are bytes: 1 for each that is one of these, else 0 (house)
pub record Marks (kinds marks : List ℕ) : Type 0 where
  pub size : length marks ≡ 256
  pub each : (kind : ℕ) → 0 < kind → kind < 256 → get_or marks kind 0 ≡ one (among kind kinds)

-- whether a type is new, by the marks (house)
abbrev pub is_unmarked : List ℕ → ℕ → Bool
is_unmarked marks kind = not (eqb kind 0) && eqb (get_or marks kind 0) 0
