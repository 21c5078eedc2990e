-- Table 3 of 000, section 6.3.2: which types answer a control command, the first before the others.
use Rattle.std.specs.Prelude.{ℕ, List, [], ◌∷◌, eqb}
use Rattle.ground.specs.Choose.{choose}

-- the types that the table names, by its own abbreviations (docs/TRANSCRIPTIONS.md, "Node types")
abbrev pub ifc : ℕ
ifc = 2

abbrev pub ah : ℕ
ah = 3

abbrev pub ac : ℕ
ac = 4

abbrev pub hp : ℕ
hp = 5

abbrev pub xover : ℕ
xover = 9

abbrev pub zc : ℕ
zc = 21

-- a "-" of the table: no type
abbrev pub dash : ℕ
dash = 0

-- the list of a control command code (000, Table 3); a code that has no list names no type
unfoldable pub priority_list : ℕ → List ℕ
priority_list code =
    choose (eqb code 100) (zc ∷ hp ∷ ifc ∷ xover ∷ ah ∷ [])
    (choose (eqb code 101) (zc ∷ hp ∷ ac ∷ xover ∷ ifc ∷ [])
    (choose (eqb code 102) (zc ∷ ah ∷ ifc ∷ xover ∷ dash ∷ [])
    (choose (eqb code 103) (zc ∷ ah ∷ ifc ∷ xover ∷ dash ∷ [])
    (choose (eqb code 104) (zc ∷ ah ∷ ifc ∷ xover ∷ dash ∷ [])
    (choose (eqb code 105) (zc ∷ ah ∷ ifc ∷ xover ∷ dash ∷ [])
    (dash ∷ dash ∷ dash ∷ dash ∷ dash ∷ []))))))
