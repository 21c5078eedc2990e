-- `board::type_count` meets its contract: the marks tell the types passed, and n how many they are.
use Rattle.std.proofs.Common.{◌≡◌, ℕ, ◌+◌, ◌≤◌, List, ◌∷◌, take}
use Rattle.board.specs.Types.{type_count, Marks}
use Rattle.board.proofs.type_count.Given as goal

-- the types passed are marked, and counted
abbrev pub Passed : List ℕ → List ℕ → ℕ → Type 0
Passed kinds marks n = Marks kinds marks × (n ≡ type_count kinds)

abbrev pub invariant-loop-other : goal.invariant-loop-other
invariant-loop-other l = record { few : l.n ≤ l.other-index + 1; passed : Passed (l.kind ∷ take l.other-index l.kinds) l.marks l.n }
