-- The contract of `quiet`, as it stands in the source, leaves one change, as it is shown, for whatever coordinator and records this was seen of.
use Prim.Native.Nat.{ℕ}
use mathlib.Core.Path.{◌≡◌, sym, ◌∙◌}
use mathlib.Core.List.{List}
use denote.Ref.{Bor}
use Rattle.board.specs.declared.Node.{Node}
use Rattle.board.specs.Table.{at}
use Rattle.board.specs.Columns.{kinds_of}
use Rattle.coordinator.specs.declared.Coordinator.{Coordinator}
use Rattle.look.specs.declared.Seen.{Seen}
use Rattle.look.specs.Seen.{Saw}
use Rattle.change.specs.declared.Change.{Change}
use Rattle.change.specs.Change.{applied}
use Rattle.quiet.proofs.quiet.Reads as quiet

-- what was passed to the step: what is seen, the record, the types
abbrev Args : Type 0
Args = Seen × (Node × (Bor (List ℕ) × Unit {0}))

pub unique_quiet : (κs : _) (a s t : Args) (r q : Change) → quiet.Post κs a r s → quiet.Post κs a q t
    → (p : List ℕ) (c : Coordinator) (u : List Node) → Saw a.0 c u → (a.1.1.0.now ≡ kinds_of u) × (a.1.0 ≡ at u c.stand.board)
    → applied r p c u ≡ applied q p c u
unique_quiet κs a s t r q f g p c u saw known = f p c u saw known ∙ sym (g p c u saw known)
