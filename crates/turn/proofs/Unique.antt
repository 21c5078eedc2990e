-- The contract of `turn`, as it stands in the source, leaves one outcome for whatever coordinator and records this was seen of: one change as it is shown, and one content of the lent bytes.
use Prim.Native.Nat.{ℕ}
use mathlib.Core.Path.{◌≡◌, sym, ◌∙◌}
use mathlib.Core.List.{List}
use denote.Ref.{Bor, MutBor}
use Rattle.board.specs.declared.Node.{Node}
use Rattle.board.specs.declared.Columns.{Columns}
use Rattle.coordinator.specs.declared.Coordinator.{Coordinator}
use Rattle.look.specs.declared.Seen.{Seen}
use Rattle.look.specs.Seen.{Saw, OfSent}
use Rattle.change.specs.declared.Change.{Change}
use Rattle.change.specs.Change.{applied}
use Rattle.turn.proofs.turn.Reads as turn

-- what was passed to the step, and the same at its exit: what is seen, the payload, the columns, the output
abbrev Args : Type 0
Args = Seen × (Bor (List ℕ) × (Bor Columns × (MutBor (List ℕ) × Unit {0})))

pub unique_turn : (κs : _) (a s t : Args) (r q : Change) → turn.Post κs a r s → turn.Post κs a q t
    → (p : List ℕ) (c : Coordinator) (u : List Node) → Saw a.0 c u → (a.1.0.now ≡ c.kept.payload) × OfSent a.1.1.0.now c u
    → (applied r p c u ≡ applied q p c u) × (s.1.1.1.0.now ≡ t.1.1.1.0.now)
unique_turn κs a s t r q f g p c u saw known =
    let one = f p c u saw known in
    let other = g p c u saw known in
    (one.0 ∙ sym other.0, one.1 ∙ sym other.1)
