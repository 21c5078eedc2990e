-- The contract of `receive`, as it stands in the source, leaves one outcome for each input: whatever was seen and is known so, one change of it, and one content of the lent bytes.
use Prim.Native.Nat.{ℕ}
use mathlib.Core.Path.{◌≡◌, sym, ◌∙◌}
use mathlib.Core.List.{List}
use denote.Ref.{Bor, MutBor}
use Rattle.board.specs.declared.Node.{Node}
use Rattle.board.specs.declared.Columns.{Columns}
use Rattle.board.specs.Table.{at}
use Rattle.coordinator.specs.declared.Coordinator.{Coordinator}
use Rattle.look.specs.declared.Seen.{Seen}
use Rattle.look.specs.Seen.{Saw, OfBoards}
use Rattle.change.specs.declared.Change.{Change}
use Rattle.change.specs.Change.{applied}
use Rattle.receive.proofs.receive.Reads as receive

-- what it was passed, and the same at its exit
abbrev Args : Type 0
Args = Seen × (Node × (Bor Columns × (Bor (List ℕ) × (MutBor (List ℕ) × Unit {0}))))

abbrev received : Args → List ℕ
received a = a.1.1.1.0.now

abbrev out : Args → List ℕ
out a = a.1.1.1.1.0.now

-- what is known of coordinator and records
abbrev Known : Args → Coordinator → List Node → Type 0
Known a c t = OfBoards a.1.1.0.now c t × (a.1.0 ≡ at t c.stand.board)

pub unique_receive : (κs : _) (a s t : Args) (r q : Change) → receive.Post κs a r s → receive.Post κs a q t → (c : Coordinator) (u : List Node) → Saw a.0 c u → Known a c u → (applied r (received a) c u ≡ applied q (received a) c u) × (out s ≡ out t)
unique_receive κs a s t r q p p' c u saw known = ((p c u saw known).0 ∙ sym (p' c u saw known).0, (p c u saw known).1 ∙ sym (p' c u saw known).1)
