-- The contract, as it stands in the source, leaves one outcome for each input: whatever it was seen of, one change of it and one content of the lent output.
use mathlib.Core.Path.{◌≡◌, sym, ◌∙◌}
use mathlib.Core.List.{List}
use Prim.Native.Nat.{ℕ}
use denote.Ref.{Bor, MutBor}
use Rattle.board.specs.declared.Node.{Node}
use Rattle.board.specs.declared.Columns.{Columns}
use lib.ListN.{length}
use Rattle.coordinator.specs.declared.Coordinator.{Coordinator}
use Rattle.look.specs.declared.Seen.{Seen}
use Rattle.look.specs.Seen.{Sees}
use Rattle.steps.specs.declared.Event.{Event}
use Rattle.change.specs.declared.Change.{Change}
use Rattle.change.specs.Change.{applied}
use Rattle.stepping.specs.Deciding.{Beside}
use Rattle.stepping.proofs.counted.Reads as counted

-- what is passed to the decision beside the count of the records, and the same at its exit
abbrev Given : Type 0
Given = Seen × (Node × (Bor (List ℕ) × (Bor Columns × (Event × (Bor (List ℕ) × (MutBor (List ℕ) × Unit {0}))))))

abbrev received : Given → List ℕ
received a = a.1.1.1.1.1.0.now

abbrev out : Given → List ℕ
out a = a.1.1.1.1.1.1.0.now

pub unique_counted : (κs : _) (a s t : ℕ × Given) (r q : Change) → counted.Post κs a r s → counted.Post κs a q t → (c : Coordinator) (u : List Node) → length u ≡ a.0
    → (a.0 ≡ 40 → Sees a.1.0 a.1.1.1.1.0.now c u × Beside a.1.1.0 a.1.1.1.0.now c u)
    → (applied r (received a.1) c u ≡ applied q (received a.1) c u) × (out s.1 ≡ out t.1)
unique_counted κs a s t r q p p' c u n sees = ((p c u n sees).0 ∙ sym (p' c u n sees).0, (p c u n sees).1 ∙ sym (p' c u n sees).1)
