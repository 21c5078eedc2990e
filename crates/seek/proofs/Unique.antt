-- The contracts, as they stand in the source, leave one outcome for each input: one change of whatever coordinator and records it was decided for, and one content of the lent bytes.
use Prim.Native.Nat.{ℕ}
use mathlib.Core.Path.{◌≡◌, sym, ◌∙◌}
use mathlib.Core.List.{List}
use denote.Ref.{Bor, MutBor}
use Rattle.frame.specs.declared.Header.{Header}
use Rattle.board.specs.declared.Node.{Node}
use Rattle.board.specs.declared.Columns.{Columns}
use Rattle.coordinator.specs.declared.Coordinator.{Coordinator}
use Rattle.coordinator.specs.declared.Part.{Part}
use Rattle.look.specs.declared.Seen.{Seen}
use Rattle.look.specs.Seen.{Saw, OfTypes, OfBoards}
use Rattle.change.specs.declared.Change.{Change}
use Rattle.change.specs.Change.{applied}
use Rattle.seek.proofs.discover.Reads as discover
use Rattle.seek.proofs.sought.Reads as sought
use Rattle.seek.proofs.quieted.Reads as quieted

-- what was passed to a discovery, and the same at its exit
abbrev DiscoverArgs : Type 0
DiscoverArgs = Seen × (Bor (List ℕ) × (MutBor (List ℕ) × Unit {0}))

pub unique_discover : (κs : _) (a s t : DiscoverArgs) (r q : Change) → discover.Post κs a r s → discover.Post κs a q t → (p : List ℕ) (c : Coordinator) (u : List Node) → Saw a.0 c u → OfTypes a.1.0.now c u
    → (applied r p c u ≡ applied q p c u) × (s.1.1.0.now ≡ t.1.1.0.now)
unique_discover κs a s t r q h h' = λ p c u saw known. ((h p c u saw known).0 ∙ sym (h' p c u saw known).0, (h p c u saw known).1 ∙ sym (h' p c u saw known).1)

-- and to a frame in the exchange
abbrev SoughtArgs : Type 0
SoughtArgs = Part × (ℕ × (Seen × (Bor Columns × (Header × (Bor (List ℕ) × (MutBor (List ℕ) × Unit {0}))))))

pub unique_sought : (κs : _) (a s t : SoughtArgs) (r q : Change) → sought.Post κs a r s → sought.Post κs a q t → (p : List ℕ) (c : Coordinator) (u : List Node) → Saw a.1.1.0 c u → OfBoards a.1.1.1.0.now c u
    → (applied r p c u ≡ applied q p c u) × (s.1.1.1.1.1.1.0.now ≡ t.1.1.1.1.1.1.0.now)
unique_sought κs a s t r q h h' = λ p c u saw known. ((h p c u saw known).0 ∙ sym (h' p c u saw known).0, (h p c u saw known).1 ∙ sym (h' p c u saw known).1)

pub unique_quieted : (a s t : _) (r q : Change) → quieted.Post tt a r s → quieted.Post tt a q t → (p : List ℕ) (c : Coordinator) (u : List Node) → applied r p c u ≡ applied q p c u
unique_quieted a s t r q h h' = λ p c u. h p c u ∙ sym (h' p c u)
