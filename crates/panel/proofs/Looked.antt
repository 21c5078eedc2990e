-- What was seen where coordinator and records stand, what was decided on it, and the change made there, are the step.
use Prim.Native.Nat.{ℕ}
use mathlib.Core.Path.{◌≡◌, refl, sym, ap, ◌∙◌}
use mathlib.Core.List.{List}
use lib.ListN.{length}
use Rattle.ground.specs.Bytes.{laid}
use Rattle.board.specs.declared.Node.{Node}
use Rattle.board.specs.declared.Columns.{Columns}
use Rattle.board.specs.Table.{at}
use Rattle.coordinator.specs.declared.State.{State}
use Rattle.coordinator.specs.declared.Coordinator.{Coordinator}
use Rattle.coordinator.specs.State.{state_of}
use Rattle.look.specs.declared.Seen.{Seen}
use Rattle.look.specs.Seen.{Sees}
use Rattle.look.specs.Digest.{zeroed, digest_all, noted_in}
use Rattle.look.proofs.Digests.{digest_columned}
use Rattle.steps.specs.declared.Event.{Event}
use Rattle.steps.specs.After.{shows}
use Rattle.steps.specs.Step.{step_of}
use Rattle.change.specs.declared.Change.{Change}
use Rattle.change.specs.Change.{changed_from, amended}
use Rattle.change.proofs.Making.{changed_from_lem}
use Rattle.stepping.specs.Deciding.{DecidesCounted}
use Rattle.lent.specs.Lent.{in_place}

-- what `look` says
abbrev pub LookSaid : Coordinator → List Node → Seen → Columns → Type 0
LookSaid h ys s columns = (s.setup ≡ h.setup) × ((s.state ≡ state_of h) × (noted_in s columns ≡ digest_all h.setup.k ys zeroed))

-- forty records were seen
looked_at : (h : Coordinator) (ys : List Node) (s : Seen) (columns : Columns) → LookSaid h ys s columns → length ys ≡ 40 → Sees s columns h ys
looked_at h ys s columns said forty =
    let noted = digest_columned s h.setup.k ys (noted_in s columns) forty said.1.1 in
    record { forty = forty; setup = said.0; state = said.1.0; each = noted.0; columned = λ ok. noted.1 (sym noted.0 ∙ ok) refl refl }

pub stepped_in_place : (h : Coordinator) (ys : List Node) (e : Event) (b out : List ℕ) (s : Seen) (columns : Columns) (y : Node) (p : List ℕ) (x : Change) (k : Coordinator) (us : List Node) (after : List ℕ)
    → LookSaid h ys s columns → y ≡ at ys s.state.stand.board → p ≡ h.kept.payload → DecidesCounted (length ys) s y p columns e b x out after
    → (k ≡ changed_from s.state x b h) × (us ≡ amended x ys)
    → (in_place x.outcome k us ≡ shows (step_of h ys e b (length out))) × (after ≡ laid (step_of h ys e b (length out)).bytes out)
stepped_in_place h ys e b out s columns y p x k us after said ey ep decides made =
    let decided = decides h ys refl (λ forty. (looked_at h ys s columns said forty, (ey ∙ ap (λ (st : State). at ys st.stand.board) said.1.0, ep))) in
    ((λ i. in_place x.outcome ((made.0 ∙ changed_from_lem x b h said.1.0) i) (made.1 i)) ∙ decided.0, decided.1)
