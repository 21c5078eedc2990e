-- What the change of a transmission shows, by what its writing gave; which transmission is due.
use Prim.Native.Nat.{ℕ, ◌≤◌, ◌<◌}
use native.Mathlib.Omega.{arith}
use mathlib.Core.Path.{◌≡◌, refl, sym, ap, ◌∙◌}
use mathlib.Core.Bool.{false, false≢true}
use mathlib.Core.List.{List, [], ◌∷◌}
use lib.ListN.{length}
use borrow.Author.Tests.{lt-ltb, le-ltb}
use types.Run.{OneOf, miss}
use denote.Enum.Declared.{tag_of}
use Rattle.ground.proofs.Choices.{choose_yes, choose_no}
use Rattle.frame.specs.declared.Header.{Header}
use Rattle.frame.specs.Frame.{Writing}
use Rattle.std.specs.Prelude.{Ok, Err}
use Rattle.board.specs.declared.Node.{Node}
use Rattle.board.specs.Round.{next_listed}
use Rattle.message.specs.Message.{Sends}
use Rattle.coordinator.specs.declared.Coordinator.{Coordinator}
use Rattle.coordinator.specs.declared.Part.{Part}
use Rattle.coordinator.specs.contracts.Part as parts
use Rattle.coordinator.specs.declared.Part.TheVariants.{Search, IdentifyDue, Identify, Present, AssignDue, Assign}
use Rattle.coordinator.specs.declared.Phase.{Phase}
use Rattle.coordinator.specs.contracts.Phase as phase
use Rattle.coordinator.specs.declared.Phase.TheVariants.{Resting, Awaiting, ForwardDue, ReturnDue, Seeking, Unknown}
use Rattle.steps.specs.declared.Answer.{Answer}
use Rattle.steps.specs.After.{After, leaving, told}
use Rattle.steps.specs.Turn.{Due, due_list, due_offer, due_own, due_assign, due_seek, due_in, owed_to, sent}
use Rattle.steps.specs.Seek.{is_waiting}
use Rattle.steps.proofs.Writes.{shown_as, leaves_written}
use Rattle.change.specs.declared.Edit.{Edit}
use Rattle.change.specs.declared.Move.{Move}
use Rattle.change.specs.declared.Change.{Change}
use Rattle.change.specs.Change.{moved, edited_at, applied}
use Rattle.change.proofs.Making.{makes_edit, makes_refusal, made, Shows, shows_as}
use Rattle.turn.specs.Sending.{sending, sent_as}

-- a change, made, shows what a step shows, and the output that was lent holds the step's bytes at its front
abbrev pub Does : After → Change → List ℕ → Coordinator → List Node → List ℕ → List ℕ → Type 0
Does a x p c t before after = Shows a (applied x p c t) before after

-- so it does of an equal transmission
pub does_due : (x : Change) (p : List ℕ) (c : Coordinator) (t : List Node) (before after : List ℕ) {d e : Due} → d ≡ e → Does (sending e c t (length before)) x p c t before after → Does (sending d c t (length before)) x p c t before after
does_due x p c t before after q h = shows_as before after (ap (λ (y : Due). sending y c t (length before)) q) h

-- a writing of the header and payload that are due makes a change that shows what the definition says
module _ (d : Due) (p : List ℕ) (c : Coordinator) (t : List Node) (before after : List ℕ) (small : length d.payload ≤ 240) where
  pub does_sent : (w : Writing) {x : Change} (next : Move) {m : Move} (position : ℕ) (edit : Edit) (answer : Answer) → x ≡ sent_as w next position edit answer → next ≡ m → moved m p c ≡ d.coordinator → edited_at t position edit ≡ d.nodes → told answer ≡ d.says
      → {h : Header} {payload : List ℕ} → Sends h payload w before after → h ≡ d.header → payload ≡ d.payload
      → Does (sending d c t (length before)) x p c t before after
  unfolding sending
  does_sent w {x} next position edit answer e em en et ea sends eh ep = leaves_written d.header d.payload small c t (sent d) refl (made x p c t) before after w (rw (eh, ep) at sends) (as_due w e)
    where
      as_due : (v : Writing) → x ≡ sent_as v next position edit answer → applied x p c t ≡ shown_as v c t (sent d)
      as_due (Ok n) k = makes_edit p c t position edit answer n 0 0 k ∙ (λ i. leaving ((ap (λ (y : Move). moved y p c) em ∙ en) i) (et i) (ea i) n 0 0)
      as_due (Err q) k = makes_refusal p c t q k

module _ (c : Coordinator) (t : List Node) where
  -- the list is due where a position is owed it, an offer where none is
  pub own_list : {n : ℕ} → n ≡ owed_to c t → 0 < n → due_own c t ≡ due_list c t n
  own_list {n} e h = sym (choose_yes _ _ _ _ (lt-ltb 0 (owed_to c t) (omega arith)) (ap (due_list c t) e))

  pub own_offer : {n p : ℕ} → n ≡ owed_to c t → n ≤ 0 → p ≡ next_listed t c.setup.k c.last → due_own c t ≡ due_offer c t p
  own_offer {n} {p} e h q = sym (choose_no _ _ _ _ (le-ltb 0 (owed_to c t) (omega arith)) (ap (due_offer c t) q))

  -- where nothing else is due our own transmission is
  pub own_due : (p : Phase) → OneOf (0 ∷ 1 ∷ 5 ∷ []) (tag_of phase.the_type p) → due_in p c t ≡ due_own c t
  own_due Resting k = refl
  own_due (Awaiting board exchange requester acked) k = refl
  own_due (ForwardDue board requester) k = absurd (miss (0 ∷ 1 ∷ 5 ∷ []) 2 tt k)
  own_due (ReturnDue board) k = absurd (miss (0 ∷ 1 ∷ 5 ∷ []) 3 tt k)
  own_due (Seeking position part) k = absurd (miss (0 ∷ 1 ∷ 5 ∷ []) 4 tt k)
  own_due Unknown k = refl

  -- in the exchange by which a board joins Set Address is due where Get Node ID is not, in a part that does not wait
  pub assign_due : (part : Part) (position : ℕ) → OneOf (0 ∷ 2 ∷ 3 ∷ 4 ∷ 5 ∷ []) (tag_of parts.the_type part) → is_waiting part ≡ false → due_seek part c t position ≡ due_assign c t position
  assign_due Search position k w = absurd (false≢true (sym w))
  assign_due IdentifyDue position k w = absurd (miss (0 ∷ 2 ∷ 3 ∷ 4 ∷ 5 ∷ []) 1 tt k)
  assign_due Identify position k w = absurd (false≢true (sym w))
  assign_due Present position k w = absurd (false≢true (sym w))
  assign_due AssignDue position k w = refl
  assign_due Assign position k w = absurd (false≢true (sym w))
