-- What a change makes of coordinator and records.
use Prim.Native.Nat.{ℕ}
use native.Mathlib.Omega.{arith}
use mathlib.Core.Path.{◌≡◌, refl, sym, ap, subst, ◌∙◌}
use mathlib.Core.Bool.{Bool, true, false}
use mathlib.Core.List.{List}
use lib.ListN.{length}
use Rattle.ground.specs.Choose.{choose}
use Rattle.ground.specs.Bytes.{laid}
use Rattle.refusal.specs.declared.Refusal.{Refusal}
use Rattle.board.specs.declared.Node.{Node}
use Rattle.board.specs.Index.{Numbered}
use Rattle.board.specs.Change.{owe_all, relisted}
use Rattle.board.proofs.Positions.{put_zero}
use Rattle.board.proofs.Changes.{put_length}
use Rattle.board.proofs.Numbered.{relisted_again}
use Rattle.coordinator.specs.declared.State.{State}
use Rattle.coordinator.specs.declared.Coordinator.{Coordinator}
use Rattle.coordinator.specs.State.{state_of, stated, composed}
use Rattle.coordinator.specs.Change.{ended}
use Rattle.steps.specs.declared.Answer.{Answer}
use Rattle.steps.specs.declared.Answer.TheVariants.{Refuse}
use Rattle.steps.specs.declared.Stepped.{Stepped}
use Rattle.steps.specs.After.{After, Shown, leaving, told, refused, shows}
use Rattle.change.specs.declared.Edit.{Edit}
use Rattle.change.specs.declared.Edit.TheVariants.{Nothing}
use Rattle.change.specs.declared.Move.{Move}
use Rattle.change.specs.declared.Move.TheVariants.{Stay, To, Offered, Held, Emptied, Keeping, Searching, Finding}
use Rattle.change.specs.declared.Change.{Change}
use Rattle.change.specs.Change.{rested, moved, keeps, changing, ending, changed, changed_from, kept_bytes, keepable, edited_at, amended, applied}

module _ (b : List ℕ) (c : Coordinator) (t : List Node) {m : Move} (position : ℕ) (e : Edit) (a : Answer) (written joined dropped : ℕ) where
  -- one record edited
  pub makes_edit : {x : Change} → x ≡ changing m position e false a written joined dropped → applied x b c t ≡ leaving (moved m b c) (edited_at t position e) (told a) written joined dropped
  unfolding choose
  makes_edit h = rw h refl

  -- and who is listed, or as what, another than before
  pub makes_relisted : {x : Change} → x ≡ changing m position e true a written joined dropped → applied x b c t ≡ leaving (moved m b c) (relisted (edited_at t position e)) (told a) written joined dropped
  unfolding choose
  makes_relisted h = rw h refl

  -- where stored is counted afterwards, the list owed to all and nothing else
  pub makes_owed : {x : Change} → length t ≡ 40 → Numbered (edited_at t position e) → x ≡ changing m position e true a written joined dropped → applied x b c t ≡ leaving (moved m b c) (owe_all (edited_at t position e)) (told a) written joined dropped
  makes_owed forty stored h = makes_relisted h ∙ ap (λ (u : List Node). leaving (moved m b c) u (told a) written joined dropped) (relisted_again (edited_at t position e) (put_length t position _ ∙ forty) stored)

-- no record edited
pub edits_none : (t : List Node) (e : Edit) → edited_at t 0 e ≡ t
edits_none t e = put_zero t 0 _ (omega arith)

pub makes_none : (b : List ℕ) (c : Coordinator) (t : List Node) {m : Move} (e : Edit) (a : Answer) (written joined dropped : ℕ) {x : Change} → x ≡ changing m 0 e false a written joined dropped → applied x b c t ≡ leaving (moved m b c) t (told a) written joined dropped
makes_none b c t {m} e a written joined dropped h = makes_edit b c t 0 e a written joined dropped h ∙ ap (λ (u : List Node). leaving (moved m b c) u (told a) written joined dropped) (edits_none t e)

-- a refusal makes nothing of them
pub makes_refusal : (b : List ℕ) (c : Coordinator) (t : List Node) (r : Refusal) {x : Change} → x ≡ changing Stay 0 Nothing false (Refuse r) 0 0 0 → applied x b c t ≡ shows (refused c t r)
makes_refusal b c t r h = makes_none b c t Nothing (Refuse r) 0 0 0 h

-- a change once an exchange is over is the change of the coordinator whose exchange is over
pub makes_ended : (b : List ℕ) (c : Coordinator) (t : List Node) (x : Change) {y : Change} → y ≡ ending x → applied y b c t ≡ applied x b (ended c) t
unfolding choose
makes_ended b c t x h = rw h (λ i. leaving (moved x.moves b (again x.ended i)) (amended x t) (told x.outcome.answer) x.outcome.written x.outcome.joined x.outcome.dropped)
  where
    again : (over : Bool) → ended c ≡ choose over (ended (ended c)) (ended c)
    again true = refl
    again false = refl

-- each move is the same on the state alone
moved_state : (m : Move) (is_over : Bool) (b : List ℕ) (c : Coordinator) → composed c.setup (state_of (moved m b (rested is_over (stated (state_of c))))) (choose (keeps m) (kept_bytes (keepable b)) c.kept.payload) ≡ moved m b (rested is_over c)
unfolding choose
moved_state Stay true b c = refl
moved_state Stay false b c = refl
moved_state (To phase) true b c = refl
moved_state (To phase) false b c = refl
moved_state (Offered board) true b c = refl
moved_state (Offered board) false b c = refl
moved_state Held true b c = refl
moved_state Held false b c = refl
moved_state Emptied true b c = refl
moved_state Emptied false b c = refl
moved_state (Keeping phase) true b c = refl
moved_state (Keeping phase) false b c = refl
moved_state (Searching position) true b c = refl
moved_state (Searching position) false b c = refl
moved_state (Finding found position) true b c = refl
moved_state (Finding found position) false b c = refl

-- so the coordinator that is made of its state is the one that the change leaves
pub changed_from_lem : (x : Change) (b : List ℕ) (c : Coordinator) {s : State} → s ≡ state_of c → changed_from s x b c ≡ changed x b c
changed_from_lem x b c e = rw e (moved_state x.moves x.ended b c)

-- a change, made, is a step: what holds of what a step leaves holds of it
abbrev pub made : Change → List ℕ → Coordinator → List Node → Stepped
made x b c t = record { coordinator = changed x b c; table = record { nodes = amended x t }; outcome = x.outcome }

-- what is shown, and what the output that was lent holds, is what a step leaves
abbrev pub Shows : After → Shown → List ℕ → List ℕ → Type 0
Shows a s before after = (s ≡ shows a) × (after ≡ laid a.bytes before)

-- which may be said by any equal definition
pub shows_as : (before after : List ℕ) {s : Shown} {a b : After} → a ≡ b → Shows b s before after → Shows a s before after
shows_as before after {s} e h = subst (λ (x : After). Shows x s before after) (sym e) h
