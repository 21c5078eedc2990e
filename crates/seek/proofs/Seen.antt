-- What the steps of the exchange take from what was seen: the lowest free position, whether a discovery is held back, the coordinator at rest, who is heard.
use Prim.Native.Nat.{ℕ, ◌-◌}
use mathlib.Core.Path.{◌≡◌, refl, sym, ap, ◌∙◌}
use mathlib.Core.Bool.{Bool, true, false, ◌&&◌}
use mathlib.Core.List.{List}
use lib.Dec.{eqb, ltb}
use lib.ListN.{set}
use lib.Seq.{set-get_or}
use borrow.Author.Tests.{ltb-true, ltb-false}
use Rattle.ground.specs.Choose.{choose}
use Rattle.board.specs.declared.Node.{Node}
use Rattle.board.specs.declared.Wanted.TheVariants.{Free}
use Rattle.board.specs.Node.{none}
use Rattle.board.specs.Table.{at, put, listed_at}
use Rattle.board.specs.Change.{heard}
use Rattle.board.specs.Wanted.{lowest_of}
use Rattle.board.specs.Columns.{kinds_of, mac_of, macs_of, typed}
use Rattle.board.proofs.Positions.{at_position, put_position, put_zero}
use Rattle.board.proofs.LowestWanted.{some_highest}
use Rattle.board.proofs.SameKinds.{kinds_free}
use Rattle.board.proofs.Column.{column_of}
use Rattle.coordinator.specs.declared.State.{State}
use Rattle.coordinator.specs.declared.Coordinator.{Coordinator}
use Rattle.coordinator.specs.Change.{ended}
use Rattle.coordinator.specs.State.{state_of, stated}
use Rattle.coordinator.proofs.Fitting.{fits_forty}
use Rattle.coordinator.proofs.Changing.{ended_fits}
use Rattle.look.specs.declared.Seen.{Seen}
use Rattle.look.specs.Seen.{Saw}
use Rattle.look.proofs.Seeing.{fit_blanks, kinds_seen}
use Rattle.steps.specs.declared.Answer.{Answer}
use Rattle.steps.specs.After.{leaving, told}
use Rattle.steps.specs.Discover.{free_place, is_held_back}
use Rattle.steps.specs.Hear.{hear, hear_mac}
use Rattle.change.specs.declared.Edit.{Edit}
use Rattle.change.specs.declared.Edit.TheVariants.{Nothing, Heard}
use Rattle.change.specs.declared.Move.{Move}
use Rattle.change.specs.declared.Change.{Change}
use Rattle.change.specs.Change.{moved, changing, edited_at, applied}
use Rattle.change.proofs.Making.{makes_edit}
use Rattle.seek.specs.Parts.{held_back_in, hearing}

-- a record put back where it stands
put_back : (t : List Node) (p : ℕ) → put t p (at t p) ≡ t
put_back t p = go (ltb 0 p) refl
  where
    go : (b : Bool) → ltb 0 p ≡ b → put t p (at t p) ≡ t
    go true h = put_position t p _ (ltb-true 0 p h) ∙ ap (set t (p - 1)) (at_position t p (ltb-true 0 p h)) ∙ set-get_or t (p - 1) none
    go false h = put_zero t p _ (ltb-false 0 p h)

module _ {s : Seen} {c : Coordinator} {t : List Node} (saw : Saw s c t) where
  pub free_seen : {kinds : List ℕ} {n : ℕ} → kinds ≡ kinds_of t → n ≡ lowest_of (typed kinds) Free s.setup.k → n ≡ free_place c t
  free_seen e h = h ∙ rw saw.setup (kinds_free (kinds_seen saw e) c.setup.k)

  pub held_seen : {b : Bool} → b ≡ held_back_in s.state s.top → b ≡ is_held_back c t
  held_seen h = h ∙ rw (saw.state, saw.top, some_highest t) refl

  -- the same was seen of the coordinator at rest
  pub saw_ended : {next : State} → next ≡ state_of (ended (stated s.state)) → Saw (record { setup = s.setup; state = next; ok = s.ok; top = s.top; owed = s.owed }) (ended c) t
  saw_ended h = record { fit = ended_fits c t saw.fit; setup = saw.setup; state = h ∙ ap (λ (x : State). state_of (ended (stated x))) saw.state; top = saw.top; owed = saw.owed }

  -- a board is heard where the MAC is its own; where nobody is listed the record is blank, and hearing it changes nothing
  hear_seen : {macs : List ℕ} (position mac : ℕ) → macs ≡ macs_of t → edited_at t position (hearing macs position mac) ≡ hear_mac t position mac
  unfolding choose
  hear_seen position mac e = rw (e, column_of mac_of refl t (fits_forty c t saw.fit) position) (go (eqb (at t position).mac mac) (listed_at t position) refl)
    where
      go : (b l : Bool) → listed_at t position ≡ l → edited_at t position (choose b Heard Nothing) ≡ choose (l && b) (hear t position) t
      go true true h = refl
      go true false h = ap (put t position) (ap heard (fit_blanks c t saw.fit position h) ∙ sym (fit_blanks c t saw.fit position h)) ∙ put_back t position
      go false true h = put_back t position
      go false false h = put_back t position

  -- so the change that hears it shows it heard, whatever becomes of the coordinator
  pub makes_heard : (p : List ℕ) (d : Coordinator) {m : Move} {macs : List ℕ} (position mac : ℕ) → macs ≡ macs_of t → {edit : Edit} → edit ≡ hearing macs position mac → (a : Answer) {x : Change} → x ≡ changing m position edit false a 0 0 0
      → applied x p d t ≡ leaving (moved m p d) (hear_mac t position mac) (told a) 0 0 0
  makes_heard p d {m} position mac known {edit} e a h =
      makes_edit p d t position edit a 0 0 0 h ∙
      ap (λ (u : List Node). leaving (moved m p d) u (told a) 0 0 0) (ap (edited_at t position) e ∙ hear_seen position mac known)
