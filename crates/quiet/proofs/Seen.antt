-- What a quiet takes from what was seen: whether joins stay held once a position is cleared.
use Prim.Native.Nat.{ℕ}
use mathlib.Core.Path.{◌≡◌, refl}
use mathlib.Core.Bool.{Bool, true, false, ◌&&◌, ◌||◌, not}
use mathlib.Core.List.{List}
use lib.Dec.{eqb, ltb}
use Rattle.ground.specs.Choose.{choose}
use Rattle.board.specs.declared.Node.{Node}
use Rattle.board.specs.declared.Wanted.TheVariants.{Listed}
use Rattle.board.specs.Node.{none}
use Rattle.board.specs.Table.{put}
use Rattle.board.specs.Wanted.{lowest_of, some_listed}
use Rattle.board.specs.Columns.{kinds_of, typed}
use Rattle.board.proofs.SameKinds.{kinds_first}
use Rattle.board.proofs.Cleared.{others_left}
use Rattle.coordinator.specs.declared.Coordinator.{Coordinator}
use Rattle.coordinator.specs.declared.Phase.TheVariants.{Resting}
use Rattle.coordinator.specs.Change.{with_phase, holding}
use Rattle.coordinator.proofs.Fitting.{fits_forty}
use Rattle.look.specs.declared.Seen.{Seen}
use Rattle.look.specs.Seen.{Saw}
use Rattle.look.proofs.Seeing.{kinds_seen}
use Rattle.steps.specs.Quiet.{still_held}
use Rattle.change.specs.declared.Move.{Move}
use Rattle.change.specs.declared.Move.TheVariants.{To, Emptied}
use Rattle.change.specs.Change.{moved}

-- joins are held on or not, by whether anybody is left
still_moved : (p : List ℕ) (c : Coordinator) (listed : Bool) → moved (choose listed (To Resting) Emptied) p c ≡ choose listed (with_phase c Resting) (holding (with_phase c Resting) false)
unfolding choose
still_moved p c true = refl
still_moved p c false = refl

module _ {s : Seen} {c : Coordinator} {t : List Node} (saw : Saw s c t) where
  -- the coordinator moves to the one that is left
  pub still_seen : {kinds : List ℕ} → kinds ≡ kinds_of t → (board : ℕ) (p : List ℕ) {m : Move} {n : ℕ} {others : Bool} → n ≡ lowest_of (typed kinds) Listed 40 → others ≡ (ltb 0 s.top && (not (eqb s.top board) || not (eqb n board))) → m ≡ choose others (To Resting) Emptied
      → moved m p c ≡ still_held (with_phase c Resting) (put t board none)
  still_seen known board p l o h = rw (h, o, l, kinds_first (kinds_seen saw known) 40, saw.top, others_left t (fits_forty c t saw.fit) board) (still_moved p c (some_listed (put t board none)))
