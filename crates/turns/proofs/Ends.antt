-- A quiet ends the wait.
use Prim.Native.Nat.{ℕ}
use mathlib.Core.Path.{◌≡◌, refl}
use mathlib.Core.Bool.{Bool, true, false, false≢true}
use mathlib.Core.List.{List, []}
use lib.Dec.{ltb}
use Rattle.ground.specs.Choose.{choose}
use Rattle.board.specs.declared.Node.{Node}
use Rattle.board.specs.Table.{at, put}
use Rattle.board.specs.Wanted.{some_listed}
use Rattle.board.specs.Node.{none}
use Rattle.board.specs.Change.{missed, relisted}
use Rattle.coordinator.specs.declared.Coordinator.{Coordinator}
use Rattle.coordinator.specs.declared.Part.{Part}
use Rattle.coordinator.specs.declared.Part.TheVariants.{Search, IdentifyDue, Identify, Present, AssignDue, Assign}
use Rattle.coordinator.specs.declared.Phase.{Phase}
use Rattle.coordinator.specs.declared.Phase.TheVariants.{Resting, Awaiting, ForwardDue, ReturnDue, Seeking, Unknown}
use Rattle.coordinator.specs.Phase.{phase_of, stand_of}
use Rattle.coordinator.specs.Change.{with_phase, holding}
use Rattle.coordinator.proofs.Phases.{resting, seeking, phase_back}
use Rattle.steps.specs.After.{After, accepted, rests}
use Rattle.steps.specs.Seek.{is_waiting, quiet_in_seek}
use Rattle.steps.specs.Turn.{is_awaiting}
use Rattle.steps.specs.Quiet.{missed_at, quiet_value}
use Rattle.series.specs.Series.{is_accepted}

-- the wait is over: the step is accepted, and nothing is waited for then
abbrev pub Over : After → Type 0
Over a = (is_accepted a.says ≡ true) × (is_awaiting (phase_of a.coordinator.stand) ≡ false)

-- at rest nothing is waited for
at_rest : is_awaiting (phase_of (stand_of Resting)) ≡ false
at_rest = rw (phase_back resting) refl

module _ (c : Coordinator) (t : List Node) where
  -- a wait for a board ends, with a miss or without
  ends : (b : ℕ) (a : Bool) → Over (choose a (accepted (with_phase c Resting) t rests []) (missed_at c t b))
  unfolding choose
  ends b true = (refl, at_rest)
  ends b false = go (ltb (at t b).misses 2) (some_listed (put t b none))
    where
      go : (y z : Bool) → Over (choose y (accepted (with_phase c Resting) (put t b (missed (at t b))) rests []) (record { coordinator = choose z (with_phase c Resting) (holding (with_phase c Resting) false); nodes = relisted (put t b none); says = rests; bytes = []; joined = 0; dropped = b }))
      go true z = (refl, at_rest)
      go false true = (refl, at_rest)
      go false false = (refl, at_rest)

  -- so does a wait of the exchange by which a board joins
  seek_ends : (position : ℕ) (part : Part) → is_waiting part ≡ true → Over (quiet_in_seek part position c t)
  seek_ends position Search n = (refl, at_rest)
  seek_ends position IdentifyDue n = absurd (false≢true n)
  seek_ends position Identify n = (refl, rw (phase_back (seeking position AssignDue)) refl)
  seek_ends position Present n = (refl, at_rest)
  seek_ends position AssignDue n = absurd (false≢true n)
  seek_ends position Assign n = (refl, at_rest)

  -- and so whatever is waited for
  pub wait_ends : (p : Phase) → is_awaiting p ≡ true → Over (quiet_value p c t)
  wait_ends Resting n = absurd (false≢true n)
  wait_ends (Awaiting b e q a) n = ends b a
  wait_ends (ForwardDue b q) n = absurd (false≢true n)
  wait_ends (ReturnDue b) n = absurd (false≢true n)
  wait_ends (Seeking p part) n = seek_ends p part n
  wait_ends Unknown n = absurd (false≢true n)
