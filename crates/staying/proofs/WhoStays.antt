-- Demand 3, who stays on the list: at any step of any series a board leaves the list exactly when that step brings its run of unanswered messages to three.
use Prim.Native.Nat.{ℕ}
use mathlib.Core.Path.{◌≡◌, sym, ap}
use mathlib.Core.Bool.{true}
use mathlib.Core.List.{List, [], ◌∷◌}
use Rattle.board.specs.declared.Node.{Node}
use Rattle.board.specs.Node.{is_listed}
use Rattle.coordinator.specs.declared.Coordinator.{Coordinator}
use Rattle.coordinator.specs.Fit.{fits}
use Rattle.steps.specs.declared.Event.{Event}
use Rattle.steps.specs.declared.Event.TheVariants.{Join, Turn, Frame, Quiet, Discover}
use Rattle.steps.specs.Step.{step_of}
use Rattle.series.specs.Series.{Input, World, Fresh, left, after}
use Rattle.series.specs.Observed.{recorded, Seen, nothing, saw, seen}
use Rattle.series.specs.Demand.{WhoStays}
use Rattle.series.specs.Ours.{ours}
use Rattle.lasting.proofs.Keeping.{is_fit, step_fit}
use Rattle.lasting.proofs.Starting.{Started, started}
use Rattle.staying.proofs.Agreement.{Agrees, Told}
use Rattle.staying.proofs.AfterJoin.{join_tells}
use Rattle.staying.proofs.AfterTurn.{turn_tells}
use Rattle.staying.proofs.AfterFrame.{frame_tells}
use Rattle.staying.proofs.AfterQuiet.{quiet_tells}
use Rattle.staying.proofs.AfterDiscover.{discover_tells}

-- any event
event_tells : (s : Seen) (c : Coordinator) (t : List Node) → fits c t ≡ true → Agrees s c t → (event : Event) (b : List ℕ) (room : ℕ) → Told s t event b (step_of c t event b room)
event_tells s c t h g (Join kind mac session version) b room = join_tells s c t h g kind mac session version
event_tells s c t h g Turn b room = turn_tells s c t h g room
event_tells s c t h g Frame b room = frame_tells s c t h g b room
event_tells s c t h g Quiet b room = quiet_tells s c t h g
event_tells s c t h g Discover b room = discover_tells s c t g room

-- a world that is fit, and agrees with what is seen
pub record Holds (s : Seen) (w : World) : Type 0 where
  pub fit : is_fit w ≡ true
  pub agrees : Agrees s w.coordinator w.nodes

-- what a step tells from there
pub step_tells : {s : Seen} {w : World} → Holds s w → (i : Input) → Told s w.nodes i.event i.received (ours.step w i)
step_tells {s} {w} g i = event_tells s w.coordinator w.nodes g.fit g.agrees i.event i.received i.room

-- it holds at a fresh start, where nobody is listed, and after any series of steps
started_holds : {w : World} (k : ℕ) → Started k w → Holds nothing w
started_holds {w} k f = record { fit = f.fit; agrees = record { listed = λ p. ap is_listed (sym (f.free p)); run = λ p l. ap (λ (n : Node). n.misses) (sym (f.free p)); who = λ p l. ap recorded (sym (f.free p)); wait = rw f.phase tt } }

step_holds : {s : Seen} {w : World} → Holds s w → (i : Input) → Holds (saw i (ours.step w i) s) (left (ours.step w i))
step_holds {s} {w} g i = record { fit = step_fit w i g.fit; agrees = (step_tells g i).agrees }

series_holds : (s : Seen) (w : World) → Holds s w → (is : List Input) → Holds (seen ours w s is) (after ours w is)
unfolding seen after
series_holds s w g [] = g
series_holds s w g (i ∷ is) = series_holds (saw i (ours.step w i) s) (left (ours.step w i)) (step_holds g i) is

pub holds : (k : ℕ) (w : World) → Fresh ours k w → (is : List Input) → Holds (seen ours w nothing is) (after ours w is)
holds k w f is = series_holds nothing w (started_holds k (started f)) is

pub who_stays : WhoStays ours
who_stays =
    record {
      told = λ k w f is p. (holds k w f is).agrees.listed p;
      only = λ k w f is i p. (step_tells (holds k w f is) i).only p;
      then = λ k w f is i p. (step_tells (holds k w f is) i).then p;
    }
