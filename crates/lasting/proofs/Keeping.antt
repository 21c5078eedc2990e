-- One step keeps fit what was fit, and the setup, whatever comes.
use mathlib.Core.Path.{◌≡◌}
use mathlib.Core.Bool.{Bool, true, false}
use Rattle.coordinator.specs.Fit.{fits}
use Rattle.steps.specs.declared.Event.{Event}
use Rattle.steps.specs.declared.Event.TheVariants.{Join, Turn, Frame, Quiet, Discover}
use Rattle.steps.specs.Step.{step_of}
use Rattle.series.specs.Series.{Input, World, left, is_accepted}
use Rattle.series.specs.Ours.{ours}
use Rattle.lasting.proofs.Keeps.{AsItWas, Keeps}
use Rattle.lasting.proofs.Join.{join_keeps}
use Rattle.lasting.proofs.Turn.{turn_keeps}
use Rattle.lasting.proofs.Receive.{receive_keeps}
use Rattle.lasting.proofs.Quiet.{quiet_keeps}
use Rattle.lasting.proofs.Discover.{discover_keeps}

pub step_keeps : (w : World) (i : Input) → Keeps w.coordinator w.nodes (ours.step w i)
step_keeps w i = go i.event
  where
    go : (e : Event) → Keeps w.coordinator w.nodes (step_of w.coordinator w.nodes e i.received i.room)
    go (Join kind mac session version) = join_keeps w.coordinator w.nodes kind mac session version
    go Turn = turn_keeps w.coordinator w.nodes i.room
    go Frame = receive_keeps w.coordinator w.nodes i.received i.room
    go Quiet = quiet_keeps w.coordinator w.nodes
    go Discover = discover_keeps w.coordinator w.nodes i.room

-- coordinator and table are fit together (01, "Fit")
abbrev pub is_fit : World → Bool
is_fit w = fits w.coordinator w.nodes

-- the two facts by themselves
pub step_fit : (w : World) (i : Input) → is_fit w ≡ true → is_fit (left (ours.step w i)) ≡ true
step_fit w i h = (step_keeps w i).fit h

pub step_setup : (w : World) (i : Input) → (left (ours.step w i)).coordinator.setup ≡ w.coordinator.setup
step_setup w i = (step_keeps w i).setup

-- a step that refuses leaves all as it was
pub step_refused : (w : World) (i : Input) → is_accepted (ours.step w i).says ≡ false → AsItWas w.coordinator w.nodes (ours.step w i)
step_refused w i e = (step_keeps w i).refusal e
