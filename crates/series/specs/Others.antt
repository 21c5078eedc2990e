-- Another system's frames on the same line (02, C-14), as a statement about a panel: proved of ours and refuted of ones that hear them.
use Rattle.std.specs.Prelude.{◌≡◌, Bool, true, false, ◌&&◌, ◌||◌, not, List, [], ◌∷◌, ℕ, eqb}
use Rattle.ground.specs.Choose.{choose}
use Rattle.refusal.specs.Refusal.{Told, refuses}
use Rattle.refusal.specs.declared.Refusal.TheVariants.{OtherSubnet}
use Rattle.frame.specs.Frame.{header_of, takes_subnet, reading, ReadsWell}
use Rattle.setup.specs.declared.Setup.{Setup}
use Rattle.setup.specs.Setup.{old_subnet}
use Rattle.steps.specs.declared.Event.{Event}
use Rattle.steps.specs.declared.Event.TheVariants.{Join, Turn, Frame, Quiet, Discover}
use Rattle.steps.specs.After.{After}
use Rattle.series.specs.Series.{Input, World, Panel, Fresh, after}
use Rattle.series.specs.Observed.{nothing, seen}

-- bytes received, and no other step
abbrev pub is_frame : Event → Bool
is_frame (Join kind mac session version) = false
is_frame Turn = false
is_frame Frame = true
is_frame Quiet = false
is_frame Discover = false

-- bytes of another system: "any frame whose subnet byte is neither ours nor 0" (02, C-14), nor that of 1.0 boards (02, C-15)
abbrev pub is_others : Setup → Input → Bool
is_others s i = is_frame i.event && not (takes_subnet s.subnet (header_of i.received).subnet || eqb (header_of i.received).subnet old_subnet)

-- a series without them
unfoldable pub without_others : Setup → List Input → List Input
without_others s [] = []
without_others s (i ∷ is) = choose (is_others s i) (without_others s is) (i ∷ without_others s is)

-- what a step leaves that says this and does nothing: coordinator and records as they were, no byte written, nobody joined, nobody dropped
abbrev pub only_says : Told → World → After
only_says says w = record { coordinator = w.coordinator; nodes = w.nodes; says = says; bytes = []; joined = 0; dropped = 0 }

-- "The coordinator doesn't count them as hearing a board" (02, C-14). At any moment of any series such bytes are answered with what the reader says of them, and with nothing else: 24 where they read well in their own subnet.
-- So a series with them leaves what it leaves without them, and an observer sees the same: who is listed, who is waited for, and each run of unanswered messages.
pub record OthersUnheard (P : Panel) : Type 0 where
  pub refused : (k : ℕ) (w : World) → Fresh P k w → (is : List Input) (i : Input) → is_others (after P w is).coordinator.setup i ≡ true → P.step (after P w is) i ≡ only_says (reading (after P w is).coordinator.setup.subnet i.received) (after P w is)
  pub number : (k : ℕ) (w : World) → Fresh P k w → (is : List Input) (i : Input) → is_others (after P w is).coordinator.setup i ≡ true → ReadsWell (header_of i.received).subnet i.received → (P.step (after P w is) i).says ≡ refuses OtherSubnet
  pub same : (k : ℕ) (w : World) → Fresh P k w → (is : List Input) → after P w is ≡ after P w (without_others w.coordinator.setup is)
  pub sees : (k : ℕ) (w : World) → Fresh P k w → (is : List Input) → seen P w nothing is ≡ seen P w nothing (without_others w.coordinator.setup is)
