-- What the answer tells is what is on the wire (01, "Turn"; 02, C-11 and C-15), as a statement about a panel.
use Rattle.std.specs.Prelude.{ℕ, ◌≡◌, Bool, true, false, ◌&&◌, ◌||◌, List, eqb, leb}
use Rattle.ground.specs.Choose.{choose}
use Rattle.refusal.specs.Refusal.{Told}
use Rattle.frame.specs.Frame.{header_of, ReadsWell}
use Rattle.board.specs.declared.Node.{Node}
use Rattle.board.specs.Table.{at}
use Rattle.setup.specs.declared.Setup.{Setup}
use Rattle.setup.specs.Setup.{address, subnet_of}
use Rattle.coordinator.specs.declared.Coordinator.{Coordinator}
use Rattle.steps.specs.declared.Event.{Event}
use Rattle.steps.specs.declared.Event.TheVariants.{Join, Turn, Frame, Quiet, Discover}
use Rattle.series.specs.Series.{Input, World, Panel, Fresh, after, is_accepted, waited_for, waits_in}

-- a turn or a discovery, the steps that transmit of themselves
abbrev pub is_sending : Event → Bool
is_sending (Join kind mac session version) = false
is_sending Turn = true
is_sending Frame = false
is_sending Quiet = false
is_sending Discover = true

-- the address of the board that an answer names; 0, everybody's, in search and assign (02, C-11)
abbrev pub addressed : Setup → Told → ℕ
addressed s says = choose (eqb (waits_in says) 5 || eqb (waits_in says) 7) 0 (address s (waited_for says))

-- the message types of each exchange: an offer 0, a list 0x14, a forward a request's, a return a response's, Node Discovery 0x79, Get Node ID 0x7B, Set Address 0x7A
abbrev pub is_type_of : ℕ → ℕ → Bool
is_type_of exchange message =
    choose (eqb exchange 1) (eqb message 0)
    (choose (eqb exchange 2) (eqb message 20)
    (choose (eqb exchange 3) (leb 1 message && leb message 127)
    (choose (eqb exchange 4) (leb 129 message)
    (choose (eqb exchange 5) (eqb message 121)
    (choose (eqb exchange 6) (eqb message 123)
    (choose (eqb exchange 7) (eqb message 122) false))))))

-- the subnet of the board that an answer names; in identify that of what was discovered, and 0, everybody's, in search and assign (02, C-15)
abbrev pub reached_in : Coordinator → List Node → Told → ℕ
reached_in c t says =
    choose (eqb (waits_in says) 5 || eqb (waits_in says) 7) 0
    (choose (eqb (waits_in says) 6) (subnet_of c.setup c.found.version) (subnet_of c.setup (at t (waited_for says)).version))

-- bytes that are one good frame in the subnet of whom the answer names, to him, of the type of the exchange that it names
pub record AsTold (c : Coordinator) (t : List Node) (says : Told) (bytes : List ℕ) : Type 0 where
  pub good : ReadsWell (reached_in c t says) bytes
  pub to : (header_of bytes).destination ≡ addressed c.setup says
  pub subnet : (header_of bytes).subnet ≡ reached_in c t says
  pub type : is_type_of (waits_in says) (header_of bytes).message ≡ true

-- so are the bytes of every turn and every discovery that is accepted, in any series
abbrev pub OnTheWire : Panel → Type 0
OnTheWire P =
    (k : ℕ) (w : World) → Fresh P k w → (is : List Input) (i : Input) → is_sending i.event ≡ true → is_accepted (P.step (after P w is) i).says ≡ true → AsTold (P.step (after P w is) i).coordinator (P.step (after P w is) i).nodes (P.step (after P w is) i).says (P.step (after P w is) i).bytes
