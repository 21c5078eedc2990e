-- Demand 3, sentence by sentence (00, demand 3), as statements about a panel. Each is proved of ours and refuted of wrong ones.
use Rattle.std.specs.Prelude.{ℕ, ◌+◌, ◌*◌, ◌≤◌, ◌≡◌, ◌⊎◌, true, false, List, [], length}
use Rattle.ground.specs.Below.{among}
use Rattle.refusal.specs.Refusal.{refuses}
use Rattle.refusal.specs.declared.Refusal.TheVariants.{StateUnfit, NotWaiting}
use Rattle.board.specs.Table.{at, listed_at}
use Rattle.board.specs.declared.Wanted.TheVariants.{Owed}
use Rattle.board.specs.Node.{is_kind, is_mac}
use Rattle.board.specs.Wanted.{lowest_of, some_listed}
use Rattle.setup.specs.Setup.{is_pool, address}
use Rattle.coordinator.specs.declared.Phase.TheVariants.{Resting}
use Rattle.coordinator.specs.Phase.{phase_of}
use Rattle.steps.specs.declared.Event.TheVariants.{Join, Turn, Frame, Quiet}
use Rattle.steps.specs.After.{rests}
use Rattle.steps.specs.Join.{known, chosen, too_many_with}
use Rattle.series.specs.Series.{Input, World, Panel, left, Fresh, after, is_accepted, waited_for, offers, accepted, stays}
use Rattle.series.specs.Observed.{nothing, saw, seen}

-- position p is on the list before step i of the series and off it after
abbrev pub Leaves : Panel → World → List Input → Input → ℕ → Type 0
Leaves P w is i p = (listed_at (after P w is).nodes p ≡ true) × (listed_at (P.step (after P w is) i).nodes p ≡ false)

-- step i of the series brings the run of unanswered messages to position p from two to three
abbrev pub Third : Panel → World → List Input → Input → ℕ → Type 0
Third P w is i p = ((seen P w nothing is).run p ≡ 2) × ((saw i (P.step (after P w is) i) (seen P w nothing is)).run p ≡ 3)

-- "A board leaves the list exactly when three messages to it in a row went unanswered since it last joined or was last heard."
-- At any step of any series: position p leaves the list exactly when that step brings its run of unanswered messages to three.
-- And the list that the answers tell of is the panel's.
pub record WhoStays (P : Panel) : Type 0 where
  pub told : (k : ℕ) (w : World) → Fresh P k w → (is : List Input) (p : ℕ) → (seen P w nothing is).listed p ≡ listed_at (after P w is).nodes p
  pub only : (k : ℕ) (w : World) → Fresh P k w → (is : List Input) (i : Input) (p : ℕ) → Leaves P w is i p → Third P w is i p
  pub then : (k : ℕ) (w : World) → Fresh P k w → (is : List Input) (i : Input) (p : ℕ) → Third P w is i p → Leaves P w is i p

-- "No two listed boards share an address or a MAC."
pub record NoTwoAlike (P : Panel) : Type 0 where
  pub addresses : (k : ℕ) (w : World) → Fresh P k w → (is : List Input) (p q : ℕ) → listed_at (after P w is).nodes p ≡ true → listed_at (after P w is).nodes q ≡ true → address (after P w is).coordinator.setup p ≡ address (after P w is).coordinator.setup q → p ≡ q
  pub macs : (k : ℕ) (w : World) → Fresh P k w → (is : List Input) (p q : ℕ) → listed_at (after P w is).nodes p ≡ true → listed_at (after P w is).nodes q ≡ true → (at (after P w is).nodes p).mac ≡ (at (after P w is).nodes q).mac → p ≡ q

-- No step of such a series is refused 22.
abbrev pub FitForEver : Panel → Type 0
FitForEver P = (k : ℕ) (w : World) → Fresh P k w → (is : List Input) (i : Input) → (P.step (after P w is) i).says ≡ refuses StateUnfit → ⊥

-- "A board that stays listed is among any k offers made one after another": from any moment of the series on, whatever stands between the offers
abbrev pub RoundRobin : Panel → Type 0
RoundRobin P =
    (k : ℕ) (w : World) → Fresh P k w → (is js : List Input) (p : ℕ) → stays P (after P w is) js p ≡ true → k ≤ length (offers P (after P w is) js) → among p (offers P (after P w is) js) ≡ true

-- the accepted steps within which it is offered the bus: k times (2k² + 2k + 8), with the six of an exchange by which a board joins added to the 8 (02, C-11)
abbrev pub bound : ℕ → ℕ
bound k = k * (2 * (k * k) + 2 * k + 14)

-- "and is offered the bus within k times (2k² + 2k + 8) accepted steps, counted from any moment", 8 become 14 (02, C-11)
abbrev pub Bounded : Panel → Type 0
Bounded P =
    (k : ℕ) (w : World) → Fresh P k w → (is js : List Input) (p : ℕ) → stays P (after P w is) js p ≡ true → bound k ≤ accepted P (after P w is) js → among p (offers P (after P w is) js) ≡ true

-- a join; a frame; a turn, and a quiet, with this room
abbrev pub join_with : ℕ → ℕ → ℕ → ℕ → Input
join_with kind mac session version = record { event = Join kind mac session version; received = []; room = 0 }

abbrev pub frame_with : List ℕ → ℕ → Input
frame_with received room = record { event = Frame; received = received; room = room }

abbrev pub turn_with : ℕ → Input
turn_with room = record { event = Turn; received = []; room = room }

abbrev pub quiet_with : ℕ → Input
quiet_with room = record { event = Quiet; received = []; room = room }

-- a turn that transmits: it writes a frame and waits for a board
abbrev pub Transmits : Panel → World → ℕ → Type 0
Transmits P w room = (12 ≤ length (P.step w (turn_with room)).bytes) × (1 ≤ waited_for (P.step w (turn_with room)).says)

-- a quiet that ends the wait: it is accepted, and another finds no wait to end
abbrev pub EndsWait : Panel → World → ℕ → Type 0
EndsWait P w room = (is_accepted (P.step w (quiet_with room)).says ≡ true) × ((P.step (left (P.step w (quiet_with room))) (quiet_with room)).says ≡ refuses NotWaiting)

-- "While anyone is listed, the panel, lent room for a frame, can make its next transmission or end its wait": a frame takes at most 252 bytes
abbrev pub NeverStuck : Panel → Type 0
NeverStuck P =
    (k : ℕ) (w : World) → Fresh P k w → (is : List Input) (room : ℕ) → 252 ≤ room → some_listed (after P w is).nodes ≡ true → Transmits P (after P w is) room ⊎ EndsWait P (after P w is) room

-- The statements above hold of a panel to which nothing ever happens; these two say that ours is none.

-- every pool and MAC that the rules allow give a fresh start, for every k from 1 to 40 (01, "Setup takes a pool of k addresses, k from 1 to 40")
abbrev pub Starts : Panel → Type 0
Starts P =
    (w : World) (addresses : List ℕ) (subnet internal mac session : ℕ) → length w.nodes ≡ 40 → is_pool addresses ≡ true → is_mac mac ≡ true → (P.start w addresses subnet internal mac session).says ≡ rests

-- a join that the rules allow: type and MAC in their ranges, at rest, nothing owed, not held, not too many types, and a free position or a listed MAC (01, "Join" and numbers 12 to 16; 02, C-15)
pub record Allowed (w : World) (kind mac version : ℕ) : Type 0 where
  pub kind_fits : is_kind kind ≡ true
  pub mac_fits : is_mac mac ≡ true
  pub rest : phase_of w.coordinator.stand ≡ Resting
  pub nothing_owed : lowest_of w.nodes Owed w.coordinator.setup.k ≡ 0
  pub not_held : w.coordinator.held ≡ 0
  pub few_types : too_many_with w.nodes (known w.nodes w.coordinator.setup.k mac) kind version ≡ false
  pub place : 1 ≤ chosen w.nodes w.coordinator.setup.k mac

-- such a join is accepted, and names its position
abbrev pub TakesJoins : Panel → Type 0
TakesJoins P =
    (k : ℕ) (w : World) → Fresh P k w → (is : List Input) (kind mac session version : ℕ) → Allowed (after P w is) kind mac version → ((P.step (after P w is) (join_with kind mac session version)).says ≡ rests) × ((P.step (after P w is) (join_with kind mac session version)).joined ≡ chosen (after P w is).nodes (after P w is).coordinator.setup.k mac)
