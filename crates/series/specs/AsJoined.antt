-- Who is where is what the last joins told (02, C-12), as a statement about a panel: proved of ours and refuted of one that keeps the old type.
use Rattle.std.specs.Prelude.{ℕ, ◌≡◌, Bool, true, ◌||◌, List, map, eqb}
use Rattle.ground.specs.Choose.{choose}
use Rattle.ground.specs.Below.{up_from}
use Rattle.refusal.specs.Refusal.{Told}
use Rattle.frame.specs.declared.Header.{Header}
use Rattle.frame.specs.Frame.{header_of, payload_of}
use Rattle.board.specs.declared.Node.{Node}
use Rattle.board.specs.Node.{none}
use Rattle.board.specs.Table.{at, listed_at}
use Rattle.board.specs.Wanted.{index_of}
use Rattle.board.specs.Change.{joined_node}
use Rattle.nodelist.specs.List.{list_for}
use Rattle.routing.specs.Route.{route_of}
use Rattle.accept.specs.Accept.{request_type}
use Rattle.series.specs.Series.{Input, World, Panel, left, Fresh, after, is_accepted, waited_for, waits_in}
use Rattle.series.specs.Observed.{Seen, recorded, nothing, seen}
use Rattle.series.specs.Demand.{turn_with, frame_with}

-- the records as an observer could write them down: each listed board as its last join told it, with no session
abbrev pub noted_at : Seen → ℕ → Node
noted_at s p = choose (s.listed p) (joined_node (s.who p).kind (s.who p).mac 0 (s.who p).version) none

unfoldable pub noted : Seen → List Node
noted s = map (noted_at s) (up_from 1 40)

-- an answer that waits in an offer or a list, whose frames carry the board's index (01, "Turn": "Own frames")
abbrev pub is_own : Told → Bool
is_own says = eqb (waits_in says) 1 || eqb (waits_in says) 2

-- the board to which a turn forwards a request, 0 where it forwards none: an answer that waits in exchange 3, the forward
abbrev pub forwarded_to : Told → ℕ
forwarded_to says = choose (eqb (waits_in says) 3) (waited_for says) 0

-- where a request of the board that is waited for goes, by the types that the joins told (000, 6.3)
abbrev pub destined : Seen → ℕ → Header → ℕ
destined s k h = route_of (noted s) k s.awaited h.method h.parameter1

-- "Demands 2 and 3 read the same, with the type taken from the last join" (02, C-12). After any series the type, the version and the MAC at each listed position are those of the board's last join;
-- and so are the bytes of a list that goes out, in the form of the version of the board to which it goes (02, C-15), the index in an offer or a list, and where a request goes: the board to which the next turn forwards it, or none where it is discarded.
pub record AsJoined (P : Panel) : Type 0 where
  pub who : (k : ℕ) (w : World) → Fresh P k w → (is : List Input) (p : ℕ) → listed_at (after P w is).nodes p ≡ true → recorded (at (after P w is).nodes p) ≡ (seen P w nothing is).who p
  pub list : (k : ℕ) (w : World) → Fresh P k w → (is : List Input) (room : ℕ) → waits_in (P.step (after P w is) (turn_with room)).says ≡ 2 → payload_of (header_of (P.step (after P w is) (turn_with room)).bytes).subnet (P.step (after P w is) (turn_with room)).bytes ≡ list_for ((seen P w nothing is).who (waited_for (P.step (after P w is) (turn_with room)).says)).version (after P w is).coordinator.setup.internal (noted (seen P w nothing is))
  pub index : (k : ℕ) (w : World) → Fresh P k w → (is : List Input) (room : ℕ) → is_own (P.step (after P w is) (turn_with room)).says ≡ true → (header_of (P.step (after P w is) (turn_with room)).bytes).parameter2 ≡ index_of (noted (seen P w nothing is)) (waited_for (P.step (after P w is) (turn_with room)).says)
  pub route : (k : ℕ) (w : World) → Fresh P k w → (is : List Input) (received : List ℕ) (room then : ℕ) → request_type (header_of received).message ≡ true → is_accepted (P.step (after P w is) (frame_with received room)).says ≡ true → is_accepted (P.step (left (P.step (after P w is) (frame_with received room))) (turn_with then)).says ≡ true → forwarded_to (P.step (left (P.step (after P w is) (frame_with received room))) (turn_with then)).says ≡ destined (seen P w nothing is) (after P w is).coordinator.setup.k (header_of received)
