-- Each board's index is kept in its record (02, C-13), as a statement about a panel: proved of ours and refuted of one that forgets the boards that a step does not name.
use Rattle.std.specs.Prelude.{ℕ, ◌≤◌, ◌≡◌, Bool, true, ◌||◌, List, length, eqb}
use Rattle.refusal.specs.Refusal.{Told}
use Rattle.frame.specs.Frame.{header_of}
use Rattle.board.specs.Table.{at}
use Rattle.board.specs.Wanted.{index_of}
use Rattle.setup.specs.Setup.{address}
use Rattle.accept.specs.Accept.{request_type}
use Rattle.series.specs.Series.{Input, World, Panel, left, Fresh, after, is_accepted, waited_for, waits_in}
use Rattle.series.specs.Observed.{nothing, seen}
use Rattle.series.specs.Demand.{turn_with, frame_with}
use Rattle.series.specs.AsJoined.{noted, is_own}

-- the index that is stored for a position
abbrev pub stored_at : World → ℕ → ℕ
stored_at w p = (at w.nodes p).index

-- an answer that waits in an offer, a list or identify, whose frames carry the index of the position that is waited for (01, "Turn": "Own frames"; 02, C-11)
abbrev pub carries_index : Told → Bool
carries_index says = is_own says || eqb (waits_in says) 6

-- "Store it in the record. After every join, retyping and drop the stored number equals the count in document 01, for every board, those not named by the step included" (02, C-13).
-- After any series the stored index is the counted one, at every position; and it is the count over the types that the joins told. It is what goes out: in an offer, a list and an
-- identify that of the position that is waited for; in a forward that of the board that asked, which was waited for when its request was accepted; in the ACK to a frame that of the
-- position from whose address the frame came, as the step leaves it.
pub record StoredIndex (P : Panel) : Type 0 where
  pub counted : (k : ℕ) (w : World) → Fresh P k w → (is : List Input) (p : ℕ) → stored_at (after P w is) p ≡ index_of (after P w is).nodes p
  pub told : (k : ℕ) (w : World) → Fresh P k w → (is : List Input) (p : ℕ) → stored_at (after P w is) p ≡ index_of (noted (seen P w nothing is)) p
  pub carried : (k : ℕ) (w : World) → Fresh P k w → (is : List Input) (room : ℕ) → carries_index (P.step (after P w is) (turn_with room)).says ≡ true → (header_of (P.step (after P w is) (turn_with room)).bytes).parameter2 ≡ stored_at (after P w is) (waited_for (P.step (after P w is) (turn_with room)).says)
  pub forwarded : (k : ℕ) (w : World) → Fresh P k w → (is : List Input) (received : List ℕ) (room then : ℕ) → request_type (header_of received).message ≡ true → is_accepted (P.step (after P w is) (frame_with received room)).says ≡ true → waits_in (P.step (left (P.step (after P w is) (frame_with received room))) (turn_with then)).says ≡ 3 → (header_of (P.step (left (P.step (after P w is) (frame_with received room))) (turn_with then)).bytes).parameter2 ≡ stored_at (left (P.step (after P w is) (frame_with received room))) (seen P w nothing is).awaited
  pub acknowledged : (k : ℕ) (w : World) → Fresh P k w → (is : List Input) (received : List ℕ) (room p : ℕ) → address (after P w is).coordinator.setup p ≡ (header_of received).source → 1 ≤ length (P.step (after P w is) (frame_with received room)).bytes → (header_of (P.step (after P w is) (frame_with received room)).bytes).parameter2 ≡ stored_at (left (P.step (after P w is) (frame_with received room))) p
