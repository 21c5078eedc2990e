-- Boards that speak 1.0 (02, C-15), as statements about a panel: proved of ours and refuted of wrong ones.
use Rattle.std.specs.Prelude.{ℕ, ◌≤◌, ◌<◌, ◌≡◌, Bool, true, false, ◌||◌, List, drop, eqb, ltb}
use Rattle.ground.specs.Below.{among}
use Rattle.ground.specs.Choose.{choose}
use Rattle.refusal.specs.Refusal.{refuses}
use Rattle.refusal.specs.declared.Refusal.TheVariants.{OtherSubnet}
use Rattle.frame.specs.Frame.{header_of, payload_of, takes_subnet, reading}
use Rattle.board.specs.Node.{is_old}
use Rattle.board.specs.Columns.{kinds_of}
use Rattle.board.specs.Types.{type_count}
use Rattle.setup.specs.Setup.{old_subnet}
use Rattle.series.specs.Series.{World, Panel, Fresh, Input, after, is_accepted, waits_in}
use Rattle.series.specs.Observed.{Seen, nothing, seen}
use Rattle.series.specs.Demand.{turn_with, frame_with, quiet_with}
use Rattle.series.specs.AsJoined.{noted}
use Rattle.series.specs.Others.{only_says}

-- by what an observer saw a 1.0 board may answer: the board that is waited for is one; where none is, anyone is searched for, or what was discovered last is one (02, C-15)
abbrev pub may_answer : Seen → Bool
may_answer s = choose (ltb 0 s.awaited) (is_old (s.who s.awaited).version) (eqb s.wait 5 || is_old s.found.version)

-- "the network may then hold at most 15 different node types": after any series, where by what the joins told a 1.0 board is listed, at most 15 types are.
-- "Each listed type appears and, past byte 0, no unlisted type but 0 does": so it is of every list that goes out, to a board of either version.
-- And "reading takes it too" of 1.0 boards alone: while none may answer, bytes of their subnet that are not ours get what the reader says of them, and nothing else.
pub record OldBoards (P : Panel) : Type 0 where
  pub few : (k : ℕ) (w : World) → Fresh P k w → (is : List Input) (p : ℕ) → (seen P w nothing is).listed p ≡ true → is_old ((seen P w nothing is).who p).version ≡ true → type_count (kinds_of (noted (seen P w nothing is))) ≤ 15
  pub types : (k : ℕ) (w : World) → Fresh P k w → (is : List Input) (room : ℕ) → waits_in (P.step (after P w is) (turn_with room)).says ≡ 2 → (kind : ℕ) → 0 < kind → among kind (drop 1 (payload_of (header_of (P.step (after P w is) (turn_with room)).bytes).subnet (P.step (after P w is) (turn_with room)).bytes)) ≡ among kind (kinds_of (noted (seen P w nothing is)))
  pub unheard : (k : ℕ) (w : World) → Fresh P k w → (is : List Input) → may_answer (seen P w nothing is) ≡ false → (received : List ℕ) (room : ℕ) → (header_of received).subnet ≡ old_subnet → takes_subnet (after P w is).coordinator.setup.subnet old_subnet ≡ false → P.step (after P w is) (frame_with received room) ≡ only_says (reading (after P w is).coordinator.setup.subnet received) (after P w is)

-- "Reading takes it too": in a wait, that is where a quiet would be accepted, no bytes of their subnet get 24 if a 1.0 board may answer.
pub record OldHeard (P : Panel) : Type 0 where
  pub heard : (k : ℕ) (w : World) → Fresh P k w → (is : List Input) (room : ℕ) → is_accepted (P.step (after P w is) (quiet_with room)).says ≡ true → may_answer (seen P w nothing is) ≡ true → (received : List ℕ) → (header_of received).subnet ≡ old_subnet → (P.step (after P w is) (frame_with received room)).says ≡ refuses OtherSubnet → ⊥
