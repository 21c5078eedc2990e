-- The cases marked * (01, "Frames and series to try") and the example of 000, Tables 4 and 6 (02, C-15), one row each: what is asked, and what the papers say.
use Rattle.std.specs.Prelude.{ℕ, List, [], ◌∷◌, ◌++◌, map, replicate, eqb}
use Rattle.ground.specs.Choose.{choose}
use Rattle.ground.specs.Below.{up_from}
use Rattle.fletcher.specs.Fletcher.{check_bytes}
use Rattle.frame.specs.Frame.{reading}
use Rattle.board.specs.declared.Node.{Node}
use Rattle.board.specs.Node.{none}
use Rattle.board.specs.Change.{joined_node}
use Rattle.board.specs.Table.{at, put}
use Rattle.setup.specs.declared.Setup.{Setup}
use Rattle.setup.specs.Setup.{address}
use Rattle.nodelist.specs.List.{node_list, list_for}
use Rattle.coordinator.specs.Fresh.{fresh, blank_table}
use Rattle.steps.specs.declared.Event.{Event}
use Rattle.steps.specs.declared.Event.TheVariants.{Join, Turn, Frame, Quiet}
use Rattle.steps.specs.After.{After}
use Rattle.steps.specs.Start.{start_of, setup_of}
use Rattle.steps.specs.Step.{step_of}

-- what a case asks: the check bytes of bytes; what the reader says of a frame, in subnet 3 (02, C-14); the list of an internal type and the types at the positions; the address of the board at a position, and the list for it, with an internal type and boards of a type and a version at positions; what setup says of a pool;
-- what the last step of a series says, and whom it drops
pub data Case : Type 0 where
  checks : List ℕ → Case
  reads : List ℕ → Case
  lists : ℕ → List ℕ → Case
  tells : ℕ → ℕ → List (ℕ × ℕ × ℕ) → Case
  pools : List ℕ → Case
  plays : List Event → Case

-- the table of a case: at each position a board of this type, or nobody for 0
abbrev pub board_of : ℕ → Node
board_of kind = choose (eqb kind 0) none (joined_node kind kind 0 2)

-- boards of a type and a version, each at its position
unfoldable pub housed : List (ℕ × ℕ × ℕ) → List Node
housed [] = blank_table
housed ((position, kind, version) ∷ boards) = put (housed boards) position (joined_node kind position 0 version)

-- the pool in which each position has its own number as its address (000, Tables 4 and 6)
abbrev pub numbers_pool : Setup
numbers_pool = setup_of (up_from 1 40) 3 3 9 4

-- the example of 000, Table 4: boards at addresses 1, 2, 16, 17 and 18, the second of them a 1.0 board; the priority subordinate, on subnet 2 or 3, is of this version
abbrev pub example_house : ℕ → List (ℕ × ℕ × ℕ)
example_house version = (1, 1, version) ∷ (2, 5, 1) ∷ (16, 24, 2) ∷ (17, 24, 2) ∷ (18, 1, 2) ∷ []

-- the setup of a case: subnet 3, internal type 1, MAC 9, session 4
abbrev pub begun : List ℕ → After
begun pool = start_of (fresh (setup_of [] 0 0 0 0)) blank_table pool 3 1 9 4

-- an ACK of the board at address 2, type 2, with MAC 7 and session 1 (003, Table 49)
abbrev pub ack : List ℕ
ack = 255 ∷ 2 ∷ 3 ∷ 0 ∷ 0 ∷ 0 ∷ 2 ∷ 0 ∷ 128 ∷ 17 ∷ 6 ∷ 7 ∷ 0 ∷ 0 ∷ 0 ∷ 0 ∷ 0 ∷ 0 ∷ 0 ∷ 1 ∷ 0 ∷ 0 ∷ 0 ∷ 0 ∷ 0 ∷ 0 ∷ 0 ∷ 105 ∷ 69 ∷ []

-- the steps one after another, each frame the board's ACK, with room for any frame
unfoldable pub played : After → List Event → After
played a [] = a
played a (e ∷ es) = played (step_of a.coordinator a.nodes e ack 252) es

-- what the definitions give for a case, as numbers
unfoldable pub given : Case → List ℕ
given (checks bytes) = check_bytes bytes
given (reads bytes) = (reading 3 bytes).number ∷ []
given (lists internal kinds) = node_list internal (map board_of kinds ++ replicate 37 none)
given (tells position internal boards) = address numbers_pool position ∷ list_for (at (housed boards) position).version internal (housed boards)
given (pools pool) = (begun pool).says.number ∷ []
given (plays events) = (played (begun (2 ∷ 5 ∷ 9 ∷ [])) events).says.number ∷ (played (begun (2 ∷ 5 ∷ 9 ∷ [])) events).dropped ∷ []

-- a board joins, and misses, misses, answers, misses, misses: a message, then quiet or its ACK
abbrev pub miss_miss_answer_miss_miss : List Event
miss_miss_answer_miss_miss =
    Join 2 7 1 2 ∷ Turn ∷ Quiet ∷ Turn ∷ Quiet ∷ Turn ∷ Frame ∷ Turn ∷ Quiet ∷ Turn ∷ Quiet ∷ []

-- the table: the case, and the papers' numbers; Table 4 is the list for the board at address 16, Table 6 that for the one at address 2
unfoldable pub rows : List (Case × List ℕ)
rows =
    (checks (0x02 ∷ 0xFF ∷ 0x03 ∷ 0 ∷ 0 ∷ 0 ∷ 0xA5 ∷ 0 ∷ 0 ∷ 0 ∷ []), 0x3D ∷ 0x6D ∷ []) ∷
    (checks (replicate 10 0), 0xAA ∷ 0xAA ∷ []) ∷
    (checks (0 ∷ 0 ∷ 0 ∷ 0 ∷ 0 ∷ 0x11 ∷ 0 ∷ 0 ∷ 0 ∷ 0 ∷ []), 0x44 ∷ 0xFF ∷ []) ∷
    (reads (0 ∷ 0 ∷ 0 ∷ 0 ∷ 0 ∷ 0x11 ∷ 0 ∷ 0 ∷ 0 ∷ 0 ∷ 0x44 ∷ 0xFF ∷ []), 0 ∷ []) ∷
    (reads (0 ∷ 0 ∷ 0 ∷ 0 ∷ 0 ∷ 0x11 ∷ 0 ∷ 0 ∷ 0 ∷ 0 ∷ 0x44 ∷ 0x00 ∷ []), 0 ∷ []) ∷
    (checks (0xFF ∷ 0 ∷ 0 ∷ 0 ∷ 0 ∷ 0x11 ∷ 0 ∷ 0 ∷ 0 ∷ 0 ∷ []), 0x44 ∷ 0xFF ∷ []) ∷
    (reads (replicate 11 0), 1 ∷ []) ∷
    (reads (replicate 9 0 ++ 241 ∷ replicate 243 0), 2 ∷ []) ∷
    (reads (replicate 9 0 ++ 1 ∷ 0 ∷ 0 ∷ []), 3 ∷ []) ∷
    (reads (0x02 ∷ 0xFF ∷ 0x03 ∷ 0 ∷ 0 ∷ 0 ∷ 0xA5 ∷ 0 ∷ 0 ∷ 0 ∷ 0x3D ∷ 0x6E ∷ []), 4 ∷ []) ∷
    (lists 1 (2 ∷ 0 ∷ 5 ∷ []), 0x01 ∷ 0x02 ∷ 0x00 ∷ 0x05 ∷ []) ∷
    (lists 1 (2 ∷ 0 ∷ 0 ∷ []), 0x01 ∷ 0x02 ∷ []) ∷
    (tells 16 3 (example_house 2), 16 ∷ 3 ∷ 1 ∷ 5 ∷ replicate 13 0 ++ 24 ∷ 24 ∷ 1 ∷ []) ∷
    (tells 2 3 (example_house 2), 2 ∷ 3 ∷ 1 ∷ 5 ∷ 24 ∷ replicate 12 0) ∷
    (tells 2 3 (example_house 1), 2 ∷ 3 ∷ 1 ∷ 5 ∷ 24 ∷ replicate 12 0) ∷
    (pools (5 ∷ 5 ∷ []), 21 ∷ []) ∷
    (pools (up_from 1 40), 0 ∷ []) ∷
    (pools (up_from 1 41), 21 ∷ []) ∷
    (plays miss_miss_answer_miss_miss, 0 ∷ 0 ∷ []) ∷
    (plays (miss_miss_answer_miss_miss ++ Turn ∷ Quiet ∷ []), 0 ∷ 1 ∷ []) ∷ []
