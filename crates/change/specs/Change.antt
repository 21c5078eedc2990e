-- What a step decides on, and what that makes of coordinator and records (01, "Steps").
use Rattle.std.specs.Prelude.{ℕ, Bool, true, false, List, ltb, length, take, drop, replicate}
use Rattle.ground.specs.Choose.{choose}
use Rattle.ground.specs.Bytes.{laid}
use Rattle.frame.specs.Frame.{byte, length_byte}
use Rattle.board.specs.declared.Node.{Node}
use Rattle.board.specs.Node.{none}
use Rattle.board.specs.Table.{at, put}
use Rattle.board.specs.Change.{joined_node, owe, unmarked, heard, missed, renewed, relisted}
use Rattle.coordinator.specs.declared.Phase.TheVariants.{Resting}
use Rattle.coordinator.specs.declared.Head.{Head}
use Rattle.coordinator.specs.declared.State.{State}
use Rattle.coordinator.specs.declared.Coordinator.{Coordinator}
use Rattle.coordinator.specs.State.{kept_as, state_of, stated, composed}
use Rattle.coordinator.specs.Change.{with_phase, offered, holding, keeping, searching, finding, ended}
use Rattle.steps.specs.declared.Answer.{Answer}
use Rattle.steps.specs.After.{Shown, leaving, told}
use Rattle.change.specs.declared.Edit.{Edit}
use Rattle.change.specs.declared.Edit.TheVariants.{Nothing, Owed, Missed, Cleared, Unmarked, Heard, Renewed, Joined}
use Rattle.change.specs.declared.Move.{Move}
use Rattle.change.specs.declared.Move.TheVariants.{Stay, To, Offered, Held, Emptied, Keeping, Searching, Finding}
use Rattle.change.specs.declared.Change.{Change}

-- what an edit makes of a record (01, "Join", "Turn", "Frame" and "Quiet")
abbrev pub edited : Edit → Node → Node
edited Nothing n = n
edited Owed n = owe n
edited Missed n = missed n
edited Cleared n = none
edited Unmarked n = unmarked n
edited Heard n = heard n
edited (Renewed session) n = renewed (heard n) session
edited (Joined kind mac session version) n = joined_node kind mac session version

-- the payload that is kept is padded with zeros to the 240 places that hold it
abbrev pub kept_bytes : List ℕ → List ℕ
kept_bytes p = laid p (replicate 240 0)

-- what is kept of bytes received: those from offset 10 on, as many as their length byte says; a frame has at most 240 (01, "The frame")
abbrev pub keepable : List ℕ → List ℕ
keepable b = take 240 (take (length_byte b) (drop 10 b))

-- and of the ten before them, where there are so many, the fields that a message is carried with (01, "Forward and return keep ..")
abbrev pub head_in : List ℕ → Head
head_in b =
    choose (ltb (length b) 10)
    (record { message = 0; packet = 0; kind = 0; method = 0; parameter = 0; length = 0 })
    (record { message = byte b 7; packet = byte b 8; kind = byte b 6; method = byte b 3; parameter = byte b 4; length = length_byte b })

-- what becomes of the coordinator, where b are the bytes received, each by a definition of the coordinator's (01, "Join", "Turn", "Frame" and "Quiet"; 02, C-11)
abbrev pub moved : Move → List ℕ → Coordinator → Coordinator
moved Stay b c = c
moved (To phase) b c = with_phase c phase
moved (Offered board) b c = offered c board
moved Held b c = holding c true
moved Emptied b c = holding (with_phase c Resting) false
moved (Keeping phase) b c = with_phase (keeping c (kept_as (head_in b) (kept_bytes (keepable b)))) phase
moved (Searching position) b c = searching c position
moved (Finding found position) b c = finding c found position

-- whether the payload received is kept
abbrev pub keeps : Move → Bool
keeps Stay = false
keeps (To phase) = false
keeps (Offered board) = false
keeps Held = false
keeps Emptied = false
keeps (Keeping phase) = true
keeps (Searching position) = false
keeps (Finding found position) = false

-- the coordinator before it moves: an exchange by which a board joins is over, or goes on (02, C-11)
abbrev pub rested : Bool → Coordinator → Coordinator
rested is_over c = choose is_over (ended c) c

-- a change: what becomes of the coordinator, the position and its edit, whether all are owed the list; the answer, the count of bytes written, the positions joined and dropped
abbrev pub changing : Move → ℕ → Edit → Bool → Answer → ℕ → ℕ → ℕ → Change
changing m p e all answer written joined dropped =
    record {
      ended = false;
      moves = m;
      position = p;
      edit = e;
      owe = all;
      outcome = record { answer = answer; written = written; joined = joined; dropped = dropped };
    }

-- the same, once an exchange by which a board joins is over (02, C-11)
abbrev pub ending : Change → Change
ending x = record { ended = true; moves = x.moves; position = x.position; edit = x.edit; owe = x.owe; outcome = x.outcome }

-- the coordinator once a change is made, where b are the bytes received
abbrev pub changed : Change → List ℕ → Coordinator → Coordinator
changed x b c = moved x.moves b (rested x.ended c)

-- the same from a state that was read of the coordinator: setup and payload are the coordinator's own, unless the payload received is kept (house)
abbrev pub changed_from : State → Change → List ℕ → Coordinator → Coordinator
changed_from s x b c = composed c.setup (state_of (moved x.moves b (rested x.ended (stated s)))) (choose (keeps x.moves) (kept_bytes (keepable b)) c.kept.payload)

-- the records with one of them edited
abbrev pub edited_at : List Node → ℕ → Edit → List Node
edited_at t p e = put t p (edited e (at t p))

-- the records once a change is made; where all are owed the list every index is counted anew, which changes none where no type has changed (02, C-13)
abbrev pub amended : Change → List Node → List Node
amended x t = choose x.owe (relisted (edited_at t x.position x.edit)) (edited_at t x.position x.edit)

-- what is shown of a change that is made
abbrev pub applied : Change → List ℕ → Coordinator → List Node → Shown
applied x b c t = leaving (changed x b c) (amended x t) (told x.outcome.answer) x.outcome.written x.outcome.joined x.outcome.dropped
