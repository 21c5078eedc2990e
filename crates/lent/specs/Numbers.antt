-- The numbers by which C names an event and is told an outcome (house; the answers' and exchanges' numbers are those of steps/specs/After.antt).
use Rattle.std.specs.Prelude.{ℕ, ◌/◌, ◌%◌, List, [], ◌∷◌, ◌++◌, length, get_or, eqb}
use Rattle.ground.specs.Choose.{choose}
use Rattle.refusal.specs.Refusal.{Told}
use Rattle.word.specs.Words.{value_of}
use Rattle.board.specs.declared.Node.{Node}
use Rattle.coordinator.specs.declared.Coordinator.{Coordinator}
use Rattle.steps.specs.declared.Event.{Event}
use Rattle.steps.specs.declared.Event.TheVariants.{Join, Turn, Frame, Quiet, Discover}
use Rattle.steps.specs.After.{After}

-- the events in the rule book's order: join 1, turn 2, frame 3, quiet 4, discover 5; any other number is a join of type 0, which is always refused (01, "Steps"; 02, C-11)
abbrev pub event_of : ℕ → ℕ → ℕ → ℕ → ℕ → Event
event_of number kind mac session version =
    choose (eqb number 1) (Join kind mac session version)
    (choose (eqb number 2) Turn
    (choose (eqb number 3) Frame (choose (eqb number 4) Quiet (choose (eqb number 5) Discover (Join 0 mac session version)))))

-- the four low bytes of a packed answer, low byte first: the refusal's number or 0; the answer's number, the position awaited and the exchange, 0 where there is none
abbrev pub saying : Told → List ℕ
saying says = says.number ∷ get_or says.values 0 0 ∷ get_or says.values 1 0 % 256 ∷ get_or says.values 2 0 ∷ []

-- its eight bytes: those, the position joined, the position dropped, and the count of bytes written in two
abbrev pub parts : Told → ℕ → ℕ → ℕ → List ℕ
parts says written joined dropped = saying says ++ joined % 256 ∷ dropped % 256 ∷ written % 256 ∷ written / 256 % 256 ∷ []

abbrev pub packed : Told → ℕ → ℕ → ℕ → ℕ
packed says written joined dropped = value_of (parts says written joined dropped)

-- what C is shown: the packed answer, and the coordinator and the records where they stand
pub record Faced : Type 0 where
  pub answer : ℕ
  pub coordinator : Coordinator
  pub nodes : List Node

abbrev pub facing : ℕ → Coordinator → List Node → Faced
facing n c ys = record { answer = n; coordinator = c; nodes = ys }

abbrev pub faced : After → Faced
faced a =
    record {
      answer = packed a.says (length a.bytes) a.joined a.dropped;
      coordinator = a.coordinator;
      nodes = a.nodes;
    }
