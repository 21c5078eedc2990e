-- The node list (01, "Boards and positions"; 003, 5.14).
use Rattle.std.specs.Prelude.{ℕ, ◌+◌, min, Bool, ◌&&◌, List, [], ◌∷◌, map, length, get_or, eqb, ltb, Result}
use Rattle.ground.specs.Choose.{choose}
use Rattle.ground.specs.Below.{all, up_from}
use Rattle.ground.specs.Bytes.{laid}
use Rattle.refusal.specs.Refusal.{Told, refuses, gives, counts, ruled}
use Rattle.refusal.specs.declared.Refusal.{Refusal}
use Rattle.refusal.specs.declared.Refusal.TheVariants.{NoRoom}
use Rattle.board.specs.declared.Node.{Node}
use Rattle.board.specs.Node.{is_old}
use Rattle.board.specs.Table.{at}
use Rattle.board.specs.Columns.{kinds_of, versions_of, typed}
use Rattle.board.specs.Wanted.{highest_listed}
use Rattle.nodelist.specs.Condensed.{condensed}

-- the type at a position, 0 where it is free
abbrev pub kind_at : List Node → ℕ → ℕ
kind_at t p = (at t p).kind

-- byte 0 the internal type, byte i the type at position i or 0 if free, up to the highest listed position (01, "Node list payload")
unfoldable pub node_list : ℕ → List Node → List ℕ
node_list internal t = internal ∷ map (kind_at t) (up_from 1 (highest_listed t))

-- one byte more than the highest listed position (01, "up to the highest listed position")
abbrev pub list_length : List Node → ℕ
list_length t = highest_listed t + 1

-- 11 where the output is shorter than the list (01, "Numbers", 11)
abbrev pub rules : List Node → List ℕ → List (Bool × Refusal)
rules t out = (ltb (length out) (list_length t), NoRoom) ∷ []

-- what writing the list answers: 11, or the count of bytes written
abbrev pub written : List Node → List ℕ → Told
written t out = ruled (rules t out) refuses (gives (list_length t ∷ []))

-- what the output holds after: on a refusal what it held, else the list and past it what it held (01, "On success, output past the frame keeps its bytes")
abbrev pub output : ℕ → List Node → List ℕ → List ℕ
output internal t out = ruled (rules t out) (λ refusal. out) (laid (node_list internal t) out)

-- what an answer of the writer says
abbrev pub told : Result ℕ Refusal → Told
told = counts

-- the list for a board of a version: condensed for a 1.0 board, else the whole (02, C-15)
unfoldable pub list_for : ℕ → ℕ → List Node → List ℕ
list_for version internal t = choose (is_old version) (condensed internal (kinds_of t) (versions_of t)) (node_list internal t)

-- the bytes received are those sent: as many, and each the same (01, "type 0x94 whose payload equals the list sent")
unfoldable pub same_bytes : List ℕ → List ℕ → Bool
same_bytes sent bytes = eqb (length bytes) (length sent) && all (λ i. eqb (get_or bytes i 0) (get_or sent i 0)) (length sent)

-- the bytes received are the list for a board of a version (01, "Frame"; 02, C-15)
abbrev pub same_list : ℕ → ℕ → List Node → List ℕ → Bool
same_list version internal t bytes = same_bytes (list_for version internal t) bytes

-- the list up to a position that is given, one of the forty: the code is told the highest listed one (01, "Node list payload"; house)
unfoldable pub list_to : ℕ → ℕ → List Node → List ℕ
list_to top internal t = internal ∷ map (kind_at t) (up_from 1 (min top 40))

-- one byte more than that position (01, "Node list payload")
abbrev pub length_to : ℕ → ℕ
length_to top = min top 40 + 1

-- 11 where the output is shorter (01, "Numbers", 11)
abbrev pub rules_to : ℕ → List ℕ → List (Bool × Refusal)
rules_to top out = (ltb (length out) (length_to top), NoRoom) ∷ []

-- what writing it answers: 11, or the count of bytes written (01, "Node list payload")
abbrev pub written_to : ℕ → List ℕ → Told
written_to top out = ruled (rules_to top out) refuses (gives (length_to top ∷ []))

-- what the output holds after (01, "On success, output past the frame keeps its bytes")
abbrev pub output_to : ℕ → ℕ → List Node → List ℕ → List ℕ
output_to top internal t out = ruled (rules_to top out) (λ refusal. out) (laid (list_to top internal t) out)

-- the list for a board of a version over the columns of types and versions, the whole one up to a position that is given (house)
unfoldable pub list_over : ℕ → ℕ → ℕ → List ℕ → List ℕ → List ℕ
list_over version top internal kinds versions = choose (is_old version) (condensed internal kinds versions) (list_to top internal (typed kinds))
