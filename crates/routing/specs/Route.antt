-- Where a request goes (01, "Methods 1 to 3 resolve by 000, section 6.3").
use Rattle.std.specs.Prelude.{ℕ, Bool, ◌&&◌, List, eqb, leb, ltb}
use Rattle.ground.specs.Choose.{choose}
use Rattle.ground.specs.Below.{first_or}
use Rattle.board.specs.declared.Node.{Node}
use Rattle.board.specs.declared.Wanted.TheVariants.{Kind}
use Rattle.board.specs.Table.{listed_at}
use Rattle.board.specs.Wanted.{lowest_of}
use Rattle.routing.specs.Priority.{priority_list}

-- a board of the type is listed at a position from 1 to k
unfoldable pub has_kind : List Node → ℕ → ℕ → Bool
has_kind t k kind = ltb 0 (lowest_of t (Kind kind) k)

-- the type to which a control command goes: the first of its list of which a board is listed, 0 for none (000, 6.3.2)
unfoldable pub priority_kind : List Node → ℕ → ℕ → ℕ
priority_kind t k code = first_or 0 (has_kind t k) (priority_list code)

-- the socket's position where a board is listed there, 0 outside 1 to k and where it is free (000, 6.3.4)
unfoldable pub at_socket : List Node → ℕ → ℕ → ℕ
at_socket t k p = choose (ltb 0 p && leb p k && listed_at t p) p 0

-- the position that a method and parameter 1 name, 0 for none: by control command, by type, by socket (000, 6.3.2 to 6.3.4);
-- where that names only a type, the lowest position of the type (01, house)
unfoldable pub named_position : List Node → ℕ → ℕ → ℕ → ℕ
named_position t k method parameter =
    choose (eqb method 1) (lowest_of t (Kind (priority_kind t k parameter)) k)
    (choose (eqb method 2) (lowest_of t (Kind parameter) k)
    (choose (eqb method 3) (at_socket t k parameter) 0))

-- where the request of a sender goes; 0 where there is no such board or it is the sender itself: discarded (01, "Steps")
unfoldable pub route_of : List Node → ℕ → ℕ → ℕ → ℕ → ℕ
route_of t k sender method parameter = choose (eqb (named_position t k method parameter) sender) 0 (named_position t k method parameter)
