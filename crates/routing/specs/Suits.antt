-- Which boards a request names, whichever of them it goes to: what routing is measured against.
use Rattle.std.specs.Prelude.{ℕ, ◌≤◌, ◌≡◌, Bool, true, false, List, eqb}
use Rattle.ground.specs.Choose.{choose}
use Rattle.ground.specs.Below.{among}
use Rattle.board.specs.declared.Node.{Node}
use Rattle.board.specs.Table.{at, listed_at}
use Rattle.routing.specs.Priority.{priority_list}

-- a board of this type at position p is one that the method and parameter 1 name: by its type's place in the command's list, by its type, by its socket (000, 6.3.2 to 6.3.4)
unfoldable pub meant : ℕ → ℕ → ℕ → ℕ → Bool
meant method parameter p kind =
    choose (eqb method 1) (among kind (priority_list parameter))
    (choose (eqb method 2) (eqb kind parameter)
    (choose (eqb method 3) (eqb p parameter) false))

-- at position p, of 1 to k, a board is listed that the request names
pub record Suits (t : List Node) (k method parameter p : ℕ) : Type 0 where
  pub from : 1 ≤ p
  pub within : p ≤ k
  pub listed : listed_at t p ≡ true
  pub meets : meant method parameter p (at t p).kind ≡ true
