-- What is looked for in the table, and where it is found (01, "Boards and positions" and "Steps").
use Rattle.std.specs.Prelude.{ℕ, min, Bool, ◌&&◌, not, List, eqb}
use Rattle.ground.specs.Below.{up_from, first_or, count, some, highest}
use Rattle.board.specs.declared.Node.{Node}
use Rattle.board.specs.declared.Wanted.{Wanted}
use Rattle.board.specs.declared.Wanted.TheVariants.{Listed, Free, Owed, Kind, Mac}
use Rattle.board.specs.Node.{is_listed}
use Rattle.board.specs.Table.{at, listed_at}

-- a record is a listed one, a free one, one to which the list is owed, one of a type, one with a MAC
abbrev pub wants : Wanted → Node → Bool
wants Listed n = is_listed n
wants Free n = not (is_listed n)
wants Owed n = is_listed n && eqb n.owed 1
wants (Kind k) n = is_listed n && eqb n.kind k
wants (Mac m) n = is_listed n && eqb n.mac m

-- the record at position p is what is wanted
abbrev pub wanted_at : Wanted → List Node → ℕ → Bool
wanted_at w t p = wants w (at t p)

-- the lowest position from 1 to the limit that is wanted, 0 for none (01, "lowest free position", "lowest position owed", "lowest position of the type")
unfoldable pub lowest_of : List Node → Wanted → ℕ → ℕ
lowest_of t w limit = first_or 0 (wanted_at w t) (up_from 1 (min limit 40))

-- the highest listed position, 0 for none (01, "up to the highest listed position")
unfoldable pub highest_listed : List Node → ℕ
highest_listed t = highest (listed_at t) 40

-- how many listed positions below p are of type k
abbrev pub of_kind_below : List Node → ℕ → ℕ → ℕ
of_kind_below t k p = count (wanted_at (Kind k) t) p

-- a board's index is the number of lower listed positions of its type (01, "Boards and positions")
unfoldable pub index_of : List Node → ℕ → ℕ
index_of t p = of_kind_below t (at t p).kind p

-- how many positions are wanted
unfoldable pub count_of : Wanted → List Node → ℕ
count_of w t = count (wanted_at w t) 41

-- somebody is listed (01, "until an offer is made or nobody is listed")
unfoldable pub some_listed : List Node → Bool
some_listed t = some (listed_at t) 41
