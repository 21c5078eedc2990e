-- `routing::priority_kind` meets its contract: the type that the library finds is the first of the list of which a board is listed.
use Rattle.std.proofs.Common.{rules, ◌≡◌, ℕ, List, Option, unwrap_or, find, ap, ◌∙◌}
use Rattle.std.specs.Option.{option_copied}
use Rattle.std.proofs.lemmas.Iterator.{YieldsList-from_slice}
use Rattle.std.proofs.lemmas.Iterator.Search.{find_from_yields_List}
use Rattle.board.specs.Columns.{typed}
use Rattle.routing.specs.Priority.{priority_list}
use Rattle.routing.specs.Route.{has_kind, priority_kind}
use Rattle.board.proofs.Searches.{found_first}
use Rattle.routing.proofs.Lists.{kind_found}
use Rattle.routing.proofs.priority_kind.Goals as goal

pub returns : goal.returns
unfolding priority_kind
returns c =
    let a = c.args in
    let list : List ℕ = priority_list a.code in
    let found : option_copied c.find.result ≡ find (has_kind (typed a.kinds.now) a.k) list = find_from_yields_List (has_kind (typed a.kinds.now) a.k) _ _ c.find.result c.find.ensures.ran (YieldsList-from_slice list cc) (λ x b q k. search (rules, kind_found)) in
    ap (λ (o : Option ℕ). unwrap_or o 0) (c.copied.ensures ∙ found) ∙ found_first 0 (has_kind (typed a.kinds.now) a.k) list
