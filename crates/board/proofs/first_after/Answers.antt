-- `board::first_after` meets its contract: the element that the library finds is that of the first position.
use Rattle.std.proofs.Common.{rules, ◌≡◌, ℕ, ◌+◌, ◌-◌, List, take, drop, Option, unwrap_or, position, ap, ◌∙◌}
use Rattle.std.specs.Option.{option_map}
use Rattle.std.proofs.lemmas.Iterator.{YieldsList-from_slice}
use Rattle.std.proofs.lemmas.Iterator.Search.{position_from_yields_List}
use Rattle.board.specs.Wanted.{wants}
use Rattle.board.specs.Columns.{typed_as}
use Rattle.board.proofs.Column.{first_wanted}
use Rattle.board.proofs.first_after.Goals as goal

pub returns : goal.returns
returns c =
    let a = c.args in
    let part : List ℕ = take (a.limit - a.after) (drop a.after a.kinds.now) in
    let found : c.position.result ≡ position (λ kind. wants a.wanted (typed_as kind)) part = position_from_yields_List (λ kind. wants a.wanted (typed_as kind)) _ _ c.position.result c.position.ensures.ran (YieldsList-from_slice part cc) (λ x b q k. search rules) in
    let moved : c.map.result ≡ option_map (λ i. a.after + 1 + i) c.position.result = search rules in
    λ d. ap (λ (o : Option ℕ). unwrap_or o d) (moved ∙ ap (option_map (λ i. a.after + 1 + i)) found) ∙ first_wanted a.kinds.now a.wanted c.told-kinds a.after a.limit d c.requires.0 c.requires.1
