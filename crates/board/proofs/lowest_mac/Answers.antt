-- `board::lowest_mac` meets its contract: the element that the library finds is that of the first position, 0 for none.
use Rattle.std.proofs.Common.{rules, ◌≡◌, ℕ, ◌+◌, take, nat_eq, Option, unwrap_or, position, ap, ◌∙◌}
use Rattle.std.specs.Option.{option_map}
use Rattle.std.proofs.lemmas.Iterator.{YieldsList-from_slice}
use Rattle.std.proofs.lemmas.Iterator.Search.{position_from_yields_List}
use Rattle.board.proofs.Column.{first_mac}
use Rattle.board.proofs.lowest_mac.Goals as goal

pub returns : goal.returns
returns c =
    let a = c.args in
    let found : c.position.result ≡ position (λ m. nat_eq m a.mac) (take c.min.result a.macs.now) = position_from_yields_List _ _ _ c.position.result c.position.ensures.ran (YieldsList-from_slice (take c.min.result a.macs.now) cc) (λ x b q k. search rules) in
    let moved : c.map_or.result ≡ unwrap_or (option_map (λ i. 1 + i) c.position.result) 0 = search rules in
    moved ∙ ap (λ (o : Option ℕ). unwrap_or (option_map (λ i. 1 + i) o) 0) found ∙ first_mac a.macs.now a.mac a.limit c.min.result c.told-macs c.min.ensures
