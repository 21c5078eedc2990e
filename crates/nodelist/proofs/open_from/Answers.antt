-- `nodelist::open_from` meets its contract: the byte that the library finds is the lowest open one.
use Rattle.std.proofs.Common.{rules, ◌≡◌, ℕ, ◌-◌, get_or, nat_eq, find, Option, None, Some, unwrap_or, refl, ap, ◌∙◌}
use Rattle.std.specs.List.{range_with_len}
use Rattle.std.specs.Option.{option_map}
use Rattle.std.proofs.lemmas.Iterator.{YieldsList-from_range}
use Rattle.std.proofs.lemmas.Iterator.Search.{find_from_yields_List}
use Rattle.nodelist.proofs.Open.{open_found}
use Rattle.nodelist.proofs.open_from.Goals as goal

as_found : (o : Option ℕ) → o ≡ option_map (λ i. i) o
as_found None = refl
as_found (Some i) = refl

pub returns-clause-found : goal.returns-clause-found
returns-clause-found c =
    let a = c.args in
    let found : option_map (λ i. i) c.find.result ≡ find (λ i. nat_eq (get_or a.list.now i 0) 0) (range_with_len a.from (16 - a.from)) = find_from_yields_List (λ i. nat_eq (get_or a.list.now i 0) 0) _ _ c.find.result c.find.ensures.ran (YieldsList-from_range a.from 16 (16 - a.from) refl refl) (λ i b q k. search rules) in
    ap (λ (o : Option ℕ). unwrap_or o 16) (as_found c.find.result ∙ found) ∙ open_found a.list.now a.from
