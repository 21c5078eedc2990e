-- `shared::lowest_with` meets its contract: what is found among the slots is the lowest that fits.
use Prim.Native.Nat.{ℕ}
use borrow.Author.Rules.{rules}
use borrow.Author.Tests.{tests}
use native.Mathlib.Omega.{arith}
use mathlib.Core.Path.{◌≡◌, refl, sym, ◌∙◌}
use lib.Dec.{eqb}
use Rattle.std.specs.Prelude.{Option, Some, None}
use Rattle.std.specs.Option.{option_eq, option_map}
use Rattle.std.proofs.lemmas.Iterator.{YieldsList-from_range}
use Rattle.std.proofs.lemmas.Iterator.Search.{find_from_yields_List}
use Rattle.shared.specs.Image.{lowest}
use Rattle.shared.specs.Looking.{occupant}
use Rattle.shared.proofs.Slots.{found_lowest}
use Rattle.shared.proofs.lowest_with.Goals as goal

unmapped : (o : Option ℕ) → option_map (λ x. x) o ≡ o
unmapped None = refl
unmapped (Some x) = refl

pub returns : goal.returns
unfolding lowest
returns c =
    let args = c.args in
    sym (unmapped c.find.result) ∙ find_from_yields_List (λ slot. option_eq eqb (occupant args.image.now slot) args.who) _ _ c.find.result c.find.ensures.ran (YieldsList-from_range 1 41 40 refl refl) (λ x b q k. search (rules, tests)) ∙ found_lowest _ 1 40 (omega arith)
