-- `place::kind_before` meets its contract: what its chain adds up to is what is counted.
use Prim.Native.Nat.{ℕ}
use mathlib.Core.Path.{ap, ◌∙◌}
use lib.ListN.{take}
use borrow.Author.Rules.{rules}
use borrow.Author.Tests.{tests}
use Rattle.std.specs.List.{fold}
use Rattle.std.proofs.lemmas.List.{take_min}
use Rattle.std.proofs.lemmas.Iterator.{YieldsList-from_slice}
use Rattle.std.proofs.lemmas.Iterator.Consumers.{fold_from_yields_List}
use Rattle.place.proofs.Numbers.{counts, kind_counted}
use Rattle.place.proofs.kind_before.Goals as goal

pub returns : goal.returns
returns c =
    let nodes = c.args.nodes.now in
    let first = λ (n : ℕ). fold (counts c.args.kind) 0 (take n nodes) in
    fold_from_yields_List _ (counts c.args.kind) 0 _ c.fold.ensures.ran (YieldsList-from_slice (take c.min.result nodes) cc) (λ a x b q k. search (rules, tests))
    ∙ ap first c.min.ensures ∙ ap (fold (counts c.args.kind) 0) (take_min c.args.i nodes) ∙ kind_counted nodes c.args.kind c.args.i
