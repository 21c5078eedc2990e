-- `script::before` meets its contract: the first place of the byte, or past the text where it has none.
use Rattle.std.proofs.Common.{rules, eqb}
use borrow.Author.Tests.{tests}
use Rattle.std.proofs.lemmas.Iterator.{YieldsList-from_slice}
use Rattle.std.proofs.lemmas.Iterator.Search.{position_from_yields_List}
use Rattle.script.proofs.Words.{before_told}
use Rattle.script.proofs.before.Goals as goal

pub returns : goal.returns
returns c =
    let text = c.args.text.now in
    let mark = c.args.mark in
    let found = position_from_yields_List (λ b. eqb b mark) _ _ c.position.result c.position.ensures.ran (YieldsList-from_slice text c.iter.ensures.rest) (λ x b q k. search (rules, tests)) in
    before_told mark text c.position.result c.unwrap_or.result found c.unwrap_or.ensures
