-- `board::has_old` meets its contract: one of the versions is 1.
use Rattle.std.proofs.Common.{rules, ◌≡◌, false, ◌||◌, nat_eq, fold, ◌∙◌}
use Rattle.std.proofs.lemmas.Grind.{common_steps}
use Rattle.board.proofs.Column.{fold_forty}
use Rattle.board.proofs.has_old.Goals as goal

pub returns : goal.returns
returns c =
    let folded : c.fold.result ≡ fold (λ old version. old || nat_eq version 1) false c.args.versions.now = search (rules, common_steps) in
    folded ∙ fold_forty 1 c.args.versions.now c.told-versions
