-- `board::next_listed` meets its contract: the positions after, then those from 1 on.
use Rattle.std.proofs.Common.{rules, ◌∙◌}
use Rattle.board.proofs.NextListed.{next_looked}
use Rattle.board.proofs.next_listed.Goals as goal

pub returns : goal.returns
returns c = c.unwrap_or.ensures ∙ next_looked _ _ _ c.min-top.ensures c.min-last.ensures c.first_after.result c.or_else.result c.first_after.ensures (search rules)
