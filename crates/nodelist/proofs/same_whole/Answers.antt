-- `nodelist::same_whole` meets its contract: byte 0 is compared with the internal type, and the others with the types.
use Rattle.std.proofs.Common.{◌∙◌}
use Rattle.nodelist.proofs.Theorems.{whole_empty, whole_other, whole_rest}
use Rattle.nodelist.proofs.same_whole.Goals as goal

pub returns-in-empty : goal.returns-in-empty
returns-in-empty c = whole_empty _ _ _ c.told-kinds _ c.in-empty.len_below

pub returns-then-first-internal : goal.returns-then-first-internal
returns-then-first-internal c = c.eq.ensures ∙ whole_rest _ _ _ c.told-kinds _ _ c.min.ensures c.in-len1-up.len_at_least c.if-first-internal.true

pub returns-else-first-internal : goal.returns-else-first-internal
returns-else-first-internal c = whole_other _ _ _ c.told-kinds _ c.in-len1-up.len_at_least c.if-first-internal.false
