-- `nodelist::same_list` meets its contract: it compares with the list for a board of this version.
use Rattle.std.proofs.Common.{ℕ, List, ap, ◌∙◌}
use Rattle.std.specs.Str.{bytes_eq}
use Rattle.nodelist.specs.List.{same_bytes}
use Rattle.nodelist.proofs.Bytes.{over_old, over_later}
use Rattle.nodelist.proofs.Theorems.{same_slices}
use Rattle.nodelist.proofs.same_list.Goals as goal

pub returns-then-version-eq1 : goal.returns-then-version-eq1
returns-then-version-eq1 c = c.eq.ensures ∙ ap (bytes_eq c.args.received.now) (c.as_slice.ensures ∙ c.condense.ensures ∙ over_old _ _ _ _ _ c.if-version-eq1.true) ∙ same_slices _ c.args.received.now

pub returns : goal.returns
returns c = c.same_whole.ensures ∙ ap (λ (l : List ℕ). same_bytes l c.args.received.now) (over_later _ _ _ _ _ c.if-version-eq1.false)
