-- `place::note` meets its contract: one record more is noted with each turn.
use native.Mathlib.Omega.{arith}
use mathlib.Core.Path.{◌∙◌}
use Rattle.look.proofs.Digests.{digest_next}
use Rattle.place.proofs.note.Goals as goal

pub loop-i-preserved : goal.loop-i-preserved
loop-i-preserved c = c.note.ensures ∙ digest_next _ _ _ _ _ _ c.loop-i.invariant c.loop-i-test.true (omega arith)
