-- `seek::join_found` meets its contract: the join on the coordinator at rest, of which the same was seen.
use mathlib.Core.Path.{◌∙◌}
use Rattle.coordinator.specs.Change.{ended}
use Rattle.change.proofs.Making.{makes_ended}
use Rattle.seek.proofs.Seen.{saw_ended}
use Rattle.seek.proofs.join_found.Goals as goal

pub returns : goal.returns
returns c = λ p co t s k. makes_ended p co t c.join-joined.result c.ending.ensures ∙ c.join-joined.ensures p (ended co) t (saw_ended s c.ended.ensures) k
