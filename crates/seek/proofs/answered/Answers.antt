-- `seek::answered` meets its contract: by what the join of who answered would leave.
use mathlib.Core.Path.{sym, ap, ◌∙◌}
use Rattle.coordinator.specs.Change.{ended}
use Rattle.steps.specs.declared.Answer.TheVariants.{Rest}
use Rattle.steps.specs.After.{Shown, shows}
use Rattle.change.specs.declared.Edit.TheVariants.{Nothing}
use Rattle.change.proofs.Making.{makes_none, makes_ended}
use Rattle.seek.proofs.Answers.{answered_found, answered_ended}
use Rattle.seek.proofs.answered.Goals as goal

pub returns-then-position-gt0 : goal.returns-then-position-gt0
returns-then-position-gt0 c = λ p co t s k.
    makes_none p co t Nothing Rest 0 0 0 c.resting.ensures ∙
    sym (ap shows (answered_found co t c.args.found (ap (λ (x : Shown). x.joined) (c.join_found-joined.ensures p co t s k)) c.if-position-gt0.true))

pub returns : goal.returns
returns c = λ p co t s k.
    makes_ended p co t c.resting-2.result c.ending.ensures ∙
    makes_none p (ended co) t Nothing Rest 0 0 0 c.resting-2.ensures ∙
    sym (ap shows (answered_ended co t c.args.found (ap (λ (x : Shown). x.joined) (c.join_found-joined.ensures p co t s k)) c.if-position-gt0.false))
