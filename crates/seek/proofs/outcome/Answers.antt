-- `seek::outcome` meets its contract: the join where it takes the position at stake, else none.
use mathlib.Core.Path.{sym, ap, ◌∙◌}
use Rattle.coordinator.specs.Change.{ended}
use Rattle.steps.specs.declared.Answer.TheVariants.{Rest}
use Rattle.steps.specs.After.{Shown, shows}
use Rattle.change.proofs.Making.{makes_ended}
use Rattle.seek.proofs.Seen.{makes_heard}
use Rattle.seek.proofs.Answers.{outcome_joined, outcome_ended}
use Rattle.seek.proofs.outcome.Goals as goal

pub returns-then-joined-position : goal.returns-then-joined-position
returns-then-joined-position c = λ p co t s k.
    let args = c.args in
    c.join_found-joined.ensures p co t s k ∙
    sym (ap shows (outcome_joined co t args.found (ap (λ (x : Shown). x.joined) (c.join_found-joined.ensures p co t s k)) args.position c.if-joined-position.true))

pub returns : goal.returns
returns c = λ p co t s k.
    let args = c.args in
    makes_ended p co t c.resting.result c.ending.ensures ∙
    makes_heard s p (ended co) args.position args.found.mac k.2 c.hearing-edit.ensures Rest c.resting.ensures ∙
    sym (ap shows (outcome_ended co t args.found (ap (λ (x : Shown). x.joined) (c.join_found-joined.ensures p co t s k)) args.position c.if-joined-position.false))
