-- `receive::acknowledged` meets its contract: only a forward's wait goes on.
use borrow.Author.Rules.{rules}
use mathlib.Core.Path.{refl, sym, ap, ◌∙◌}
use Rattle.coordinator.specs.declared.Phase.TheVariants.{Resting, Awaiting}
use mathlib.Core.Bool.{true}
use Rattle.steps.specs.declared.Answer.TheVariants.{Wait, Rest}
use Rattle.change.specs.declared.Move.TheVariants.{To}
use Rattle.steps.specs.After.{shows}
use Rattle.receive.proofs.Leaving.{acked_ends, makes_heard}
use Rattle.receive.proofs.acknowledged.Goals as goal

pub returns-in-Forward : goal.returns-in-Forward
returns-in-Forward c =
    let args = c.args in
    λ b co t f k. makes_heard b co t (To (Awaiting args.board args.exchange args.requester true)) args.board args.session (Wait args.board args.exchange) c.hearing.ensures f k ∙ rw c.in-Forward.is refl

pub returns-in_default : goal.returns-in_default
returns-in_default c =
    let args = c.args in
    λ b co t f k. makes_heard b co t (To Resting) args.board args.session Rest c.hearing-in_default.ensures f k ∙ sym (ap shows (acked_ends args.exchange args.board args.requester co _ (search rules)))
