-- `routing::named_position` meets its contract: where no board of the list is listed, nobody is named.
use Rattle.std.proofs.Common.{ℕ, ap, ◌∙◌}
use Rattle.ground.specs.Choose.{choose}
use Rattle.board.specs.declared.Wanted.TheVariants.{Kind}
use Rattle.board.specs.Columns.{typed}
use Rattle.board.specs.Wanted.{lowest_of}
use Rattle.routing.specs.Route.{named_position}
use Rattle.routing.proofs.Lists.{no_lowest}
use Rattle.routing.proofs.named_position.Goals as goal

pub returns-in_err-priority_kind-in-1 : goal.returns-in_err-priority_kind-in-1
unfolding named_position choose
returns-in_err-priority_kind-in-1 c = rw (c.from_residual.ensures, c.in-1.is) (no_lowest (typed c.args.kinds.now) c.args.k ∙ ap (λ (kind : ℕ). lowest_of (typed c.args.kinds.now) (Kind kind) c.args.k) c.in_err-priority_kind-in-1.ensures)
