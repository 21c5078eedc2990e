-- `receive::following` meets its contract, by what the frame is to the wait.
use native.Mathlib.Omega.{arith}
use mathlib.Core.Path.{ap}
use Rattle.steps.specs.After.{transmits}
use Rattle.steps.specs.Receive.{acking}
use Rattle.receive.proofs.Leaving.{routed_on, routed_off}
use Rattle.receive.proofs.following.Goals as goal

pub returns-then-to-eq0 : goal.returns-then-to-eq0
returns-then-to-eq0 c =
    let args = c.args in
    λ b p brought co t e room s k. rw c.in-Route.is (ap (acking co t args.board room transmits) (routed_off s k args.header p args.board c.route-to.ensures (omega arith)))

pub returns-else-to-eq0 : goal.returns-else-to-eq0
returns-else-to-eq0 c =
    let args = c.args in
    λ b p brought co t e room s k. rw c.in-Route.is (ap (acking co t args.board room transmits) (routed_on s k args.header p args.board c.route-to.ensures b brought (omega arith)))
