-- `turn::send_carried` meets its contract, by the law of what a transmission shows.
use native.Mathlib.Omega.{arith}
use mathlib.Core.Path.{refl, ◌∙◌}
use lib.ListN.{take, length-take}
use Rattle.message.specs.Message.{to_board}
use Rattle.coordinator.specs.State.{kept_as}
use Rattle.steps.specs.Turn.{carried_header, due_carried}
use Rattle.change.specs.declared.Edit.TheVariants.{Nothing}
use Rattle.change.proofs.Making.{edits_none}
use Rattle.look.proofs.Seeing.{version_seen}
use Rattle.turn.proofs.Sending.{does_sent}
use Rattle.turn.proofs.send_carried.Goals as goal

pub returns : goal.returns
returns c = λ p co t s k.
    let args = c.args in
    let wrote = c.write_carried-writing in
    let version = c.byte_at-version.ensures in
    does_sent (due_carried co t args.board args.exchange args.requester args.parameter2) p co t args.out.now _ (simp length-take (omega (arith, k.0.1))) wrote.result _ 0 Nothing _ c.sent.ensures c.waiting-next.ensures refl (edits_none t Nothing) refl wrote.ensures (λ i. to_board (s.setup i) args.board ((version ∙ version_seen s k.1 args.board) i) (carried_header (kept_as (s.state i).head (k.0.0 i)) args.parameter2)) (λ i. take (s.state i).head.length (k.0.0 i))
