-- `turn::send_identify` meets its contract, by the law of what a transmission shows.
use native.Mathlib.Omega.{arith}
use mathlib.Core.Path.{refl, ap}
use Rattle.coordinator.specs.declared.State.{State}
use Rattle.steps.specs.Turn.{due_identify}
use Rattle.change.specs.declared.Edit.TheVariants.{Nothing}
use Rattle.change.proofs.Making.{edits_none}
use Rattle.turn.proofs.Seen.{header_seen}
use Rattle.turn.proofs.Sending.{does_sent}
use Rattle.turn.proofs.send_identify.Goals as goal

pub returns : goal.returns
returns c = λ p co t s k.
    let args = c.args in
    let wrote = c.write_identify-writing in
    does_sent (due_identify co t args.position) p co t args.out.now _ (omega arith) wrote.result _ 0 Nothing _ c.sent.ensures c.seeking-next.ensures refl (edits_none t Nothing) refl wrote.ensures (header_seen s k args.position 123 0 (ap (λ (x : State). x.found.version) s.state) c.byte_at.ensures) refl
