-- `turn::send_offer` meets its contract, by the law of what a transmission shows.
use mathlib.Core.Path.{refl, ap, ◌∙◌}
use Rattle.message.specs.Message.{signed}
use Rattle.message.proofs.Messages.{signed_small}
use Rattle.setup.specs.declared.Setup.{Setup}
use Rattle.steps.specs.Turn.{due_offer}
use Rattle.change.specs.declared.Move.TheVariants.{Offered}
use Rattle.change.specs.declared.Edit.TheVariants.{Nothing}
use Rattle.change.proofs.Making.{edits_none}
use Rattle.look.proofs.Seeing.{version_seen}
use Rattle.turn.proofs.Seen.{header_seen}
use Rattle.turn.proofs.Sending.{does_sent}
use Rattle.turn.proofs.send_offer.Goals as goal

pub returns : goal.returns
returns c = λ p co t s k.
    let args = c.args in
    let wrote = c.write_signed-writing in
    let version = version_seen s k.1 args.board in
    does_sent (due_offer co t args.board) p co t args.out.now _ (signed_small co.setup 0) wrote.result (Offered args.board) 0 Nothing _ c.sent.ensures refl refl (edits_none t Nothing) refl (rw c.addressed-to.ensures at wrote.ensures) (header_seen s k.0 args.board 0 128 version refl) (ap (λ (x : Setup). signed x 0) s.setup)
