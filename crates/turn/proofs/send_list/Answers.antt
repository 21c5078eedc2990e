-- `turn::send_list` meets its contract, by the law of what a transmission shows.
use mathlib.Core.Path.{refl, ◌∙◌}
use Rattle.board.specs.Table.{at}
use Rattle.message.proofs.Messages.{list_small}
use Rattle.steps.specs.Turn.{due_list}
use Rattle.change.specs.declared.Edit.TheVariants.{Unmarked}
use Rattle.look.proofs.Seeing.{version_seen}
use Rattle.turn.proofs.Seen.{header_seen, list_seen}
use Rattle.turn.proofs.Sending.{does_sent}
use Rattle.turn.proofs.send_list.Goals as goal

pub returns : goal.returns
returns c = λ p co t s k.
    let args = c.args in
    let wrote = c.write_list-writing in
    let version = version_seen s k.2 args.board in
    does_sent (due_list co t args.board) p co t args.out.now _ (list_small (at t args.board).version co.setup.internal t) wrote.result _ args.board Unmarked _ c.sent.ensures c.waiting-next.ensures refl refl refl (rw c.addressed-to.ensures at wrote.ensures) (header_seen s k.1 args.board 20 0 version refl) (list_seen s k.0 k.2 version)
