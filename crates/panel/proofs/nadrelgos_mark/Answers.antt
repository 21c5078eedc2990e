-- `panel::nadrelgos_mark` meets its contract: one record edited.
use Rattle.change.specs.declared.Edit.TheVariants.{Owed}
use Rattle.lent.proofs.InPlace.{amend_in_place}
use Rattle.panel.proofs.nadrelgos_mark.Goals as goal

pub returns : goal.returns
returns c = amend_in_place c.args.nodes.now _ c.args.position Owed c.mark_edit-marked.result c.amend.ensures c.mark_edit-marked.ensures
