-- `panel::nadrelgos_list` meets its contract: one record edited, and then all numbered.
use mathlib.Core.Path.{refl, ◌∙◌}
use Rattle.change.specs.declared.Edit.TheVariants.{Joined}
use Rattle.lent.proofs.InPlace.{number_in_place}
use Rattle.panel.proofs.nadrelgos_list.Goals as goal

pub returns : goal.returns
returns c = c.amended.ensures ∙ number_in_place c.args.nodes.now _ c.args.position (Joined c.args.kind c.args.mac c.args.session c.args.version) _ refl c.list_edit-listed.ensures _ refl
