-- `panel::nadrelgos_clear` meets its contract: one record edited, and then all numbered.
use mathlib.Core.Path.{refl, ◌∙◌}
use Rattle.change.specs.declared.Edit.TheVariants.{Cleared}
use Rattle.lent.proofs.InPlace.{number_in_place}
use Rattle.panel.proofs.nadrelgos_clear.Goals as goal

pub returns : goal.returns
returns c = c.amended.ensures ∙ number_in_place c.args.nodes.now _ c.args.position Cleared _ refl c.clear_edit-cleared.ensures _ refl
