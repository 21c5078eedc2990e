-- `display::read_diagnostics` meets its contract.
use mathlib.Core.Path.{◌∙◌}
use Rattle.ground.specs.Below.{up_from}
use Rattle.refusal.specs.Refusal.{refuses}
use Rattle.display.specs.Text.{read_text}
use Rattle.display.specs.Messages.{diagnostics_most}
use Rattle.display.proofs.Laws.{exit, read_parts, found_well, found_refused}
use Rattle.display.proofs.read_diagnostics.Goals as goal

pub returns-in_err-kind : goal.returns-in_err-kind
unfolding read_text
returns-in_err-kind c = exit _ _ _ c.from_residual.ensures.1 ∙ found_refused _ _ _ _ refuses _ c.in_err-kind.ensures.told

pub returns : goal.returns
unfolding up_from
returns c = read_parts 3 diagnostics_most _ (found_well _ _ _ c.in_ok-kind.ensures.told) c.in_ok-kind.field-0-0.now c.in_ok-kind.text.now c.in_ok-kind.ensures.parts
