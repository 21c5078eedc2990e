-- `display::text_of` meets its contract.
use Rattle.std.specs.Prelude.{[]}
use mathlib.Core.Path.{sym, ◌∙◌}
use Rattle.display.specs.Text.{text_of}
use Rattle.display.proofs.Laws.{well_stands, found_well, found_refused}
use Rattle.display.proofs.text_of.Goals as goal

pub returns-in-Ok : goal.returns-in-Ok
unfolding text_of
returns-in-Ok g c = c.in-Ok.ensures.parts.1 ∙ sym (well_stands _ _ _ (λ r. []) _ (found_well _ _ _ c.in-Ok.ensures.told))

pub returns-in-Err : goal.returns-in-Err
unfolding text_of
returns-in-Err g c = found_refused _ _ _ _ (λ r. []) _ c.in-Err.ensures.told
