-- `display::all_text` meets its contract: the bytes so far have been asked.
use mathlib.Core.Path.{◌≡◌}
use lib.ListN.{get_or}
use Rattle.ground.specs.Below.{all}
use Rattle.display.specs.Text.{is_text}
use Rattle.display.proofs.all_text.Given as goal

abbrev pub invariant-loop-b : goal.invariant-loop-b
invariant-loop-b l = l.ok ≡ all (λ j. is_text (get_or l.text j 0)) l.b-index
