-- The contracts, as they stand in the source, leave one result for each input.
use mathlib.Core.Path.{◌≡◌, sym, ◌∙◌}
use Rattle.finder.specs.declared.Finding.{Finding}
use Rattle.finder.specs.declared.FindNumbers.{FindNumbers}
use Rattle.finder.proofs.Laws.{same_told}
use Rattle.finder.proofs.find.Reads as find
use Rattle.finder.proofs.nadrelgos_find.Reads as face

pub unique_find : (κs a s t : _) (r q : Finding) → find.Post κs a r s → find.Post κs a q t → r ≡ q
unique_find κs a s t r q p p' = same_told r q (p ∙ sym p')

pub unique_nadrelgos_find : (κs a s t : _) (r q : FindNumbers) → face.Post κs a r s → face.Post κs a q t → r ≡ q
unique_nadrelgos_find κs a s t r q p p' = p ∙ sym p'
