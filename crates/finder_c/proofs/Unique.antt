-- The contract promises what the library's does, so that its theorem holds of it: one result for each input.
use mathlib.Core.Path.{◌≡◌}
use Rattle.finder.specs.declared.FindNumbers.{FindNumbers}
use Rattle.finder.proofs.Unique as library
use Rattle.finder_c.proofs.nadrelgos_find.Reads as face

pub unique_nadrelgos_find : (κs a s t : _) (r q : FindNumbers) → face.Post κs a r s → face.Post κs a q t → r ≡ q
unique_nadrelgos_find = library.unique_nadrelgos_find
