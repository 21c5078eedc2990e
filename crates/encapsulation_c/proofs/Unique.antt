-- The contracts promise what those of the library do, so that its theorems hold of them: one outcome for each input.
use mathlib.Core.Path.{◌≡◌}
use Rattle.frame.specs.declared.Header.{Header}
use Rattle.frame.specs.declared.WriteNumbers.{WriteNumbers}
use Rattle.encapsulation.specs.declared.Levels.{Levels}
use Rattle.encapsulation.specs.declared.UnwrapNumbers.{UnwrapNumbers}
use Rattle.encapsulation.proofs.Unique as library
use Rattle.encapsulation.proofs.Unique.{Lent}
use Rattle.encapsulation_c.proofs.nadrelgos_unwrap.Reads as unwrap
use Rattle.encapsulation_c.proofs.nadrelgos_wrap.Reads as wrap

pub unique_nadrelgos_unwrap : (κs a s t : _) (r q : UnwrapNumbers) → unwrap.Post κs a r s → unwrap.Post κs a q t → r ≡ q
unique_nadrelgos_unwrap = library.unique_nadrelgos_unwrap

pub unique_nadrelgos_wrap : (κs : _) (a s t : Header × (Levels × Lent)) (r q : WriteNumbers) → wrap.Post κs a r s → wrap.Post κs a q t → (r ≡ q) × (s.1.1.1.1.0.now ≡ t.1.1.1.1.0.now)
unique_nadrelgos_wrap = library.unique_nadrelgos_wrap
