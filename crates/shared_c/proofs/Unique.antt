-- The contracts promise what those of the library do, so that its theorems hold of them: one outcome for each input.
use mathlib.Core.Path.{◌≡◌}
use Rattle.frame.specs.declared.WriteNumbers.{WriteNumbers}
use Rattle.shared.specs.declared.HolderNumbers.{HolderNumbers}
use Rattle.shared.specs.declared.StoreNumbers.{StoreNumbers}
use Rattle.shared.proofs.Unique as library
use Rattle.shared.proofs.Unique.{Kept, Asked}
use Rattle.shared_c.proofs.nadrelgos_shared_holder.Reads as holder
use Rattle.shared_c.proofs.nadrelgos_shared_store.Reads as store
use Rattle.shared_c.proofs.nadrelgos_shared_answer.Reads as answer

pub unique_nadrelgos_shared_holder : (κs a s t : _) (r q : HolderNumbers) → holder.Post κs a r s → holder.Post κs a q t → r ≡ q
unique_nadrelgos_shared_holder = library.unique_nadrelgos_shared_holder

pub unique_nadrelgos_shared_store : (κs : _) (a s t : Kept) (r q : StoreNumbers) → store.Post κs a r s → store.Post κs a q t → (r ≡ q) × (s.0.now ≡ t.0.now)
unique_nadrelgos_shared_store = library.unique_nadrelgos_shared_store

pub unique_nadrelgos_shared_answer : (κs : _) (a s t : Asked) (r q : WriteNumbers) → answer.Post κs a r s → answer.Post κs a q t → (r ≡ q) × (s.1.1.1.0.now ≡ t.1.1.1.0.now)
unique_nadrelgos_shared_answer = library.unique_nadrelgos_shared_answer
