-- The contracts, as they stand in the source, leave one outcome for each input: one answer, one part of an image, one content of the lent bytes.
use Prim.Native.Nat.{ℕ}
use mathlib.Core.Path.{◌≡◌, sym, ◌∙◌}
use mathlib.Core.List.{List}
use denote.Ref.{Bor, MutBor}
use Rattle.frame.specs.Frame.{Writing}
use Rattle.frame.specs.declared.WriteNumbers.{WriteNumbers}
use Rattle.frame.proofs.Unique.{one_writing}
use Rattle.shared.specs.declared.Found.{Found}
use Rattle.std.specs.Prelude.{Option, Result}
use Rattle.refusal.specs.declared.Refusal.{Refusal}
use Rattle.shared.specs.declared.HolderNumbers.{HolderNumbers}
use Rattle.shared.specs.declared.StoreNumbers.{StoreNumbers}
use Rattle.shared.proofs.Told.{same_found, same_stored}
use Rattle.shared.proofs.holder.Reads as holder
use Rattle.shared.proofs.record.Reads as record-part
use Rattle.shared.proofs.store.Reads as store
use Rattle.shared.proofs.write_answer.Reads as write-answer
use Rattle.shared.proofs.nadrelgos_shared_holder.Reads as face-holder
use Rattle.shared.proofs.nadrelgos_shared_store.Reads as face-store
use Rattle.shared.proofs.nadrelgos_shared_answer.Reads as face-answer

pub unique_holder : (κs a s t : _) (r q : Result (Option Found) Refusal) → holder.Post κs a r s → holder.Post κs a q t → r ≡ q
unique_holder κs a s t r q p p' = same_found r q (p ∙ sym p')

pub unique_record : (κs a s t : _) (r q : Bor (List ℕ)) → record-part.Post κs a r s → record-part.Post κs a q t → r.now ≡ q.now
unique_record κs a s t r q p p' = p ∙ sym p'

pub unique_nadrelgos_shared_holder : (κs a s t : _) (r q : HolderNumbers) → face-holder.Post κs a r s → face-holder.Post κs a q t → r ≡ q
unique_nadrelgos_shared_holder κs a s t r q p p' = p ∙ sym p'

-- the network's copy, the sector and the record that a store is given, and the same at its exit
abbrev pub Kept : Type 0
Kept = MutBor (List ℕ) × (ℕ × (Bor (List ℕ) × Unit {0}))

pub unique_store : (κs : _) (a s t : Kept) (r q : Result ℕ Refusal) → store.Post κs a r s → store.Post κs a q t → (r ≡ q) × (s.0.now ≡ t.0.now)
unique_store κs a s t r q p p' = (same_stored r q (p.0 ∙ sym p'.0), p.1 ∙ sym p'.1)

pub unique_nadrelgos_shared_store : (κs : _) (a s t : Kept) (r q : StoreNumbers) → face-store.Post κs a r s → face-store.Post κs a q t → (r ≡ q) × (s.0.now ≡ t.0.now)
unique_nadrelgos_shared_store κs a s t r q p p' = (p.0 ∙ sym p'.0, p.1 ∙ sym p'.1)

-- the images, the sector and the room that the writer of an answer is given, and the same at its exit
abbrev pub Asked : Type 0
Asked = Bor (List ℕ) × (Bor (List ℕ) × (ℕ × (MutBor (List ℕ) × Unit {0})))

pub unique_write_answer : (κs : _) (a s t : Asked) (r q : Writing) → write-answer.Post κs a r s → write-answer.Post κs a q t → (r ≡ q) × (s.1.1.1.0.now ≡ t.1.1.1.0.now)
unique_write_answer κs a s t r q p p' = one_writing r q p p'

pub unique_nadrelgos_shared_answer : (κs : _) (a s t : Asked) (r q : WriteNumbers) → face-answer.Post κs a r s → face-answer.Post κs a q t → (r ≡ q) × (s.1.1.1.0.now ≡ t.1.1.1.0.now)
unique_nadrelgos_shared_answer κs a s t r q p p' = (p.0 ∙ sym p'.0, p.1 ∙ sym p'.1)
