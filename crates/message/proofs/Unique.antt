-- The contracts, as they stand in the source, leave one outcome for each input: one answer, and one content of the lent bytes.
use Prim.Native.Nat.{ℕ}
use mathlib.Core.Path.{◌≡◌, sym, ◌∙◌}
use mathlib.Core.List.{List}
use denote.Ref.{Bor, MutBor}
use Rattle.refusal.specs.Refusal.{Told}
use Rattle.frame.specs.declared.Header.{Header}
use Rattle.frame.specs.Frame.{Writing, told_written}
use Rattle.frame.proofs.Told.{same_written}
use Rattle.board.specs.declared.Columns.{Columns}
use Rattle.setup.specs.declared.Setup.{Setup}
use Rattle.message.specs.declared.Addressee.{Addressee}
use Rattle.message.proofs.write_to.Reads as write-to
use Rattle.message.proofs.write_signed.Reads as write-signed
use Rattle.message.proofs.write_list.Reads as write-list
use Rattle.message.proofs.write_discovery.Reads as write-discovery
use Rattle.message.proofs.write_identify.Reads as write-identify
use Rattle.message.proofs.write_assign.Reads as write-assign

-- what is told and left is one where it is said to be one
outcome : {told : Told} {left : List ℕ} (r q : Writing) {a b : List ℕ} → (told_written r ≡ told) × (a ≡ left) → (told_written q ≡ told) × (b ≡ left) → (r ≡ q) × (a ≡ b)
outcome r q p p' = (same_written r q (p.0 ∙ sym p'.0), p.1 ∙ sym p'.1)

-- what each was passed, and the same at its exit
abbrev Carried : Type 0
Carried = Setup × (ℕ × (ℕ × (Header × (Bor (List ℕ) × (MutBor (List ℕ) × Unit {0})))))

abbrev Signed : Type 0
Signed = Setup × (Addressee × (ℕ × (MutBor (List ℕ) × Unit {0})))

abbrev Listed : Type 0
Listed = Setup × (Bor Columns × (ℕ × (Addressee × (MutBor (List ℕ) × Unit {0}))))

abbrev Identified : Type 0
Identified = Setup × (Addressee × (MutBor (List ℕ) × Unit {0}))

abbrev Assigned : Type 0
Assigned = Setup × (ℕ × (ℕ × (ℕ × (ℕ × (MutBor (List ℕ) × Unit {0})))))

pub unique_write_to : (κs : _) (a s t : Carried) (r q : Writing) → write-to.Post κs a r s → write-to.Post κs a q t → (r ≡ q) × (s.1.1.1.1.1.0.now ≡ t.1.1.1.1.1.0.now)
unique_write_to κs a s t r q p p' = outcome r q p p'

pub unique_write_signed : (κs : _) (a s t : Signed) (r q : Writing) → write-signed.Post κs a r s → write-signed.Post κs a q t → (r ≡ q) × (s.1.1.1.0.now ≡ t.1.1.1.0.now)
unique_write_signed κs a s t r q p p' = outcome r q p p'

pub unique_write_list : (κs : _) (a s t : Listed) (r q : Writing) → write-list.Post κs a r s → write-list.Post κs a q t → (r ≡ q) × (s.1.1.1.1.0.now ≡ t.1.1.1.1.0.now)
unique_write_list κs a s t r q p p' = outcome r q p p'

pub unique_write_discovery : (κs : _) (a s t : MutBor (List ℕ) × Unit {0}) (r q : Writing) → write-discovery.Post κs a r s → write-discovery.Post κs a q t → (r ≡ q) × (s.0.now ≡ t.0.now)
unique_write_discovery κs a s t r q p p' = outcome r q p p'

pub unique_write_identify : (κs : _) (a s t : Identified) (r q : Writing) → write-identify.Post κs a r s → write-identify.Post κs a q t → (r ≡ q) × (s.1.1.0.now ≡ t.1.1.0.now)
unique_write_identify κs a s t r q p p' = outcome r q p p'

pub unique_write_assign : (κs : _) (a s t : Assigned) (r q : Writing) → write-assign.Post κs a r s → write-assign.Post κs a q t → (r ≡ q) × (s.1.1.1.1.1.0.now ≡ t.1.1.1.1.1.0.now)
unique_write_assign κs a s t r q p p' = outcome r q p p'
