-- The contracts, as they stand in the source, leave one outcome for each input: one answer, one content of the lent output.
use mathlib.Core.Path.{◌≡◌, sym, ◌∙◌}
use mathlib.Core.Bool.{Bool}
use mathlib.Core.List.{List}
use Prim.Native.Nat.{ℕ}
use denote.Ref.{Bor, MutBor}
use Rattle.frame.specs.declared.Header.{Header}
use Rattle.frame.specs.declared.Ready.{Ready}
use Rattle.measure.specs.declared.ReadNumbers.{ReadNumbers}
use Rattle.frame.specs.declared.WriteNumbers.{WriteNumbers}
use Rattle.measure.proofs.measure_good.Reads as good
use Rattle.measure.proofs.measure_read.Reads as read
use Rattle.measure.proofs.measure_write.Reads as write
use Rattle.measure.proofs.measure_prepare.Reads as prepare
use Rattle.measure.proofs.measure_write_ready.Reads as write-ready

pub unique_measure_good : (κs a s t : _) (r q : Bool) → good.Post κs a r s → good.Post κs a q t → r ≡ q
unique_measure_good κs a s t r q p p' = p ∙ sym p'

pub unique_measure_read : (κs a s t : _) (r q : ReadNumbers) → read.Post κs a r s → read.Post κs a q t → r ≡ q
unique_measure_read κs a s t r q p p' = p ∙ sym p'

pub unique_measure_prepare : (κs a s t : _) (r q : Ready) → prepare.Post κs a r s → prepare.Post κs a q t → r ≡ q
unique_measure_prepare κs a s t r q p p' = p ∙ sym p'

-- the payload and the room that are lent to a writer, and the same at its exit
abbrev Lent : Type 0
Lent = Bor (List ℕ) × (MutBor (List ℕ) × Unit {0})

pub unique_measure_write : (κs : _) (a s t : Header × Lent) (r q : WriteNumbers) → write.Post κs a r s → write.Post κs a q t → (r ≡ q) × (s.1.1.0.now ≡ t.1.1.0.now)
unique_measure_write κs a s t r q p p' = (p.0 ∙ sym p'.0, p.1 ∙ sym p'.1)

pub unique_measure_write_ready : (κs : _) (a s t : Ready × Lent) (r q : WriteNumbers) → write-ready.Post κs a r s → write-ready.Post κs a q t → (r ≡ q) × (s.1.1.0.now ≡ t.1.1.0.now)
unique_measure_write_ready κs a s t r q p p' = (p.0 ∙ sym p'.0, p.1 ∙ sym p'.1)
