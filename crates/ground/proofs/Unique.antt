-- The contracts, as they stand in the source, leave one outcome for each input: one result, one content of the lent bytes.
use mathlib.Core.Path.{◌≡◌, sym, ◌∙◌}
use Prim.Native.Nat.{ℕ}
use mathlib.Core.List.{List}
use denote.Ref.{Bor, MutBor}
use Rattle.ground.proofs.one_if.Reads as one-if
use Rattle.ground.proofs.least.Reads as least
use Rattle.ground.proofs.lay.Reads as lay
use Rattle.ground.proofs.padded.Reads as padded

pub unique_one_if : (a s t : _) (r q : ℕ) → one-if.Post tt a r s → one-if.Post tt a q t → r ≡ q
unique_one_if a s t r q p p' = p.0 ∙ sym p'.0

pub unique_least : (a s t : _) (r q : ℕ) → least.Post tt a r s → least.Post tt a q t → r ≡ q
unique_least a s t r q p p' = p ∙ sym p'

pub unique_lay : (κs : _) (a s t : MutBor (List ℕ) × (ℕ × (Bor (List ℕ) × Unit {0}))) (r q : Unit {0}) → lay.Post κs a r s → lay.Post κs a q t → s.0.now ≡ t.0.now
unique_lay κs a s t r q p p' = p ∙ sym p'

pub unique_padded : (n : ℕ) (fits κs a s t : _) (r q : List ℕ) → padded.Post n fits κs a r s → padded.Post n fits κs a q t → r ≡ q
unique_padded n fits κs a s t r q p p' = p ∙ sym p'
