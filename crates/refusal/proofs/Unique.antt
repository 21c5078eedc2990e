-- The contract of `number`, as it stands in the source, leaves one result for each input.
use mathlib.Core.Path.{◌≡◌, sym, ◌∙◌}
use Prim.Native.Nat.{ℕ}
use Rattle.refusal.proofs.number.Reads as number

pub unique_number : (a s t : _) (r q : ℕ) → number.Post tt a r s → number.Post tt a q t → r ≡ q
unique_number a s t r q p p' = p ∙ sym p'
