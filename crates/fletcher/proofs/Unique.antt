-- The contracts, as they stand in the source, leave one result for each input.
use mathlib.Core.Path.{◌≡◌, sym, ◌∙◌}
use mathlib.Core.Bool.{Bool}
use mathlib.Core.List.{List}
use Prim.Native.Nat.{ℕ}
use Rattle.fletcher.specs.declared.Sums.{Sums}
use Rattle.fletcher.proofs.seed.Reads as seed
use Rattle.fletcher.proofs.sums_over.Reads as sums-over
use Rattle.fletcher.proofs.good.Reads as good
use Rattle.fletcher.proofs.good_run.Reads as good-run
use Rattle.fletcher.proofs.check_after.Reads as check-after
use Rattle.fletcher.proofs.check_bytes.Reads as check-bytes

pub unique_seed : (κs a s t : _) (r q : Sums) → seed.Post κs a r s → seed.Post κs a q t → r ≡ q
unique_seed κs a s t r q p p' = p ∙ sym p'

pub unique_sums_over : (κs a s t : _) (r q : Sums) → sums-over.Post κs a r s → sums-over.Post κs a q t → r ≡ q
unique_sums_over κs a s t r q p p' = p.0 ∙ sym p'.0

pub unique_good : (κs a s t : _) (r q : Bool) → good.Post κs a r s → good.Post κs a q t → r ≡ q
unique_good κs a s t r q p p' = p ∙ sym p'

pub unique_good_run : (κs a s t : _) (r q : Bool) → good-run.Post κs a r s → good-run.Post κs a q t → r ≡ q
unique_good_run κs a s t r q p p' = p ∙ sym p'

pub unique_check_after : (κs a s t : _) (r q : List ℕ) → check-after.Post κs a r s → check-after.Post κs a q t → r ≡ q
unique_check_after κs a s t r q p p' = p ∙ sym p'

pub unique_check_bytes : (κs a s t : _) (r q : List ℕ) → check-bytes.Post κs a r s → check-bytes.Post κs a q t → r ≡ q
unique_check_bytes κs a s t r q p p' = p ∙ sym p'
