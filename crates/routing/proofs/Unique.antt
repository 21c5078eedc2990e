-- The contract of `route`, as it stands in the source, leaves one result for each input.
use mathlib.Core.Path.{◌≡◌, sym, ◌∙◌}
use Prim.Native.Nat.{ℕ}
use Rattle.routing.proofs.route.Reads as route

pub unique_route : (κs a s t : _) (r q : ℕ) → route.Post κs a r s → route.Post κs a q t → r ≡ q
unique_route κs a s t r q p p' = p ∙ sym p'
