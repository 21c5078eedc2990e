-- The contract of `begin`, as it stands in the source, leaves one result for each input.
use mathlib.Core.Path.{◌≡◌, sym, ◌∙◌}
use base.Fml.{Lft}
use Rattle.start.specs.declared.Begun.{Begun}
use Rattle.start.proofs.begin.Reads as begin

pub unique_begin : (κs : Lft × Unit {0}) (a s t : _) (r q : Begun) → begin.Post κs a r s → begin.Post κs a q t → r ≡ q
unique_begin κs a s t r q p p' = p ∙ sym p'
