-- The contracts, as they stand in the source, leave one result for each input.
use mathlib.Core.Path.{◌≡◌, sym, ◌∙◌}
use mathlib.Core.List.{List}
use Prim.Native.Nat.{ℕ}
use base.Fml.{Lft}
use Rattle.word.proofs.bytes_of.Reads as bytes_of
use Rattle.word.proofs.word_at.Reads as word_at

pub unique_bytes_of : (a s t : _) (r q : List ℕ) → bytes_of.Post tt a r s → bytes_of.Post tt a q t → r ≡ q
unique_bytes_of a s t r q p p' = p ∙ sym p'

pub unique_word_at : (κs : Lft × Unit {0}) (a s t : _) (r q : ℕ) → word_at.Post κs a r s → word_at.Post κs a q t → r ≡ q
unique_word_at κs a s t r q p p' = p ∙ sym p'
