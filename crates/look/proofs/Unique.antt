-- The contracts, as they stand in the source, leave one result for each input.
use Prim.Native.Nat.{ℕ}
use mathlib.Core.Path.{◌≡◌, sym, ◌∙◌}
use mathlib.Core.Bool.{Bool}
use denote.Ref.{MutBor}
use Rattle.board.specs.declared.Node.{Node}
use Rattle.look.specs.declared.Digest.{Digest}
use Rattle.look.proofs.Digest.new.Reads as new
use Rattle.look.proofs.Digest.note.Reads as note
use Rattle.look.proofs.fits.Reads as fits

pub unique_fits : (κs a s t : _) (r q : Bool) → fits.Post κs a r s → fits.Post κs a q t → r ≡ q
unique_fits κs a s t r q p p' = p ∙ sym p'

pub unique_new : (a s t : _) (r q : Digest) → new.Post tt a r s → new.Post tt a q t → r ≡ q
unique_new a s t r q p p' = p ∙ sym p'

-- what is passed to `note`, and the same at its exit
abbrev Notes : Type 0
Notes = MutBor Digest × (ℕ × (ℕ × (Node × Unit {0})))

pub unique_note : (κs : _) (a s t : Notes) (r q : Unit {0}) → note.Post κs a r s → note.Post κs a q t → s.0.now ≡ t.0.now
unique_note κs a s t r q p p' = p ∙ sym p'
