-- The contracts, as they stand in the source, leave one outcome for each input: one answer, and one content of the lent bytes, or of the lent line.
use mathlib.Core.Path.{◌≡◌, sym, ◌∙◌}
use mathlib.Core.Bool.{Bool}
use mathlib.Core.List.{List}
use Prim.Native.Nat.{ℕ}
use denote.Ref.{Bor, MutBor}
use Rattle.std.specs.Prelude.{Option, option_map}
use Rattle.script.specs.declared.Line.{Line}
use Rattle.script.proofs.within.Reads as within
use Rattle.script.proofs.is_passed.Reads as is-passed
use Rattle.script.proofs.before.Reads as before
use Rattle.script.proofs.line_at.Reads as line-at
use Rattle.script.proofs.same.Reads as same
use Rattle.script.proofs.field_at.Reads as field_at
use Rattle.script.proofs.bytes_from.Reads as bytes-from
use Rattle.script.proofs.spell.Reads as spell
use Rattle.script.proofs.Line.word.Reads as word
use Rattle.script.proofs.Line.number.Reads as number
use Rattle.script.proofs.byte.Reads as byte
use Rattle.script.proofs.Line.byte.Reads as line-byte
use Rattle.script.proofs.Line.room.Reads as room
use Rattle.script.proofs.Line.is_over.Reads as is-over

pub unique_within : (κs a s t : _) (r q : ℕ) → within.Post κs a r s → within.Post κs a q t → r ≡ q
unique_within κs a s t r q p p' = p.0 ∙ sym p'.0

pub unique_is_passed : (κs a s t : _) (r q : Bool) → is-passed.Post κs a r s → is-passed.Post κs a q t → r ≡ q
unique_is_passed κs a s t r q p p' = p ∙ sym p'

pub unique_before : (κs a s t : _) (r q : ℕ) → before.Post κs a r s → before.Post κs a q t → r ≡ q
unique_before κs a s t r q p p' = p.0 ∙ sym p'.0

pub unique_line_at : (κs a s t : _) (r q : Option (Bor (List ℕ) × ℕ)) → line-at.Post κs a r s → line-at.Post κs a q t → option_map {U = List ℕ × ℕ} (λ l. (l.0.now, l.1)) r ≡ option_map (λ l. (l.0.now, l.1)) q
unique_line_at κs a s t r q p p' = p.0 ∙ sym p'.0

pub unique_same : (κs a s t : _) (r q : Bool) → same.Post κs a r s → same.Post κs a q t → r ≡ q
unique_same κs a s t r q p p' = p ∙ sym p'

pub unique_field_at : (κs a s t : _) (r q : Option ℕ × ℕ) → field_at.Post κs a r s → field_at.Post κs a q t → r ≡ q
unique_field_at κs a s t r q p p' = p.0 ∙ sym p'.0

pub unique_byte : (a s t : _) (r q : ℕ) → byte.Post tt a r s → byte.Post tt a q t → r ≡ q
unique_byte a s t r q p p' = p ∙ sym p'

pub unique_bytes_from : (κs : _) (a s t : Bor (List ℕ) × (ℕ × (MutBor (List ℕ) × Unit {0}))) (r q : Option ℕ) → bytes-from.Post κs a r s → bytes-from.Post κs a q t → (r ≡ q) × (s.1.1.0.now ≡ t.1.1.0.now)
unique_bytes_from κs a s t r q p p' = (p.0 ∙ sym p'.0, p.1.0 ∙ sym p'.1.0)

pub unique_spell : (κs : _) (a s t : Bor (List ℕ) × (MutBor (List ℕ) × Unit {0})) (r q : ℕ) → spell.Post κs a r s → spell.Post κs a q t → (r ≡ q) × (s.1.0.now ≡ t.1.0.now)
unique_spell κs a s t r q p p' = (p.0.0 ∙ sym p'.0.0, p.0.1 ∙ sym p'.0.1)

pub unique_word : (κs : _) (a s t : MutBor Line × Unit {0}) (r q : Option (Bor (List ℕ))) → word.Post κs a r s → word.Post κs a q t → (option_map (λ w. w.now) r ≡ option_map (λ w. w.now) q) × (s.0.now.at ≡ t.0.now.at) × (s.0.now.text ≡ t.0.now.text)
unique_word κs a s t r q p p' = (p.0 ∙ sym p'.0, p.1 ∙ sym p'.1, p.2 ∙ sym p'.2)

pub unique_number : (κs : _) (a s t : MutBor Line × (ℕ × Unit {0})) (r q : Option ℕ) → number.Post κs a r s → number.Post κs a q t → (r ≡ q) × (s.0.now.at ≡ t.0.now.at) × (s.0.now.text ≡ t.0.now.text)
unique_number κs a s t r q p p' = (p.0.0 ∙ sym p'.0.0, p.0.1 ∙ sym p'.0.1, p.0.2 ∙ sym p'.0.2)

pub unique_line_byte : (κs : _) (a s t : MutBor Line × Unit {0}) (r q : Option ℕ) → line-byte.Post κs a r s → line-byte.Post κs a q t → (r ≡ q) × (s.0.now.at ≡ t.0.now.at) × (s.0.now.text ≡ t.0.now.text)
unique_line_byte κs a s t r q p p' = (p.0.0 ∙ sym p'.0.0, p.0.1 ∙ sym p'.0.1, p.0.2 ∙ sym p'.0.2)

pub unique_room : (κs : _) (a s t : MutBor Line × Unit {0}) (r q : Option ℕ) → room.Post κs a r s → room.Post κs a q t → (r ≡ q) × (s.0.now.at ≡ t.0.now.at) × (s.0.now.text ≡ t.0.now.text)
unique_room κs a s t r q p p' = (p.0.0 ∙ sym p'.0.0, p.0.1 ∙ sym p'.0.1, p.0.2 ∙ sym p'.0.2)

pub unique_is_over : (κs a s t : _) (r q : Bool) → is-over.Post κs a r s → is-over.Post κs a q t → r ≡ q
unique_is_over κs a s t r q p p' = p ∙ sym p'
