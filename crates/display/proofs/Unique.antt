-- The contracts, as they stand in the source, leave one outcome for each input: one answer, one part of the payload, one content of the lent output.
use mathlib.Core.Path.{◌≡◌, sym, ◌∙◌}
use mathlib.Core.Bool.{Bool}
use mathlib.Core.List.{List}
use Prim.Native.Nat.{ℕ}
use denote.Ref.{Bor, MutBor}
use Rattle.frame.specs.Frame.{Writing}
use Rattle.frame.specs.declared.WriteNumbers.{WriteNumbers}
use Rattle.frame.proofs.Unique.{one_writing}
use Rattle.std.specs.Prelude.{Result}
use Rattle.refusal.specs.declared.Refusal.{Refusal}
use Rattle.display.specs.declared.Message.{Message}
use Rattle.display.specs.declared.Fault.{Fault}
use Rattle.display.specs.declared.TextNumbers.{TextNumbers}
use Rattle.display.proofs.Messages.{same_display, same_diagnostics}
use Rattle.display.proofs.read_display.Reads as read-display
use Rattle.display.proofs.display_text.Reads as display-text
use Rattle.display.proofs.write_display.Reads as write-display
use Rattle.display.proofs.read_diagnostics.Reads as read-diagnostics
use Rattle.display.proofs.diagnostics_text.Reads as diagnostics-text
use Rattle.display.proofs.write_diagnostics.Reads as write-diagnostics
use Rattle.display.proofs.is_reply.Reads as is-reply
use Rattle.display.proofs.nadrelgos_read_display.Reads as face-read-display
use Rattle.display.proofs.nadrelgos_read_diagnostics.Reads as face-read-diagnostics
use Rattle.display.proofs.nadrelgos_write_display.Reads as face-write-display
use Rattle.display.proofs.nadrelgos_write_diagnostics.Reads as face-write-diagnostics
use Rattle.display.proofs.nadrelgos_is_reply.Reads as face-is-reply

pub unique_read_display : (κs a s t : _) (r q : Result Message Refusal) → read-display.Post κs a r s → read-display.Post κs a q t → r ≡ q
unique_read_display κs a s t r q p p' = same_display r q (p ∙ sym p')

pub unique_read_diagnostics : (κs a s t : _) (r q : Result Fault Refusal) → read-diagnostics.Post κs a r s → read-diagnostics.Post κs a q t → r ≡ q
unique_read_diagnostics κs a s t r q p p' = same_diagnostics r q (p ∙ sym p')

pub unique_display_text : (κs a s t : _) (r q : Bor (List ℕ)) → display-text.Post κs a r s → display-text.Post κs a q t → r.now ≡ q.now
unique_display_text κs a s t r q p p' = p ∙ sym p'

pub unique_diagnostics_text : (κs a s t : _) (r q : Bor (List ℕ)) → diagnostics-text.Post κs a r s → diagnostics-text.Post κs a q t → r.now ≡ q.now
unique_diagnostics_text κs a s t r q p p' = p ∙ sym p'

pub unique_is_reply : (κs a s t : _) (r q : Bool) → is-reply.Post κs a r s → is-reply.Post κs a q t → r ≡ q
unique_is_reply κs a s t r q p p' = p ∙ sym p'

pub unique_nadrelgos_read_display : (κs a s t : _) (r q : TextNumbers) → face-read-display.Post κs a r s → face-read-display.Post κs a q t → r ≡ q
unique_nadrelgos_read_display κs a s t r q p p' = p ∙ sym p'

pub unique_nadrelgos_read_diagnostics : (κs a s t : _) (r q : TextNumbers) → face-read-diagnostics.Post κs a r s → face-read-diagnostics.Post κs a q t → r ≡ q
unique_nadrelgos_read_diagnostics κs a s t r q p p' = p ∙ sym p'

pub unique_nadrelgos_is_reply : (κs a s t : _) (r q : Bool) → face-is-reply.Post κs a r s → face-is-reply.Post κs a q t → r ≡ q
unique_nadrelgos_is_reply κs a s t r q p p' = p ∙ sym p'

-- the text and the room that are lent to a writer, and the same at its exit
abbrev pub Lent : Type 0
Lent = Bor (List ℕ) × (MutBor (List ℕ) × Unit {0})

-- what the writers are given, and the room's content at their exit
abbrev Display·given : Type 0
Display·given = ℕ × Lent

abbrev Diagnostics·given : Type 0
Diagnostics·given = ℕ × (ℕ × (ℕ × Lent))

pub unique_write_display : (κs : _) (a s t : Display·given) (r q : Writing) → write-display.Post κs a r s → write-display.Post κs a q t → (r ≡ q) × (s.1.1.0.now ≡ t.1.1.0.now)
unique_write_display κs a s t r q p p' = one_writing r q p p'

pub unique_write_diagnostics : (κs : _) (a s t : Diagnostics·given) (r q : Writing) → write-diagnostics.Post κs a r s → write-diagnostics.Post κs a q t → (r ≡ q) × (s.1.1.1.1.0.now ≡ t.1.1.1.1.0.now)
unique_write_diagnostics κs a s t r q p p' = one_writing r q p p'

pub unique_nadrelgos_write_display : (κs : _) (a s t : Display·given) (r q : WriteNumbers) → face-write-display.Post κs a r s → face-write-display.Post κs a q t → (r ≡ q) × (s.1.1.0.now ≡ t.1.1.0.now)
unique_nadrelgos_write_display κs a s t r q p p' = (p.0 ∙ sym p'.0, p.1 ∙ sym p'.1)

pub unique_nadrelgos_write_diagnostics : (κs : _) (a s t : Diagnostics·given) (r q : WriteNumbers) → face-write-diagnostics.Post κs a r s → face-write-diagnostics.Post κs a q t → (r ≡ q) × (s.1.1.1.1.0.now ≡ t.1.1.1.1.0.now)
unique_nadrelgos_write_diagnostics κs a s t r q p p' = (p.0 ∙ sym p'.0, p.1 ∙ sym p'.1)
