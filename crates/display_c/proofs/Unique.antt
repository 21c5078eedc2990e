-- The contracts promise what those of the library do, so that its theorems hold of them: one outcome for each input.
use mathlib.Core.Path.{◌≡◌}
use mathlib.Core.Bool.{Bool}
use Prim.Native.Nat.{ℕ}
use Rattle.frame.specs.declared.WriteNumbers.{WriteNumbers}
use Rattle.display.specs.declared.TextNumbers.{TextNumbers}
use Rattle.display.proofs.Unique as library
use Rattle.display.proofs.Unique.{Lent}
use Rattle.display_c.proofs.nadrelgos_read_display.Reads as read-display
use Rattle.display_c.proofs.nadrelgos_read_diagnostics.Reads as read-diagnostics
use Rattle.display_c.proofs.nadrelgos_write_display.Reads as write-display
use Rattle.display_c.proofs.nadrelgos_write_diagnostics.Reads as write-diagnostics
use Rattle.display_c.proofs.nadrelgos_is_reply.Reads as is-reply

pub unique_nadrelgos_read_display : (κs a s t : _) (r q : TextNumbers) → read-display.Post κs a r s → read-display.Post κs a q t → r ≡ q
unique_nadrelgos_read_display = library.unique_nadrelgos_read_display

pub unique_nadrelgos_read_diagnostics : (κs a s t : _) (r q : TextNumbers) → read-diagnostics.Post κs a r s → read-diagnostics.Post κs a q t → r ≡ q
unique_nadrelgos_read_diagnostics = library.unique_nadrelgos_read_diagnostics

pub unique_nadrelgos_is_reply : (κs a s t : _) (r q : Bool) → is-reply.Post κs a r s → is-reply.Post κs a q t → r ≡ q
unique_nadrelgos_is_reply = library.unique_nadrelgos_is_reply

pub unique_nadrelgos_write_display : (κs : _) (a s t : ℕ × Lent) (r q : WriteNumbers) → write-display.Post κs a r s → write-display.Post κs a q t → (r ≡ q) × (s.1.1.0.now ≡ t.1.1.0.now)
unique_nadrelgos_write_display = library.unique_nadrelgos_write_display

pub unique_nadrelgos_write_diagnostics : (κs : _) (a s t : ℕ × (ℕ × (ℕ × Lent))) (r q : WriteNumbers) → write-diagnostics.Post κs a r s → write-diagnostics.Post κs a q t → (r ≡ q) × (s.1.1.1.1.0.now ≡ t.1.1.1.1.0.now)
unique_nadrelgos_write_diagnostics = library.unique_nadrelgos_write_diagnostics
