-- Set Display and Set Diagnostics: the round trip at their maxima, 30 and 15; the message that clears a fault; the reply.
use Prim.Native.Nat.{ℕ, ◌≤◌}
use native.Mathlib.Omega.{arith}
use mathlib.Core.Path.{◌≡◌, refl, ap, ◌∙◌}
use mathlib.Core.Logic.{◌↔◌}
use mathlib.Core.Bool.{Bool, true, ◌&&◌}
use mathlib.Core.List.{List, [], ◌∷◌}
use lib.ListN.{length, get_or}
use lib.Dec.{eqb}
use borrow.Author.Tests.{le-ltb, eqb-true}
use Rattle.ground.specs.Choose.{choose}
use Rattle.ground.specs.Below.{all}
use Rattle.ground.proofs.Choices.{and_left, and_right}
use Rattle.refusal.specs.Refusal.{gives}
use Rattle.refusal.proofs.Numbers.{same_said}
use Rattle.refusal.specs.declared.Refusal.{Refusal}
use Rattle.std.specs.Prelude.{Result}
use Rattle.display.specs.declared.Message.{Message}
use Rattle.display.specs.declared.Fault.{Fault}
use Rattle.display.specs.Text.{all_text, read_text, text_of, text_bytes}
use Rattle.display.specs.Messages.{display_most, display_own, read_display, display_text, write_display, display_bytes, diagnostics_most, diagnostics_own, read_diagnostics, diagnostics_text, write_diagnostics, diagnostics_bytes, message_values, told_display, fault_values, told_diagnostics, reply, is_reply}
use Rattle.display.proofs.RoundTrip.{written_reads_back, written_again_as}
use Rattle.display.proofs.Shown.{payload_length}

-- "the round trip is proved once over the maximum length and used for both" (02, C-22): at 30
pub display_reads_back : (kind : ℕ) (text : List ℕ) (room : ℕ) (vs : List ℕ) → write_display kind text room ≡ gives vs → (read_display (display_bytes kind text room) ≡ gives (kind ∷ length text ∷ [])) × (display_text (display_bytes kind text room) ≡ text)
display_reads_back kind text = written_reads_back (display_own kind) text display_most

-- and at 15
pub diagnostics_reads_back : (kind major minor : ℕ) (text : List ℕ) (room : ℕ) (vs : List ℕ) → write_diagnostics kind major minor text room ≡ gives vs → (read_diagnostics (diagnostics_bytes kind major minor text room) ≡ gives (kind ∷ major ∷ minor ∷ length text ∷ [])) × (diagnostics_text (diagnostics_bytes kind major minor text room) ≡ text)
diagnostics_reads_back kind major minor text = written_reads_back (diagnostics_own kind major minor) text diagnostics_most

-- and the other way round: what was read and is written again is the same payload
pub display_written_again : (p : List ℕ) (kind n room : ℕ) → read_display p ≡ gives (kind ∷ n ∷ []) → length p ≤ room → (write_display kind (display_text p) room ≡ gives (length p ∷ [])) × (display_bytes kind (display_text p) room ≡ p)
display_written_again p kind n = written_again_as (display_own kind) n display_most p

pub diagnostics_written_again : (p : List ℕ) (kind major minor n room : ℕ) → read_diagnostics p ≡ gives (kind ∷ major ∷ minor ∷ n ∷ []) → length p ≤ room → (write_diagnostics kind major minor (diagnostics_text p) room ≡ gives (length p ∷ [])) × (diagnostics_bytes kind major minor (diagnostics_text p) room ≡ p)
diagnostics_written_again p kind major minor n = written_again_as (diagnostics_own kind major minor) n diagnostics_most p

-- "payload 2 to 32" (003, Table 8)
pub display_length : (p vs : List ℕ) → read_display p ≡ gives vs → (2 ≤ length p) × (length p ≤ 32)
display_length p = payload_length 1 display_most p

-- "payload 4 to 19" (003, Table 10)
pub diagnostics_length : (p vs : List ℕ) → read_diagnostics p ≡ gives vs → (4 ≤ length p) × (length p ≤ 19)
diagnostics_length p = payload_length 3 diagnostics_most p

-- codes 0 and no text are the message that clears a fault (003, Table 12), wherever there is room for it
pub clearing : (kind room : ℕ) → 4 ≤ room → diagnostics_bytes kind 0 0 [] room ≡ kind ∷ 0 ∷ 0 ∷ 0 ∷ []
unfolding text_bytes choose all_text all
clearing kind room h = rw (le-ltb room 4 h) refl

-- and it is read as that
pub clearing_read : (kind : ℕ) → (read_diagnostics (kind ∷ 0 ∷ 0 ∷ 0 ∷ []) ≡ gives (kind ∷ 0 ∷ 0 ∷ 0 ∷ [])) × (diagnostics_text (kind ∷ 0 ∷ 0 ∷ 0 ∷ []) ≡ [])
unfolding read_text text_of choose all_text all
clearing_read kind = (refl, refl)

-- a payload is the reply exactly where it is AC 06
pub reply_exactly : (p : List ℕ) → (is_reply p ≡ true) ↔ (p ≡ reply)
unfolding is_reply all
reply_exactly p = (λ h. only p (eqb-true (length p) 2 (and_left (eqb (length p) 2) (codes p) h)) (and_right (eqb (length p) 2) (codes p) h), λ e. rw e refl)
  where
    codes : List ℕ → Bool
    codes p = eqb (get_or p 0 0) 172 && eqb (get_or p 1 0) 6

    only : (p : List ℕ) → length p ≡ 2 → codes p ≡ true → p ≡ reply
    only [] e h = absurd (let z : ⊥ = omega arith in z)
    only (a ∷ []) e h = absurd (let z : ⊥ = omega arith in z)
    only (a ∷ b ∷ []) e h =
        ap (λ (x : ℕ). x ∷ b ∷ []) (eqb-true a 172 (and_left (eqb a 172) (eqb b 6) h)) ∙ ap (λ (x : ℕ). 172 ∷ x ∷ []) (eqb-true b 6 (and_right (eqb a 172) (eqb b 6) h))
    only (a ∷ b ∷ c ∷ p) e h = absurd (let z : ⊥ = omega arith in z)

-- two readings that say the same are the same
pub same_display : (r q : Result Message Refusal) → told_display r ≡ told_display q → r ≡ q
same_display = same_said message_values (λ m n e i. record { kind = get_or (e i) 0 0; length = get_or (e i) 1 0 })

pub same_diagnostics : (r q : Result Fault Refusal) → told_diagnostics r ≡ told_diagnostics q → r ≡ q
same_diagnostics = same_said fault_values (λ f g e i. record { kind = get_or (e i) 0 0; major = get_or (e i) 1 0; minor = get_or (e i) 2 0; length = get_or (e i) 3 0 })
