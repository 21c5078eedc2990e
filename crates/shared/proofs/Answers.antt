-- The answer's payload: what is said of it, with so much room, and what is laid.
use Prim.Native.Nat.{ℕ, ◌+◌, ◌≤◌, ◌<◌}
use native.Mathlib.Omega.{arith}
use mathlib.Core.Path.{◌≡◌, refl, ap, ◌∙◌}
use mathlib.Core.List.{List, [], ◌∷◌}
use lib.ListN.{length}
use lib.Seq.{paste}
use borrow.Author.Tests.{lt-ltb, le-ltb}
use Rattle.ground.specs.Bytes.{laid, fitting}
use Rattle.ground.proofs.Choices.{choose_yes, choose_no}
use Rattle.ground.proofs.Laid.{laid_next}
use Rattle.refusal.specs.Refusal.{Told, refuses, gives, ruled}
use Rattle.refusal.specs.declared.Refusal.{Refusal}
use Rattle.refusal.specs.declared.Refusal.TheVariants.{NoRoom}
use Rattle.std.specs.Prelude.{Option, Ok, Err}
use Rattle.shared.specs.declared.Found.{Found}
use Rattle.shared.specs.Holder.{both_rules}
use Rattle.shared.specs.Looking.{served}
use Rattle.shared.specs.Answer.{fitted, fitted_bytes, answer_payload, answering, answer_bytes}
use Rattle.shared.proofs.Looking.{through, payload_part, payload_is}

-- a payload that fits is laid whole
pub fits_in : (payload o v : List ℕ) (n : ℕ) → n ≡ length payload → length payload ≤ length o → v ≡ laid payload o → (gives (n ∷ []) ≡ fitted payload (length o)) × (v ≡ laid (fitted_bytes payload (length o)) o)
unfolding fitted fitted_bytes
fits_in payload o v n e h q =
    (choose_no _ _ _ _ (le-ltb (length o) (length payload) h) (ap (λ (k : ℕ). gives (k ∷ [])) e), q ∙ ap (λ (x : List ℕ). laid x o) (choose_no _ _ _ _ (le-ltb (length o) (length payload) h) refl))

-- one that does not is refused, and nothing is laid
pub fits_not : (payload o : List ℕ) → length o < length payload → (refuses NoRoom ≡ fitted payload (length o)) × (o ≡ laid (fitted_bytes payload (length o)) o)
unfolding fitted fitted_bytes
fits_not payload o h =
    (choose_yes _ _ _ _ (lt-ltb (length o) (length payload) h) refl, ap (λ (x : List ℕ). laid x o) (choose_yes _ _ _ _ (lt-ltb (length o) (length payload) h) refl))

-- sector and record, laid one after the other, are the payload
pub record_laid : (sector : ℕ) (bytes o u v : List ℕ) → 1 + length bytes ≤ length o → u ≡ paste o 0 (sector ∷ []) (fitting 1 0 (length o)) → v ≡ paste u 1 bytes (fitting (length bytes) 1 (length u)) → v ≡ laid (sector ∷ bytes) o
record_laid sector bytes o u v h first next =
    laid_next (sector ∷ []) bytes o u v 1 refl h (laid_next [] (sector ∷ []) o o u 0 refl (omega (arith, h)) refl first) next

-- what a writer of this payload says and lays is what is said and laid of the answer, where it is the one that is served
pub answered : (n f : List ℕ) (sector : ℕ) (x : Option (Found × List ℕ)) (o v : List ℕ) {t : Told} → Ok x ≡ served n f sector → (t ≡ fitted (payload_part sector x) (length o)) × (v ≡ laid (fitted_bytes (payload_part sector x) (length o)) o) → (t ≡ answering n f sector (length o)) × (v ≡ laid (answer_bytes n f sector (length o)) o)
unfolding answering answer_bytes
answered n f sector x o v e h =
    (h.0 ∙ through n f sector refuses (λ y. fitted (payload_part sector y) (length o)) _ e ∙ ap (λ (p : List ℕ). ruled (both_rules n f) refuses (fitted p (length o))) (payload_is n f sector), h.1 ∙ ap (λ (b : List ℕ). laid b o) (through n f sector (λ q. []) (λ y. fitted_bytes (payload_part sector y) (length o)) _ e ∙ ap (λ (p : List ℕ). ruled (both_rules n f) (λ q. []) (fitted_bytes p (length o))) (payload_is n f sector)))

-- and a refusal is the same
pub answer_refused : (n f : List ℕ) (sector : ℕ) (q : Refusal) (o : List ℕ) → Err q ≡ served n f sector → (refuses q ≡ answering n f sector (length o)) × (o ≡ laid (answer_bytes n f sector (length o)) o)
unfolding answering answer_bytes
answer_refused n f sector q o e =
    (through n f sector refuses (λ y. fitted (answer_payload n f sector) (length o)) _ e, ap (λ (b : List ℕ). laid b o) (through n f sector (λ q. []) (λ y. fitted_bytes (answer_payload n f sector) (length o)) _ e))
