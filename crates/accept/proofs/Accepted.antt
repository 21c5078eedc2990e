-- What each wait takes: exactly what the rule book says (01, "Frame .. is accepted as follows").
use Prim.Native.Nat.{ℕ, ◌+◌, ◌≤◌}
use native.Mathlib.Omega.{arith}
use mathlib.Core.Path.{◌≡◌, refl, sym, ap, ◌∙◌}
use mathlib.Core.Logic.Iff
use mathlib.Core.Logic.{◌⊎◌, inl, inr, ◌↔◌}
use mathlib.Core.Bool.{Bool, true, false, ◌&&◌, not, false≢true}
use mathlib.Core.List.{List, [], ◌∷◌}
use lib.Dec.{eqb, ltb}
use Rattle.std.specs.Prelude.{Result, Ok, Err}
use borrow.Author.Tests.{eqb-true, eq-eqb, ltb-false, le-ltb, not-true, not-false}
use Rattle.ground.proofs.Choices.{and_left, and_right, both, or_left, or_right, either, not_yes, not_no}
use Rattle.refusal.specs.declared.Refusal.{Refusal}
use Rattle.refusal.specs.declared.Refusal.TheVariants.{UnexpectedType, BadEcho, BadMethod}
use Rattle.refusal.proofs.Numbers.{not_zero}
use Rattle.refusal.proofs.Rules.{Passed, accepted_exactly}
use Rattle.board.specs.declared.Node.{Node}
use Rattle.nodelist.specs.List.{list_for, same_list}
use Rattle.nodelist.proofs.Theorems.{same_yes, same_of}
use Rattle.accept.specs.declared.Heard.{Heard}
use Rattle.accept.specs.declared.Heard.TheVariants.{Ack, Echo}
use Rattle.accept.specs.Accept.{ack_type, request_type, offer_types, list_types, forward_types, return_types, unexpected, heard_after_offer, heard_after_list, heard_after_forward, heard_after_return, told_heard}
use Rattle.accept.proofs.Cases.{request_yes, request_only}
use Rattle.accept.proofs.Exactly.{unexpected_exactly}

-- a frame is accepted: no number is given
abbrev pub Accepted : Result Heard Refusal → Type 0
Accepted h = (told_heard h).number ≡ 0

-- 7 is not given: the type is in the list, and type 0 is an ACK
module _ (listed : Bool) (m : ℕ) (a : Bool) where
  expected : unexpected listed m a ≡ false → (listed ≡ true) × (m ≡ 0 → a ≡ true)
  expected h = (by_list listed refl, λ z. by_ack z a refl)
    where
      by_list : (b : Bool) → listed ≡ b → listed ≡ true
      by_list true e = e
      by_list false e = absurd (false≢true (sym h ∙ (unexpected_exactly listed m a).1 (inl e)))

      by_ack : m ≡ 0 → (b : Bool) → a ≡ b → a ≡ true
      by_ack z true e = e
      by_ack z false e = absurd (false≢true (sym h ∙ (unexpected_exactly listed m a).1 (inr (z, e))))

  as_expected : listed ≡ true → (m ≡ 0 → a ≡ true) → unexpected listed m a ≡ false
  as_expected e h = rw e (go (ack_type m) refl)
    where
      go : (b : Bool) → ack_type m ≡ b → (b && not a) ≡ false
      go true z = not_no a (h (eqb-true m 0 z))
      go false z = refl

-- after an offer: an ACK, or a request of type 1 to 127 with method 0 to 3
pub accepted_after_offer : (m d : ℕ) (a : Bool) → Accepted (heard_after_offer m d a) ↔ (((m ≡ 0) × (a ≡ true)) ⊎ (((1 ≤ m) × (m ≤ 127)) × (d ≤ 3)))
unfolding heard_after_offer
accepted_after_offer m d a = Iff.trans (accepted_exactly Accepted Err _ refl not_zero rules) (only, when)
  where
    rules : List (Bool × Refusal)
    rules = (unexpected (offer_types m) m a, UnexpectedType) ∷ (request_type m && ltb 3 d, BadMethod) ∷ []

    only : Passed rules → ((m ≡ 0) × (a ≡ true)) ⊎ (((1 ≤ m) × (m ≤ 127)) × (d ≤ 3))
    only (e, (g, t)) = go (either (ack_type m) (request_type m) (expected (offer_types m) m a e).0)
      where
        go : (ack_type m ≡ true) ⊎ (request_type m ≡ true) → ((m ≡ 0) × (a ≡ true)) ⊎ (((1 ≤ m) × (m ≤ 127)) × (d ≤ 3))
        go (inl z) = inl (eqb-true m 0 z, (expected (offer_types m) m a e).1 (eqb-true m 0 z))
        go (inr r) = inr (request_only m r, ltb-false 3 d (ap (λ (b : Bool). b && ltb 3 d) (sym r) ∙ g))

    when : ((m ≡ 0) × (a ≡ true)) ⊎ (((1 ≤ m) × (m ≤ 127)) × (d ≤ 3)) → Passed rules
    when (inl (z, t)) = (as_expected (offer_types m) m a (or_left (ack_type m) (request_type m) (eq-eqb m 0 z)) (λ e. t), (rw z refl, tt))
    when (inr ((l, k), n)) =
        (as_expected (offer_types m) m a (or_right (ack_type m) (request_type m) (request_yes m l k)) (λ e. absurd (let z : ⊥ = omega arith in z)), (rw (request_yes m l k, le-ltb 3 d n) refl, tt))

-- after a list: type 0x94 whose payload equals the list sent
pub accepted_after_list : (m version internal : ℕ) (t : List Node) (payload : List ℕ) → Accepted (heard_after_list m (same_list version internal t payload)) ↔ ((m ≡ 148) × (payload ≡ list_for version internal t))
unfolding heard_after_list
accepted_after_list m version internal t payload =
    Iff.trans (accepted_exactly Accepted Err (Ok Echo) refl not_zero ((not (list_types m), UnexpectedType) ∷ (not (same_list version internal t payload), BadEcho) ∷ [])) (
      (λ h. (eqb-true m 148 (not-false (list_types m) h.0), same_yes (list_for version internal t) payload (not-false (same_list version internal t payload) h.1.0))),
      (λ h. (not_no (list_types m) (eq-eqb m 148 h.0), (not_no (same_list version internal t payload) (same_of (list_for version internal t) payload h.1), tt))),
    )

-- after a forward: at most one ACK, and the response, type = request + 128
pub accepted_after_forward : (m q : ℕ) (a d : Bool) → Accepted (heard_after_forward m q a d) ↔ (((m ≡ 0) × ((a ≡ true) × (d ≡ false))) ⊎ (m ≡ q + 128))
unfolding heard_after_forward
accepted_after_forward m q a d = Iff.trans (accepted_exactly Accepted Err _ refl not_zero ((unexpected (forward_types q d m) m a, UnexpectedType) ∷ [])) (only, when)
  where
    only : Passed ((unexpected (forward_types q d m) m a, UnexpectedType) ∷ []) → ((m ≡ 0) × ((a ≡ true) × (d ≡ false))) ⊎ (m ≡ q + 128)
    only (e, t) = go (either (ack_type m && not d) (eqb m (q + 128)) (expected (forward_types q d m) m a e).0)
      where
        go : ((ack_type m && not d) ≡ true) ⊎ (eqb m (q + 128) ≡ true) → ((m ≡ 0) × ((a ≡ true) × (d ≡ false))) ⊎ (m ≡ q + 128)
        go (inl h) = let z : m ≡ 0 = eqb-true m 0 (and_left (ack_type m) (not d) h) in inl (z, ((expected (forward_types q d m) m a e).1 z, not-true d (and_right (ack_type m) (not d) h)))
        go (inr h) = inr (eqb-true m (q + 128) h)

    when : ((m ≡ 0) × ((a ≡ true) × (d ≡ false))) ⊎ (m ≡ q + 128) → Passed ((unexpected (forward_types q d m) m a, UnexpectedType) ∷ [])
    when (inl (z, (t, s))) = (as_expected (forward_types q d m) m a (or_left (ack_type m && not d) (eqb m (q + 128)) (both (ack_type m) (not d) (eq-eqb m 0 z) (not_yes d s))) (λ e. t), tt)
    when (inr e) = (as_expected (forward_types q d m) m a (or_right (ack_type m && not d) (eqb m (q + 128)) (eq-eqb m (q + 128) e)) (λ z. absurd (let n : ⊥ = omega arith in n)), tt)

-- after a return: an ACK
pub accepted_after_return : (m : ℕ) (a : Bool) → Accepted (heard_after_return m a) ↔ ((m ≡ 0) × (a ≡ true))
unfolding heard_after_return
accepted_after_return m a = Iff.trans (accepted_exactly Accepted Err (Ok Ack) refl not_zero ((unexpected (return_types m) m a, UnexpectedType) ∷ [])) (only, when)
  where
    only : Passed ((unexpected (return_types m) m a, UnexpectedType) ∷ []) → (m ≡ 0) × (a ≡ true)
    only (e, t) = let z : m ≡ 0 = eqb-true m 0 (expected (return_types m) m a e).0 in (z, (expected (return_types m) m a e).1 z)

    when : (m ≡ 0) × (a ≡ true) → Passed ((unexpected (return_types m) m a, UnexpectedType) ∷ [])
    when (z, t) = (as_expected (return_types m) m a (eq-eqb m 0 z) (λ e. t), tt)
