-- When the numbers 7, 8 and 9 are given: exactly when the rule book says (01, "Numbers").
use Prim.Native.Nat.{ℕ, ◌+◌, ◌≤◌, ◌<◌}
use mathlib.Core.Path.{◌≡◌, refl, sym, ap, ◌∙◌}
use mathlib.Core.Logic.Iff
use mathlib.Core.Logic.{◌⊎◌, inl, inr, ◌↔◌}
use mathlib.Core.Bool.{Bool, true, false, ◌&&◌, not, false≢true}
use mathlib.Core.List.{List, [], ◌∷◌}
use native.Mathlib.Omega.{arith}
use lib.Dec.{eqb, ltb}
use Rattle.std.specs.Prelude.{Ok, Err}
use borrow.Author.Tests.{eqb-true, eq-eqb, ne_eqb, ltb-true, lt-ltb, not-true, not-false}
use Rattle.ground.specs.Choose.{choose}
use Rattle.ground.proofs.Choices.{and_left, and_right, both, or_left, or_right, either, not_yes, not_no}
use Rattle.refusal.specs.Refusal.{number_of, ruled}
use Rattle.refusal.specs.declared.Refusal.{Refusal}
use Rattle.refusal.specs.declared.Refusal.TheVariants.{UnexpectedType, BadEcho, BadMethod}
use Rattle.board.specs.declared.Node.{Node}
use Rattle.nodelist.specs.List.{list_for, same_list}
use Rattle.nodelist.proofs.Theorems.{same_yes, same_of}
use Rattle.accept.specs.declared.Heard.TheVariants.{Ack, Echo, Deliver, Route}
use Rattle.accept.specs.Accept.{ack_type, request_type, offer_types, list_types, forward_types, return_types, unexpected, heard_after_offer, heard_after_list, heard_after_forward, heard_after_return}
use Rattle.accept.proofs.Cases.{err_first, err_later, request_yes, request_only, other_type}

-- the two clauses of number 7
pub unexpected_exactly : (listed : Bool) (m : ℕ) (a : Bool) → (unexpected listed m a ≡ true) ↔ ((listed ≡ false) ⊎ ((m ≡ 0) × (a ≡ false)))
unexpected_exactly listed m a = (only, when)
  where
    only : unexpected listed m a ≡ true → (listed ≡ false) ⊎ ((m ≡ 0) × (a ≡ false))
    only h = go (either (not listed) (ack_type m && not a) h)
      where
        go : (not listed ≡ true) ⊎ ((ack_type m && not a) ≡ true) → (listed ≡ false) ⊎ ((m ≡ 0) × (a ≡ false))
        go (inl e) = inl (not-true listed e)
        go (inr e) = inr (eqb-true m 0 (and_left (ack_type m) (not a) e), not-true a (and_right (ack_type m) (not a) e))

    when : (listed ≡ false) ⊎ ((m ≡ 0) × (a ≡ false)) → unexpected listed m a ≡ true
    when (inl e) = or_left (not listed) (ack_type m && not a) (not_yes listed e)
    when (inr (z, e)) = or_right (not listed) (ack_type m && not a) (both (ack_type m) (not a) (eq-eqb m 0 z) (not_yes a e))

-- 7: type not in the list for this wait, or type 0 that is no such ACK
pub unexpected_after_offer : (m d : ℕ) (a : Bool) → (heard_after_offer m d a ≡ Err UnexpectedType) ↔ ((offer_types m ≡ false) ⊎ ((m ≡ 0) × (a ≡ false)))
unfolding heard_after_offer
unexpected_after_offer m d a =
    Iff.trans (err_first _ (unexpected (offer_types m) m a) UnexpectedType ((request_type m && ltb 3 d, BadMethod) ∷ []) ((λ e. omega (arith, ap number_of e)), tt))
    (unexpected_exactly (offer_types m) m a)

pub unexpected_after_list : (m : ℕ) (s : Bool) → (heard_after_list m s ≡ Err UnexpectedType) ↔ (list_types m ≡ false)
unfolding heard_after_list
unexpected_after_list m s =
    Iff.trans (err_first Echo (not (list_types m)) UnexpectedType ((not s, BadEcho) ∷ []) ((λ e. omega (arith, ap number_of e)), tt))
    (not-true (list_types m), not_yes (list_types m))

pub unexpected_after_forward : (m q : ℕ) (a d : Bool) → (heard_after_forward m q a d ≡ Err UnexpectedType) ↔ ((forward_types q d m ≡ false) ⊎ ((m ≡ 0) × (a ≡ false)))
unfolding heard_after_forward
unexpected_after_forward m q a d =
    Iff.trans (err_first _ (unexpected (forward_types q d m) m a) UnexpectedType [] tt)
    (unexpected_exactly (forward_types q d m) m a)

pub unexpected_after_return : (m : ℕ) (a : Bool) → (heard_after_return m a ≡ Err UnexpectedType) ↔ ((return_types m ≡ false) ⊎ ((m ≡ 0) × (a ≡ false)))
unfolding heard_after_return
unexpected_after_return m a =
    Iff.trans (err_first Ack (unexpected (return_types m) m a) UnexpectedType [] tt) (unexpected_exactly (return_types m) m a)

-- so a second ACK after a forward gets 7
pub second_ack : (q : ℕ) (a : Bool) → heard_after_forward 0 q a true ≡ Err UnexpectedType
second_ack q a = (unexpected_after_forward 0 q a true).1 (inl (ne_eqb 0 (q + 128) (λ e. omega arith)))

-- 8: after a list, 0x94 with another payload
pub bad_echo_after_list : (m version internal : ℕ) (t : List Node) (payload : List ℕ) → (heard_after_list m (same_list version internal t payload) ≡ Err BadEcho) ↔ ((m ≡ 148) × (payload ≡ list_for version internal t → ⊥))
unfolding heard_after_list
bad_echo_after_list m version internal t payload =
    Iff.trans (err_later Echo (not (list_types m)) UnexpectedType ((not (same_list version internal t payload), BadEcho) ∷ []) BadEcho (λ e. omega (arith, ap number_of e)))
    (Iff.and (of_type, as_type) (Iff.trans (err_first Echo (not (same_list version internal t payload)) BadEcho [] tt) (other, as_other)))
  where
    of_type : not (list_types m) ≡ false → m ≡ 148
    of_type e = eqb-true m 148 (not-false (list_types m) e)

    as_type : m ≡ 148 → not (list_types m) ≡ false
    as_type e = not_no (list_types m) (eq-eqb m 148 e)

    other : not (same_list version internal t payload) ≡ true → payload ≡ list_for version internal t → ⊥
    other e h = false≢true (sym (not-true _ e) ∙ same_of (list_for version internal t) payload h)

    as_other : (payload ≡ list_for version internal t → ⊥) → not (same_list version internal t payload) ≡ true
    as_other ne = go (same_list version internal t payload) refl
      where
        go : (b : Bool) → same_list version internal t payload ≡ b → not b ≡ true
        go true e = absurd (ne (same_yes (list_for version internal t) payload e))
        go false e = refl

-- 9: after an offer, a request with method above 3
pub bad_method_after_offer : (m d : ℕ) (a : Bool) → (heard_after_offer m d a ≡ Err BadMethod) ↔ (((1 ≤ m) × (m ≤ 127)) × (3 < d))
unfolding heard_after_offer
bad_method_after_offer m d a =
    Iff.trans (err_later _ (unexpected (offer_types m) m a) UnexpectedType rules BadMethod (λ e. omega (arith, ap number_of e))) (only, when)
  where
    rules : List (Bool × Refusal)
    rules = (request_type m && ltb 3 d, BadMethod) ∷ []

    only : (unexpected (offer_types m) m a ≡ false) × (ruled rules Err (Ok (choose (ack_type m) Ack (choose (eqb d 0) Deliver Route))) ≡ Err BadMethod) → ((1 ≤ m) × (m ≤ 127)) × (3 < d)
    only h = (request_only m (and_left (request_type m) (ltb 3 d) e), ltb-true 3 d (and_right (request_type m) (ltb 3 d) e))
      where
        e : (request_type m && ltb 3 d) ≡ true
        e = (err_first _ (request_type m && ltb 3 d) BadMethod [] tt).0 h.1

    when : ((1 ≤ m) × (m ≤ 127)) × (3 < d) → (unexpected (offer_types m) m a ≡ false) × (ruled rules Err (Ok (choose (ack_type m) Ack (choose (eqb d 0) Deliver Route))) ≡ Err BadMethod)
    when ((l, k), g) =
        (rw (other_type m l, request_yes m l k) refl, (err_first _ (request_type m && ltb 3 d) BadMethod [] tt).1 (both (request_type m) (ltb 3 d) (request_yes m l k) (lt-ltb 3 d g)))
