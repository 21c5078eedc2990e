-- What a wait may hear, case by case: what holds of each case holds of what is heard.
use Prim.Native.Nat.{ℕ, ◌+◌, ◌≤◌}
use native.Mathlib.Omega.{arith}
use mathlib.Core.Path.{◌≡◌, refl, sym}
use mathlib.Core.Bool.{Bool, true, false, ◌&&◌, ◌||◌, not, false≢true}
use mathlib.Core.List.{[], ◌∷◌}
use lib.Dec.{eqb, ltb}
use borrow.Author.Tests.{eqb-true, eqb-false, ne_eqb, ltb-false, not-true}
use Rattle.std.specs.Prelude.{Result, Ok, Err}
use Rattle.ground.specs.Choose.{choose}
use Rattle.refusal.specs.declared.Refusal.TheVariants.{UnexpectedType, BadEcho, BadMethod}
use Rattle.refusal.proofs.Rules.{Passed, by_rules}
use Rattle.refusal.specs.declared.Refusal.{Refusal}
use Rattle.accept.specs.declared.Heard.{Heard}
use Rattle.accept.specs.declared.Heard.TheVariants.{Ack, Echo, Deliver, Route, Answer}
use Rattle.accept.specs.Accept.{ack_type, request_type, offer_types, list_types, forward_types, unexpected, heard_after_offer, heard_after_list, heard_after_forward, heard_after_return}

-- where no ACK came and none is unexpected, the other type that is listed came
listed_type : (b : Bool) → (not b || false) ≡ false → b ≡ true
listed_type true e = refl
listed_type false e = sym e

-- where an ACK came that is not unexpected, and no other type is, it is the one that is listed
first : (b o a : Bool) → o ≡ false → (not (b || o) || a) ≡ false → b ≡ true
first true o a h e = refl
first false o a h e = absurd (false≢true (sym (rw h at e)))

module _ {ℓ} (P : Result Heard Refusal → Type ℓ) (unexpected-type : P (Err UnexpectedType)) where
  -- after an offer: an ACK, a request for the host, a request with method 1 to 3, or 7 or 9
  pub offer_heard : (m d : ℕ) (a : Bool) → P (Err BadMethod) → P (Ok Ack) → P (Ok Deliver) → (request_type m ≡ true → 1 ≤ d → d ≤ 3 → P (Ok Route)) → P (heard_after_offer m d a)
  unfolding heard_after_offer choose
  offer_heard m d a method ack deliver route =
      by_rules P ((unexpected (offer_types m) m a, UnexpectedType) ∷ (request_type m && ltb 3 d, BadMethod) ∷ []) Err (Ok (choose (ack_type m) Ack (choose (eqb d 0) Deliver Route))) ((λ _. unexpected-type), λ _. ((λ _. method), λ _. tt)) (λ passed. value (ack_type m) refl (eqb d 0) refl passed)
    where
      value : (x : Bool) → ack_type m ≡ x → (y : Bool) → eqb d 0 ≡ y → Passed ((unexpected (offer_types m) m a, UnexpectedType) ∷ (request_type m && ltb 3 d, BadMethod) ∷ []) → P (Ok (choose x Ack (choose y Deliver Route)))
      value true e y f passed = ack
      value false e true f passed = deliver
      value false e false f passed = route request (omega (arith, eqb-false d 0 f)) (ltb-false 3 d (small (request_type m) (ltb 3 d) request passed.1.0))
        where
          request : request_type m ≡ true
          request = listed_type (request_type m) (rw e at passed.0)

          small : (r l : Bool) → r ≡ true → (r && l) ≡ false → l ≡ false
          small true l q s = s
          small false l q s = absurd (false≢true q)

  -- after a list: its echo, or 7 or 8
  pub list_heard : (m : ℕ) (same : Bool) → P (Err BadEcho) → P (Ok Echo) → P (heard_after_list m same)
  unfolding heard_after_list
  list_heard m same bad echo = by_rules P ((not (list_types m), UnexpectedType) ∷ (not same, BadEcho) ∷ []) Err (Ok Echo) ((λ _. unexpected-type), λ _. ((λ _. bad), λ _. tt)) (λ passed. echo)

  -- after a forward: an ACK where none came yet, the response, or 7
  pub forward_heard : (m q : ℕ) (a d : Bool) → (d ≡ false → P (Ok Ack)) → (m ≡ q + 128 → P (Ok Answer)) → P (heard_after_forward m q a d)
  unfolding heard_after_forward choose
  forward_heard m q a d ack answer =
      by_rules P ((unexpected (forward_types q d m) m a, UnexpectedType) ∷ []) Err (Ok (choose (ack_type m) Ack Answer)) ((λ _. unexpected-type), λ _. tt) (λ passed. value (ack_type m) refl passed)
    where
      value : (x : Bool) → ack_type m ≡ x → Passed ((unexpected (forward_types q d m) m a, UnexpectedType) ∷ []) → P (Ok (choose x Ack Answer))
      value true e passed = ack (not-true d (first (not d) (eqb m (q + 128)) (not a) (ne_eqb m (q + 128) (λ z. omega (arith, eqb-true m 0 e))) (rw e at passed.0)))
      value false e passed = answer (eqb-true m (q + 128) (listed_type (eqb m (q + 128)) (rw e at passed.0)))

  -- after a return: an ACK, or 7
  pub return_heard : (m : ℕ) (a : Bool) → P (Ok Ack) → P (heard_after_return m a)
  unfolding heard_after_return
  return_heard m a ack = by_rules P ((unexpected (ack_type m) m a, UnexpectedType) ∷ []) Err (Ok Ack) ((λ _. unexpected-type), λ _. tt) (λ passed. ack)
