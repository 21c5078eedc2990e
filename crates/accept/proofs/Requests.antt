-- A request is taken after an offer and in no other wait (01, "Frame"; 02, C-11).
use Prim.Native.Nat.{ℕ, ◌+◌, ◌≤◌}
use native.Mathlib.Omega.{arith}
use mathlib.Core.Path.{◌≡◌, refl}
use mathlib.Core.Bool.{Bool, true, false}
use mathlib.Core.List.{List}
use lib.Dec.{eqb, leb, ltb}
use Rattle.std.specs.Prelude.{Ok, Err}
use borrow.Author.Tests.{ne_eqb, leb-true}
use Rattle.ground.specs.Choose.{choose}
use Rattle.ground.proofs.Choices.{and_left, and_right}
use Rattle.refusal.specs.declared.Refusal.TheVariants.{UnexpectedType, BadMethod}
use Rattle.accept.specs.declared.Heard.TheVariants.{Deliver, Route}
use Rattle.accept.specs.Accept.{ack_type, request_type, heard_after_offer, heard_after_list, heard_after_forward, heard_after_return}
use Rattle.accept.specs.Replies.{heard_in_search, heard_in_identify, heard_in_assign}

module _ (m : ℕ) (request : request_type m ≡ true) where
  not_ack : ack_type m ≡ false
  not_ack = ne_eqb m 0 (λ e. omega (arith, leb-true 1 m (and_left (leb 1 m) (leb m 127) request)))

  not_response : (n : ℕ) → 128 ≤ n → eqb m n ≡ false
  not_response n l = ne_eqb m n (λ e. omega (arith, leb-true m 127 (and_right (leb 1 m) (leb m 127) request)))

  -- after an offer: 9, or for the host by method 0, or to be routed
  pub offer_takes : (method : ℕ) (ack : Bool) → heard_after_offer m method ack ≡ choose (ltb 3 method) (Err BadMethod) (Ok (choose (eqb method 0) Deliver Route))
  unfolding heard_after_offer choose
  offer_takes method ack = rw (not_ack, request) refl

  -- else 7
  pub list_refuses : (same : Bool) → heard_after_list m same ≡ Err UnexpectedType
  unfolding heard_after_list choose
  list_refuses same = rw (not_response 148 (omega arith)) refl

  pub forward_refuses : (q : ℕ) (ack acked : Bool) → heard_after_forward m q ack acked ≡ Err UnexpectedType
  unfolding heard_after_forward choose
  forward_refuses q ack acked = rw (not_ack, not_response (q + 128) (omega arith)) refl

  pub return_refuses : (ack : Bool) → heard_after_return m ack ≡ Err UnexpectedType
  unfolding heard_after_return choose
  return_refuses ack = rw not_ack refl

  pub search_refuses : (p : List ℕ) → heard_in_search m p ≡ Err UnexpectedType
  unfolding heard_in_search choose
  search_refuses p = rw (not_response 249 (omega arith)) refl

  pub identify_refuses : (p : List ℕ) (acked : Bool) → heard_in_identify m p acked ≡ Err UnexpectedType
  unfolding heard_in_identify choose
  identify_refuses p acked = rw (not_ack, not_response 251 (omega arith)) refl

  pub assign_refuses : (same : Bool) → heard_in_assign m same ≡ Err UnexpectedType
  unfolding heard_in_assign choose
  assign_refuses same = rw (not_response 250 (omega arith)) refl
