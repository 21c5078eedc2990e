-- What tests of equality and joined tests say, when rules give a number, and which types are requests.
use Prim.Native.Nat.{ℕ, ◌≤◌, ◌<◌}
use native.Mathlib.Omega.{arith}
use mathlib.Core.Path.{◌≡◌, refl}
use mathlib.Core.Logic.{◌⊎◌, inl, inr, ◌↔◌}
use mathlib.Core.Bool.{Bool, true, false, ◌&&◌, ◌||◌}
use mathlib.Core.List.{List, ◌∷◌}
use lib.Dec.{eqb, leb}
use borrow.Author.Tests.{leb-true, le-leb, eqb-true, eq-eqb, ne_eqb}
use Rattle.ground.proofs.Choices.{and_left, and_right, both, or_left, or_right, either}
use Rattle.std.specs.Prelude.{Ok, Err}
use Rattle.refusal.specs.Refusal.{ruled}
use Rattle.refusal.specs.declared.Refusal.{Refusal}
use Rattle.refusal.proofs.Rules.{Unsaid, refused_first, refused_later}
use Rattle.accept.specs.Accept.{ack_type, request_type}

-- a test of equality, and two tests joined, hold exactly where what they test does
pub equal_exactly : (m n : ℕ) → (eqb m n ≡ true) ↔ (m ≡ n)
equal_exactly m n = (eqb-true m n, eq-eqb m n)

module _ (a b : Bool) {A B : Type 0} (f : (a ≡ true) ↔ A) (g : (b ≡ true) ↔ B) where
  pub and_exactly : ((a && b) ≡ true) ↔ (A × B)
  and_exactly = ((λ h. (f.0 (and_left a b h), g.0 (and_right a b h))), λ h. both a b (f.1 h.0) (g.1 h.1))

  pub or_exactly : ((a || b) ≡ true) ↔ (A ⊎ B)
  or_exactly = ((λ h. only (either a b h)), when)
    where
      only : (a ≡ true) ⊎ (b ≡ true) → A ⊎ B
      only (inl e) = inl (f.0 e)
      only (inr e) = inr (g.0 e)

      when : A ⊎ B → (a || b) ≡ true
      when (inl x) = or_left a b (f.1 x)
      when (inr y) = or_right a b (g.1 y)

-- when a number is given, of rules that guard a value: for the first rule, and for one behind it
module _ {A : Type 0} (v : A) (b : Bool) (r : Refusal) (rules : List (Bool × Refusal)) where
  pub err_first : Unsaid rules r → (ruled ((b, r) ∷ rules) Err (Ok v) ≡ Err r) ↔ (b ≡ true)
  err_first = refused_first Err (Ok v) (λ _ _ e. cc) (λ _ e. cc) b r rules

  pub err_later : (q : Refusal) → (r ≡ q → ⊥) → (ruled ((b, r) ∷ rules) Err (Ok v) ≡ Err q) ↔ ((b ≡ false) × (ruled rules Err (Ok v) ≡ Err q))
  err_later = refused_later Err (Ok v) (λ _ _ e. cc) (λ _ e. cc) b r rules

-- which types are requests
pub request_yes : (m : ℕ) → 1 ≤ m → m ≤ 127 → request_type m ≡ true
request_yes m l h = rw (le-leb 1 m l, le-leb m 127 h) refl

pub request_only : (m : ℕ) → request_type m ≡ true → (1 ≤ m) × (m ≤ 127)
request_only m h = (leb-true 1 m (and_left (leb 1 m) (leb m 127) h), leb-true m 127 (and_right (leb 1 m) (leb m 127) h))

pub other_type : (m : ℕ) → 0 < m → ack_type m ≡ false
other_type m h = ne_eqb m 0 (λ e. omega arith)
