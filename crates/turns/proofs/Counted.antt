-- What one step adds to what is counted of a series: the boards offered, the steps accepted, who stayed.
use Prim.Native.Nat.{ℕ, ◌+◌}
use mathlib.Core.Path.{◌≡◌, refl, sym}
use mathlib.Core.Bool.{Bool, true, false}
use mathlib.Core.List.{List, [], ◌∷◌}
use lib.Dec.{eqb}
use borrow.Author.Tests.{eq-eqb, ne_eqb}
use Rattle.ground.specs.Below.{among}
use Rattle.ground.proofs.Choices.{and_left, and_right, choose_yes, choose_no, neither}
use Rattle.board.specs.Table.{listed_at}
use Rattle.series.specs.Series.{Input, World, Panel, left, is_accepted, offered_to, offers, accepted, stays}

pub offers_end : (P : Panel) (w : World) → offers P w [] ≡ []
unfolding offers
offers_end P w = refl

pub accepted_end : (P : Panel) (w : World) → accepted P w [] ≡ 0
unfolding accepted
accepted_end P w = refl

module _ (P : Panel) (w : World) (i : Input) (is : List Input) where
  pub offers_none : offered_to (P.step w i).says ≡ 0 → offers P w (i ∷ is) ≡ offers P (left (P.step w i)) is
  unfolding offers
  offers_none e = sym (choose_yes _ _ _ _ (eq-eqb (offered_to (P.step w i).says) 0 e) refl)

  pub offers_one : (offered_to (P.step w i).says ≡ 0 → ⊥) → offers P w (i ∷ is) ≡ offered_to (P.step w i).says ∷ offers P (left (P.step w i)) is
  unfolding offers
  offers_one ne = sym (choose_no _ _ _ _ (ne_eqb (offered_to (P.step w i).says) 0 ne) refl)

  pub accepted_none : is_accepted (P.step w i).says ≡ false → accepted P w (i ∷ is) ≡ accepted P (left (P.step w i)) is
  unfolding accepted
  accepted_none e = sym (choose_no _ _ _ _ e refl)

  pub accepted_one : is_accepted (P.step w i).says ≡ true → accepted P w (i ∷ is) ≡ accepted P (left (P.step w i)) is + 1
  unfolding accepted
  accepted_one e = sym (choose_yes _ _ _ _ e refl)

  pub stays_next : (p : ℕ) → stays P w (i ∷ is) p ≡ true → stays P (left (P.step w i)) is p ≡ true
  unfolding stays
  stays_next p h = and_right (listed_at w.nodes p) (stays P (left (P.step w i)) is p) h

pub stays_now : (P : Panel) (w : World) (is : List Input) (p : ℕ) → stays P w is p ≡ true → listed_at w.nodes p ≡ true
unfolding stays
stays_now P w [] p h = h
stays_now P w (i ∷ is) p h = and_left (listed_at w.nodes p) (stays P (left (P.step w i)) is p) h

-- who is not among a list is not its first, nor among the rest
pub not_among : (p x : ℕ) (xs : List ℕ) {ys : List ℕ} → ys ≡ x ∷ xs → among p ys ≡ false → (eqb p x ≡ false) × (among p xs ≡ false)
unfolding among
not_among p x xs e n = neither (eqb p x) (among p xs) (rw e at n)

-- who cannot be missing from a list is among it
pub not_missing : (p : ℕ) (xs : List ℕ) → (among p xs ≡ false → ⊥) → among p xs ≡ true
not_missing p xs h = go (among p xs) refl
  where
    go : (b : Bool) → among p xs ≡ b → among p xs ≡ true
    go true e = e
    go false e = absurd (h e)
