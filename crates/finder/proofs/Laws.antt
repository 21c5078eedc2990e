-- What a finding says tells it apart, and which finding is given.
use Prim.Native.Nat.{ℕ, ◌+◌, ◌≤◌, ◌<◌}
use native.Mathlib.Omega.{arith}
use mathlib.Core.Path.{◌≡◌, refl, sym, ap, ◌∙◌}
use mathlib.Core.List.{List}
use lib.ListN.{get_or}
use lib.Dec.{ltb}
use borrow.Author.Tests.{lt-ltb, le-ltb}
use Rattle.std.specs.Prelude.{Some, None, false}
use Rattle.ground.proofs.Choices.{choose_yes, choose_no}
use Rattle.ground.proofs.Firsts.{first_is, none_is}
use Rattle.refusal.specs.Refusal.{Told}
use Rattle.refusal.proofs.Numbers.{told_number}
use Rattle.finder.specs.declared.Finding.{Finding}
use Rattle.finder.specs.declared.Finding.TheVariants.{Found, Nothing, Spent}
use Rattle.finder.specs.Finder.{starts, length_at, holds_frame, IsFirst, limit, first_frame, found, nothing, spent, finding, told}

pub value : {a b : Told} (j : ℕ) → a ≡ b → get_or a.values j 0 ≡ get_or b.values j 0
value j e = ap (λ (t : Told). get_or t.values j 0) e

pub differ : {A : Type 0} {m n : ℕ} → m ≡ n → (m ≡ n → ⊥) → A
differ e ne = absurd (ne e)

-- two findings that say the same are the same
pub same_told : (r q : Finding) → told r ≡ told q → r ≡ q
same_told (Found a b c) (Found x y z) e = λ i. Found (value 0 e i) (value 1 e i) (value 2 e i)
same_told (Found a b c) (Nothing x) e = differ (told_number e) (λ n. omega arith)
same_told (Found a b c) (Spent x) e = differ (told_number e) (λ n. omega arith)
same_told (Nothing a) (Found x y z) e = differ (told_number e) (λ n. omega arith)
same_told (Nothing a) (Nothing x) e = ap Nothing (value 0 e)
same_told (Nothing a) (Spent x) e = differ (told_number e) (λ n. omega arith)
same_told (Spent a) (Found x y z) e = differ (told_number e) (λ n. omega arith)
same_told (Spent a) (Nothing x) e = differ (told_number e) (λ n. omega arith)
same_told (Spent a) (Spent x) e = ap Spent (value 0 e)

-- what the finder says, by whether a start within the limit holds a good frame
module _ (ours : ℕ) (s : List ℕ) (budget : ℕ) where
  pub says_found : (i : ℕ) → IsFirst ours s (limit s budget) (Some i) → found i (12 + length_at s i) (i + 1) ≡ finding ours s budget
  unfolding finding
  says_found i h =
      choose_yes _ _ _ _ (ap (λ (x : ℕ). ltb x (limit s budget)) there ∙ lt-ltb i (limit s budget) h.0)
      (ap (λ (x : ℕ). found x (12 + length_at s x) (x + 1)) (sym there))
    where
      there : first_frame ours s budget ≡ i
      there = first_is (limit s budget) (holds_frame ours s) 0 (limit s budget) i (record { from = omega arith; within = omega (arith, h.0); passes = h.1; before = λ j _ u. h.2 j u })

  none_there : IsFirst ours s (limit s budget) None → ltb (first_frame ours s budget) (limit s budget) ≡ false
  none_there h = ap (λ (x : ℕ). ltb x (limit s budget)) (none_is (limit s budget) (holds_frame ours s) 0 (limit s budget) (λ j _ u. h j (omega arith))) ∙ le-ltb (limit s budget) (limit s budget) (omega arith)

  pub says_spent : IsFirst ours s (limit s budget) None → budget < starts s → spent budget ≡ finding ours s budget
  unfolding finding
  says_spent h l = choose_no _ _ _ _ (none_there h) (choose_yes _ _ _ _ (lt-ltb budget (starts s) l) refl)

  pub says_nothing : IsFirst ours s (limit s budget) None → starts s ≤ budget → nothing (starts s) ≡ finding ours s budget
  unfolding finding
  says_nothing h l = choose_no _ _ _ _ (none_there h) (choose_no _ _ _ _ (le-ltb budget (starts s) l) refl)
