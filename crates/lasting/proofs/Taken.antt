-- A step that is accepted passed every rule; a refusal waits for nobody.
use Prim.Native.Nat.{ℕ, ◌≤◌}
use native.Mathlib.Omega.{arith}
use mathlib.Core.Path.{◌≡◌, refl}
use mathlib.Core.Bool.{Bool, true, false, ◌&&◌}
use mathlib.Core.List.{List}
use lib.ListN.{get_or}
use lib.Dec.{eqb}
use borrow.Author.Tests.{eqb-true}
use Rattle.ground.specs.Choose.{choose}
use Rattle.ground.proofs.Choices.{not_right}
use Rattle.refusal.specs.Refusal.{Told, refuses, number_of, ruled}
use Rattle.refusal.specs.declared.Refusal.{Refusal}
use Rattle.refusal.proofs.Numbers.{not_zero}
use Rattle.refusal.proofs.Rules.{Passed, by_rules, each}
use Rattle.board.specs.declared.Node.{Node}
use Rattle.coordinator.specs.declared.Coordinator.{Coordinator}
use Rattle.steps.specs.After.{After, refused}
use Rattle.series.specs.Series.{is_accepted, waits_in}

-- no refusal is accepted
pub never_accepted {ℓ} : {A : Type ℓ} (c : Coordinator) (t : List Node) (r : Refusal) → is_accepted (refused c t r).says ≡ true → A
never_accepted c t r h = absurd (not_zero r (eqb-true (number_of r) 0 h))

-- and none waits in an exchange
pub no_wait : (r : Refusal) → waits_in (refuses r) ≡ 0
unfolding choose
no_wait r = rw (not_right (eqb (refuses r).number 0) false refl) refl

-- so an answer that waits in one is accepted
pub waiting_accepted : (says : Told) {n : ℕ} → 1 ≤ n → waits_in says ≡ n → is_accepted says ≡ true
unfolding choose
waiting_accepted says {n} l = go (is_accepted says)
  where
    go : (b : Bool) → choose (b && eqb (get_or says.values 0 0) 1) (get_or says.values 2 0) 0 ≡ n → b ≡ true
    go true e = refl
    go false e = absurd (let z : ⊥ = omega (arith, l, e) in z)

module _ (c : Coordinator) (t : List Node) where
  -- what holds of every refusal, and of what the rules guard, holds of the step
  pub by_refusals {ℓ} : (P : After → Type ℓ) (rules : List (Bool × Refusal)) (v : After) → ((r : Refusal) → P (refused c t r)) → (Passed rules → P v) → P (ruled rules (refused c t) v)
  by_refusals P rules v refusal value = by_rules P rules (refused c t) v (each {Q = λ r. P (refused c t r)} refusal rules) value

  -- and of a step that is accepted only what they guard counts
  pub by_accepted {ℓ} : (P : After → Type ℓ) (rules : List (Bool × Refusal)) (v : After) → (Passed rules → is_accepted v.says ≡ true → P v) → is_accepted (ruled rules (refused c t) v).says ≡ true → P (ruled rules (refused c t) v)
  by_accepted P rules v value = by_refusals (λ a. is_accepted a.says ≡ true → P a) rules v (λ r. never_accepted c t r) value

-- what holds either way holds of a choice
pub by_choice {ℓ κ} : {A : Type ℓ} (P : A → Type κ) (b : Bool) (x y : A) → (b ≡ true → P x) → (b ≡ false → P y) → P (choose b x y)
unfolding choose
by_choice P true x y p q = p refl
by_choice P false x y p q = q refl
