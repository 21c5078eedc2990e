-- The laws of the highest number that passes a test.
use Prim.Native.Nat.{ℕ, zero, suc, ◌≤◌, ◌<◌}
use native.Mathlib.Omega.{arith}
use native.Mathlib.Decide.{ℕ_discrete}
use mathlib.Core.Path.{◌≡◌, refl, ap, ◌∙◌}
use mathlib.Core.Logic.{◌⊎◌, inl, inr}
use mathlib.Core.Bool.{Bool, true, false}
use Rattle.ground.specs.Choose.{choose}
use Rattle.ground.specs.Below.{highest}

-- x is one of the numbers from 1 to n, passes, and none above it does
pub record Highest (p : ℕ → Bool) (n x : ℕ) : Type 0 where
  pub from : 1 ≤ x
  pub within : x ≤ n
  pub passes : p x ≡ true
  pub above : (i : ℕ) → x < i → i ≤ n → p i ≡ false

-- none from 1 to n passes, and 0 is given; or the highest that passes is
abbrev pub HighestCase : (ℕ → Bool) → ℕ → ℕ → Type 0
HighestCase p n r = (((i : ℕ) → 1 ≤ i → i ≤ n → p i ≡ false) × (r ≡ 0)) ⊎ Highest p n r

pub highest_case : (p : ℕ → Bool) (n : ℕ) → HighestCase p n (highest p n)
unfolding highest choose
highest_case p zero = inl ((λ i h l. absurd (let z : ⊥ = omega arith in z)), refl)
highest_case p (suc n) = go (p (suc n)) refl (highest_case p n)
  where
    past : (i : ℕ) → p (suc n) ≡ false → (i ≤ n → p i ≡ false) → i ≤ suc n → Dec (i ≡ suc n) → p i ≡ false
    past i e below l (yes q) = ap p q ∙ e
    past i e below l (no ne) = below (omega arith)

    go : (b : Bool) → p (suc n) ≡ b → HighestCase p n (highest p n) → HighestCase p (suc n) (choose b (suc n) (highest p n))
    go true e c = inr (record { from = omega arith; within = omega arith; passes = e; above = λ i h l. absurd (let z : ⊥ = omega arith in z) })
    go false e (inl (none, zeroed)) = inl ((λ i h l. past i e (none i h) l (ℕ_discrete i (suc n))), zeroed)
    go false e (inr f) = inr (record { from = f.from; within = omega (arith, f.within); passes = f.passes; above = λ i h l. past i e (f.above i h) l (ℕ_discrete i (suc n)) })
