-- How a count changes with its test, and how high it can be.
use Prim.Native.Nat.{ℕ, zero, suc, ◌+◌, ◌≤◌, ◌<◌}
use native.Mathlib.Omega.{arith}
use native.Mathlib.Decide.{ℕ_discrete}
use mathlib.Core.Path.{◌≡◌, refl, sym, ap}
use mathlib.Core.Bool.{Bool, true, false}
use Rattle.ground.specs.Below.{one, some, count}
use Rattle.ground.proofs.Loops.{count_same, none_of, count_no}

-- two tests that agree but at x have counts that differ as they do there
pub count_change : (p q : ℕ → Bool) (n x : ℕ) → x < n → ((i : ℕ) → (i ≡ x → ⊥) → p i ≡ q i) → count p n + one (q x) ≡ count q n + one (p x)
unfolding count
count_change p q zero x l h = absurd (let z : ⊥ = omega arith in z)
count_change p q (suc n) x l h = go (λ m. count_change p q n x m h) (ℕ_discrete x n)
  where
    go : (x < n → count p n + one (q x) ≡ count q n + one (p x)) → Dec (x ≡ n) → count p n + one (p n) + one (q x) ≡ count q n + one (q n) + one (p x)
    go r (yes e) = omega (arith, count_same p q n (λ i m. h i (λ z. omega arith)), ap (λ (i : ℕ). one (p i)) e, ap (λ (i : ℕ). one (q i)) e)
    go r (no ne) = omega (arith, r (omega arith), ap one (h n (λ z. ne (sym z))))

-- what a test allows is allowed by a weaker one
one_less : (a b : Bool) → (a ≡ true → b ≡ true) → one a ≤ one b
one_less true b h = rw (h refl) (omega arith)
one_less false b h = omega arith

pub count_less : (p q : ℕ → Bool) (n : ℕ) → ((i : ℕ) → p i ≡ true → q i ≡ true) → count p n ≤ count q n
unfolding count
count_less p q zero h = omega arith
count_less p q (suc n) h = omega (arith, count_less p q n h, one_less (p n) (q n) (h n))

-- a test that passes none but some of the numbers from 1 to k counts at most k
from_one : (p : ℕ → Bool) (n : ℕ) → p 0 ≡ false → count p (suc n) ≤ n
unfolding count
from_one p zero h = rw h (omega arith)
from_one p (suc n) h = omega (arith, from_one p n h, one_less (p (suc n)) true (λ e. refl))

pub count_within : (p : ℕ → Bool) (k n : ℕ) → p 0 ≡ false → ((i : ℕ) → p i ≡ true → i ≤ k) → count p n ≤ k
unfolding count
count_within p k zero z h = omega arith
count_within p k (suc n) z h = go (p n) refl (count_within p k n z h)
  where
    go : (b : Bool) → p n ≡ b → count p n ≤ k → count p n + one (p n) ≤ k
    go true e r = omega (arith, from_one p n z, h n e)
    go false e r = omega (arith, ap one e)

-- where a test of some fails the count is 0, and where the count is not 0 it holds
pub count_some : (p : ℕ → Bool) (n : ℕ) → 1 ≤ count p n → some p n ≡ true
count_some p n l = go (some p n) refl
  where
    go : (b : Bool) → some p n ≡ b → some p n ≡ true
    go true e = e
    go false e = absurd (let z : ⊥ = omega (arith, count_no p n (λ i m. none_of p n i e m)) in z)
