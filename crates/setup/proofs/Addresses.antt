-- The laws of the address for which a position stands.
use Prim.Native.Nat.{ℕ, suc, ◌-◌, ◌≤◌, ◌<◌, min}
use native.Mathlib.Omega.{arith}
use mathlib.Core.Path.{◌≡◌, refl, ◌∙◌}
use mathlib.Core.List.{List, ◌∷◌}
use lib.ListN.{get_or, length, take, length-take, get_or-eq_default}
use lib.Seq.{get_or-take}
use Rattle.setup.specs.declared.Setup.{Setup}
use Rattle.setup.specs.Setup.{address}

-- the element at index p - 1, for p from 1 on
after_first : (d : ℕ) (l : List ℕ) (p : ℕ) → 0 < p → get_or (d ∷ l) p 0 ≡ get_or l (p - 1) 0
after_first d l p h = rw (let e : p ≡ suc (p - 1) = omega arith in e) (rw (let e : suc (p - 1) - 1 ≡ p - 1 = omega arith in e) refl)

pub address_in : (s : Setup) (p : ℕ) → 0 < p → p ≤ s.k → address s p ≡ get_or s.pool (p - 1) 0
unfolding address
address_in s p h l = after_first 0 (take s.k s.pool) p h ∙ get_or-take s.k s.pool (p - 1) 0 (omega arith)

pub address_zero : (s : Setup) (p : ℕ) → p ≤ 0 → address s p ≡ 0
unfolding address
address_zero s p h = rw (let e : p ≡ 0 = omega arith in e) refl

pub address_past : (s : Setup) (p m n : ℕ) → m ≡ min s.k n → length s.pool ≡ n → m < p → address s p ≡ 0
unfolding address
address_past s p m n e l h = get_or-eq_default (0 ∷ take s.k s.pool) 0 few
  where
    few : length (0 ∷ take s.k s.pool) ≤ p
    few = omega (arith, length-take s.k s.pool)

-- what closes a return of `address_at`
pub ruleset addressing = (address_in, address_zero, address_past)
