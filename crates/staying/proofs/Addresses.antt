-- The address of a position from 1 to k is no other position's.
use Prim.Native.Nat.{ℕ, ◌≤◌, ◌<◌}
use native.Mathlib.Omega.{arith}
use native.Mathlib.Decide.{ℕ_discrete, dec_le}
use mathlib.Core.Path.{◌≡◌, sym, ap, ◌∙◌}
use mathlib.Core.List.{◌∷◌}
use lib.ListN.{take, get_or-eq_default, length-take}
use lib.Dec.{eqb}
use borrow.Author.Tests.{eq-eqb, ne_eqb}
use Rattle.setup.specs.declared.Setup.{Setup}
use Rattle.setup.specs.Setup.{address}
use Rattle.setup.specs.Fitness.{FitSetup, Position}
use Rattle.setup.proofs.Addresses.{address_zero}
use Rattle.setup.proofs.Apart.{address_from, addresses_apart}

-- a position past k has no address
address_beyond : (s : Setup) (p : ℕ) → s.k < p → address s p ≡ 0
unfolding address
address_beyond s p l = get_or-eq_default (0 ∷ take s.k s.pool) 0 {n = p} (omega (arith, length-take s.k s.pool))

-- a position has the address of another from 1 to k only where it is that one
pub same_address : (s : Setup) → FitSetup s → (b p : ℕ) → 1 ≤ b → b ≤ s.k → eqb (address s p) (address s b) ≡ eqb p b
same_address s f b p from up_to = go (ℕ_discrete p b)
  where
    here : Position s.k b
    here = record { from = from; up_to = up_to }

    apart : (p ≡ b → ⊥) → Dec (1 ≤ p) → Dec (p ≤ s.k) → address s p ≡ address s b → ⊥
    apart ne (yes l) (yes m) e = addresses_apart s f p b (record { from = l; up_to = m }) here ne e
    apart ne (yes l) (no m) e = omega (arith, address_beyond s p (omega arith), address_from s f b here)
    apart ne (no l) d e = omega (arith, address_zero s p (omega arith), address_from s f b here)

    go : Dec (p ≡ b) → eqb (address s p) (address s b) ≡ eqb p b
    go (yes e) = eq-eqb _ _ (ap (address s) e) ∙ sym (eq-eqb p b e)
    go (no ne) = ne_eqb _ _ (apart ne (dec_le 1 p) (dec_le p s.k)) ∙ sym (ne_eqb p b ne)
