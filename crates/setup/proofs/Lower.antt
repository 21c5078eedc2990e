-- When a MAC is apart from those before it, as the loop that compares them finds it.
use Prim.Native.Nat.{ℕ, zero, suc, ◌<◌}
use native.Mathlib.Omega.{arith}
use mathlib.Core.Path.{◌≡◌, refl, sym, ap}
use mathlib.Core.Bool.{Bool, true, not, ◌||◌}
use mathlib.Core.List.{List}
use lib.ListN.{get_or, take}
use lib.Dec.{eqb}
use borrow.Author.Tests.{eq-eqb}
use Rattle.std.proofs.lemmas.List.{get_or-take}
use Rattle.ground.specs.Below.{all}
use Rattle.ground.proofs.Choices.{or_left}
use Rattle.ground.proofs.Loops.{all_of}
use Rattle.setup.specs.Fit.{apart_from}

-- two tests that agree below n are one test of all
all_same : (p q : ℕ → Bool) (n : ℕ) → ((i : ℕ) → i < n → p i ≡ q i) → all p n ≡ all q n
unfolding all
all_same p q zero h = refl
all_same p q (suc n) h = rw (all_same p q n (λ i l. h i (omega arith)), h n (omega arith)) refl

-- a MAC that is 0 is apart
pub apart_zero : (macs : List ℕ) (i : ℕ) → get_or macs i 0 ≡ 0 → true ≡ apart_from macs i
apart_zero macs i e = sym (all_of _ i (λ j l. or_left (eqb (get_or macs i 0) 0) (not (eqb (get_or macs i 0) (get_or macs j 0))) (eq-eqb _ _ e)))

-- a MAC is apart where all before it, cut off, say so
pub apart_lower : (macs : List ℕ) (i n : ℕ) → n ≡ i → all (λ j. eqb (get_or macs i 0) 0 || not (eqb (get_or macs i 0) (get_or (take n macs) j 0))) i ≡ apart_from macs i
apart_lower macs i n e = all_same _ _ i (λ j l. ap (λ (m : ℕ). eqb (get_or macs i 0) 0 || not (eqb (get_or macs i 0) m)) (get_or-take n macs j 0 (omega arith)))
