-- What a factor in common with 255 decides: which multiples of d are multiples of 255.
use Prim.Native.Nat.{ℕ, zero, suc, ◌+◌, ◌*◌, ◌/◌, ◌%◌, ◌≤◌, ◌<◌, ◌∣◌}
use native.Mathlib.Omega.{arith}
use native.Mathlib.Decide.{ℕ_discrete}
use native.Mathlib.Nat.{mul_assoc, mul_left_comm, mul_right_comm, add-mul, one-mul, mod-lt, div-add-mod, mul-mod_left, mul-mod_right, mul-div_cancel', le-div_iff_mul-le, div-lt_self, dvd-zero, dvd_refl, dvd-mod_iff, le_of_dvd, eq-zero_of_zero-dvd, mod-eq-zero_of_dvd, dvd_of_mod-eq-zero}
use mathlib.Core.Path.{◌≡◌, sym, ap, subst, ◌∙◌}
use mathlib.Core.Bool.{true, false, ◌&&◌, false≢true}
use lib.Dec.{eqb, leb}
use borrow.Author.Tests.{eq-eqb, eqb-true, le-leb, leb-true}
use Rattle.ground.proofs.Choices.{both, and_left, and_right}
use Rattle.ground.proofs.Loops.{some_at, none_of}
use Rattle.fletcher.specs.Caught.{is_common, shares_factor}

-- what the test of a factor says
record Factor (d f : ℕ) : Type 0 where
  least : 2 ≤ f
  of_distance : d % f ≡ 0
  of255 : 255 % f ≡ 0

factor_told : (d f : ℕ) → is_common d f ≡ true → Factor d f
factor_told d f t = record { least = leb-true 2 f (and_left (leb 2 f) (eqb (d % f) 0) front); of_distance = eqb-true _ _ (and_right (leb 2 f) (eqb (d % f) 0) front); of255 = eqb-true _ _ (and_right (leb 2 f && eqb (d % f) 0) (eqb (255 % f) 0) t) }
  where
    front : (leb 2 f && eqb (d % f) 0) ≡ true
    front = and_left (leb 2 f && eqb (d % f) 0) (eqb (255 % f) 0) t

factor_passes : (d f : ℕ) → Factor d f → is_common d f ≡ true
factor_passes d f h =
    both (leb 2 f && eqb (d % f) 0) (eqb (255 % f) 0) (both (leb 2 f) (eqb (d % f) 0) (le-leb 2 f h.least) (eq-eqb _ _ h.of_distance))
    (eq-eqb _ _ h.of255)

-- a multiple of a multiple of 255 is one
pub multiple : (k a : ℕ) → a % 255 ≡ 0 → (k * a) % 255 ≡ 0
multiple k a h =
    ap (λ (x : ℕ). (k * x) % 255) (let q : a ≡ a / 255 * 255 = omega arith in q)
    ∙ ap (λ (x : ℕ). x % 255) (sym (mul_assoc k (a / 255) 255))
    ∙ mul-mod_left (k * (a / 255)) 255

module _ (e : ℕ) where
  -- k times e is a multiple of 255
  abbrev Vanishes : ℕ → Type 0
  Vanishes k = (k * e) % 255 ≡ 0

  rest_vanishes : (a b : ℕ) → Vanishes a → Vanishes b → Vanishes (b % a)
  rest_vanishes a b ha hb = omega (arith, hb, parts, multiple (b / a) (a * e) ha)
    where
      parts : b * e ≡ b / a * (a * e) + b % a * e
      parts =
          ap (λ (x : ℕ). x * e) (sym (div-add-mod b a)) ∙ add-mul (a * (b / a)) (b % a) e
          ∙ ap (λ (x : ℕ). x + b % a * e) (mul_assoc a (b / a) e ∙ mul_left_comm a (b / a) e)

  -- a factor of a and b that vanishes
  record Common (a b : ℕ) : Type 0 where
    factor : ℕ
    of_first : factor ∣ a
    of_second : factor ∣ b
    vanishes : Vanishes factor

  of_zero : (a b : ℕ) → a ≡ 0 → Vanishes b → Common a b
  of_zero a b z hb = record { factor = b; of_first = rw z (dvd-zero b); of_second = dvd_refl b; vanishes = hb }

  -- Euclid's algorithm finds one where a and b vanish
  euclid : (n a b : ℕ) → a ≤ n → Vanishes a → Vanishes b → Common a b
  euclid zero a b l ha hb = of_zero a b (omega arith) hb
  euclid (suc n) a b l ha hb = go (euclid n (b % a) a) (ℕ_discrete a 0)
    where
      back : Common (b % a) a → Common a b
      back c = record { factor = c.factor; of_first = c.of_second; of_second = (dvd-mod_iff c.factor c.of_second).0 c.of_first; vanishes = c.vanishes }

      go : (b % a ≤ n → Vanishes (b % a) → Vanishes a → Common (b % a) a) → Dec (a ≡ 0) → Common a b
      go r (yes z) = of_zero a b z hb
      go r (no ne) = back (r (omega (arith, mod-lt b {m = a} (omega arith))) (rest_vanishes a b ha hb) ha)

-- Where d has no factor in common with 255, d times e is a multiple of 255 only where e is one.
pub unshared : (d e : ℕ) → shares_factor d ≡ false → (d * e) % 255 ≡ 0 → e % 255 ≡ 0
unshared d e h v = only (euclid e d d 255 (omega arith) v (mul-mod_right 255 e))
  where
    only : Common e d 255 → e % 255 ≡ 0
    only c = go (ℕ_discrete c.factor 0) (ℕ_discrete c.factor 1)
      where
        most : c.factor ≤ 255
        most = le_of_dvd (omega arith) c.of_second

        more : (c.factor ≡ 0 → ⊥) → (c.factor ≡ 1 → ⊥) → Factor d c.factor
        more nz np = record { least = omega (arith, nz, np); of_distance = mod-eq-zero_of_dvd c.factor c.of_first; of255 = mod-eq-zero_of_dvd c.factor c.of_second }

        go : Dec (c.factor ≡ 0) → Dec (c.factor ≡ 1) → e % 255 ≡ 0
        go (yes z) _ = omega (arith, eq-zero_of_zero-dvd (subst (λ (x : ℕ). x ∣ 255) z c.of_second))
        go (no nz) (yes o) = ap (λ (x : ℕ). x % 255) (sym (one-mul e)) ∙ ap (λ (x : ℕ). (x * e) % 255) (sym o) ∙ c.vanishes
        go (no nz) (no np) = absurd (false≢true (sym (none_of (is_common d) _ c.factor h (omega (arith, most))) ∙ factor_passes d c.factor (more nz np)))

-- Where it has one, d times a step that is no multiple of 255 is one.
pub record Vanishing (d : ℕ) : Type 0 where
  pub step : ℕ
  pub least : 1 ≤ step
  pub most : step < 255
  pub vanishes : (d * step) % 255 ≡ 0

vanishing : (d f : ℕ) → f < 256 → Factor d f → Vanishing d
vanishing d f l h = record { step = 255 / f; least = (le-div_iff_mul-le {k = f} {x = 1} {y = 255} (omega (arith, h.least))).1 (omega arith); most = div-lt_self (omega arith) h.least; vanishes = ap (λ (x : ℕ). x % 255) product ∙ mul-mod_right 255 (d / f) }
  where
    parts : (n : ℕ) → n % f ≡ 0 → f * (n / f) ≡ n
    parts n e = mul-div_cancel' f (dvd_of_mod-eq-zero f e)

    product : d * (255 / f) ≡ 255 * (d / f)
    product =
        ap (λ (x : ℕ). x * (255 / f)) (sym (parts d h.of_distance)) ∙ mul_right_comm f (d / f) (255 / f)
        ∙ ap (λ (x : ℕ). x * (d / f)) (parts 255 h.of255)

pub shared : (d : ℕ) → shares_factor d ≡ true → Vanishing d
shared d h = go (some_at (is_common d) _ h)
  where
    go : (f : ℕ) × (f < 256) × (is_common d f ≡ true) → Vanishing d
    go (f, l, t) = vanishing d f l (factor_told d f t)
