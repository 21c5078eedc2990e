-- The tests of a pool and of a setup decide what they should.
use Prim.Native.Nat.{ℕ, zero, suc, ◌+◌, ◌-◌, ◌≤◌, ◌<◌, ◌^◌}
use native.Mathlib.Omega.{arith}
use native.Mathlib.Numerals.{add-one}
use native.Mathlib.Decide.{ℕ_discrete}
use mathlib.Core.Path.{◌≡◌, refl, sym, ap, ◌∙◌}
use mathlib.Core.Bool.{Bool, true, false, ◌&&◌, false≢true}
use mathlib.Core.List.{List}
use lib.Dec.{leb, ltb}
use lib.ListN.{get_or, length, take}
use Rattle.std.proofs.lemmas.List.{get_or-take, length-take-le}
use borrow.Author.Tests.{ltb-true, leb-true, lt-ltb, le-leb}
use Rattle.ground.specs.Below.{up_from, all}
use Rattle.ground.proofs.Choices.{and_left, and_right, both, never, not_right, alike}
use Rattle.ground.proofs.Loops.{all_at, all_of}
use Rattle.board.specs.Node.{is_mac}
use Rattle.setup.specs.declared.Setup.{Setup}
use Rattle.setup.specs.Setup.{are_addresses, are_rising, are_pool, is_pool, shipped_pool, setup_fits}
use Rattle.setup.specs.Fitness.{Pool, Mac, FitSetup}

-- from each below the next to each below all that follow
climbs : (a : List ℕ) (n : ℕ) → are_rising a n ≡ true → (i j : ℕ) → i < j → j ≤ n → get_or a i 0 < get_or a j 0
climbs a n h i zero l m = absurd (let z : ⊥ = omega arith in z)
climbs a n h i (suc j) l m = go (λ k. climbs a n h i j k (omega arith)) (ℕ_discrete i j)
  where
    next : get_or a j 0 < get_or a (suc j) 0
    next = rw add-one at (ltb-true (get_or a j 0) (get_or a (j + 1) 0) (all_at (λ x. ltb (get_or a x 0) (get_or a (x + 1) 0)) n j h (omega arith)))

    go : (i < j → get_or a i 0 < get_or a j 0) → Dec (i ≡ j) → get_or a i 0 < get_or a (suc j) 0
    go r (yes e) = rw e next
    go r (no ne) = omega (arith, r (omega arith), next)

-- of numbers that rise the first is the least and the last the most, so that these two tell whether all are addresses
module _ (k : ℕ) (a : List ℕ) (some : 0 < k) where
  abbrev ends : Bool
  ends = ltb 0 (get_or a 0 0) && leb (get_or a (k - 1) 0) 254

  least : are_rising a (k - 1) ≡ true → (i : ℕ) → i < k → get_or a 0 0 ≤ get_or a i 0
  least h zero l = omega arith
  least h (suc i) l = omega (arith, climbs a (k - 1) h 0 (suc i) (omega arith) (omega (arith, l)))

  most : are_rising a (k - 1) ≡ true → (i : ℕ) → i < k → Dec (i ≡ k - 1) → get_or a i 0 ≤ get_or a (k - 1) 0
  most h i l (yes e) = rw e (omega arith)
  most h i l (no ne) = omega (arith, climbs a (k - 1) h i (k - 1) (omega (arith, l, ne)) (omega arith))

  all_addresses : are_rising a (k - 1) ≡ true → (b : Bool) → ends ≡ b → b ≡ are_addresses a k
  all_addresses h true e = sym (all_of _ k (λ i l. both _ _ (lt-ltb 0 (get_or a i 0) (omega (arith, least h i l, ltb-true 0 (get_or a 0 0) (and_left (ltb 0 (get_or a 0 0)) (leb (get_or a (k - 1) 0) 254) e)))) (le-leb (get_or a i 0) 254 (omega (arith, most h i l (ℕ_discrete i (k - 1)), leb-true (get_or a (k - 1) 0) 254 (and_right (ltb 0 (get_or a 0 0)) (leb (get_or a (k - 1) 0) 254) e))))))
  all_addresses h false e = sym (never (are_addresses a k) (λ f. false≢true (sym e ∙ both _ _ (and_left (ltb 0 (get_or a 0 0)) (leb (get_or a 0 0) 254) (all_at _ k 0 f some)) (and_right (ltb 0 (get_or a (k - 1) 0)) (leb (get_or a (k - 1) 0) 254) (all_at _ k (k - 1) f (omega (arith, some)))))))

  pub ends_tell : (ends && are_rising a (k - 1)) ≡ (are_addresses a k && are_rising a (k - 1))
  ends_tell = go (are_rising a (k - 1)) refl
    where
      go : (r : Bool) → are_rising a (k - 1) ≡ r → (ends && r) ≡ (are_addresses a k && r)
      go true h = ap (λ (b : Bool). b && true) (all_addresses h ends refl)
      go false h = not_right ends false refl ∙ sym (not_right (are_addresses a k) false refl)

pub pool_told : (k : ℕ) (a : List ℕ) → are_pool k a ≡ true → Pool k a
unfolding are_pool
pool_told k a h =
    record {
      from = ltb-true 0 k (and_left (ltb 0 k) (leb k 40) size);
      up_to = leb-true k 40 (and_right (ltb 0 k) (leb k 40) size);
      rising = λ i j l m. climbs a (k - 1) (and_right (are_addresses a k) (are_rising a (k - 1)) rest) i j l (omega arith);
      low = λ i l. ltb-true 0 (get_or a i 0) (and_left (ltb 0 (get_or a i 0)) (leb (get_or a i 0) 254) (each i l));
      high = λ i l. leb-true (get_or a i 0) 254 (and_right (ltb 0 (get_or a i 0)) (leb (get_or a i 0) 254) (each i l));
    }
  where
    size : (ltb 0 k && leb k 40) ≡ true
    size = and_left (ltb 0 k && leb k 40) (are_addresses a k && are_rising a (k - 1)) h

    rest : (are_addresses a k && are_rising a (k - 1)) ≡ true
    rest = and_right (ltb 0 k && leb k 40) (are_addresses a k && are_rising a (k - 1)) h

    each : (i : ℕ) → i < k → (ltb 0 (get_or a i 0) && leb (get_or a i 0) 254) ≡ true
    each i l = all_at (λ x. ltb 0 (get_or a x 0) && leb (get_or a x 0) 254) k i (and_left (are_addresses a k) (are_rising a (k - 1)) rest) l

pub pool_passes : (k : ℕ) (a : List ℕ) → Pool k a → are_pool k a ≡ true
unfolding are_pool
pool_passes k a f = both _ _ (both _ _ (lt-ltb 0 k f.from) (le-leb k 40 f.up_to)) (both _ _ (all_of _ k each) (all_of _ (k - 1) next))
  where
    each : (i : ℕ) → i < k → (ltb 0 (get_or a i 0) && leb (get_or a i 0) 254) ≡ true
    each i l = both _ _ (lt-ltb 0 (get_or a i 0) (f.low i l)) (le-leb (get_or a i 0) 254 (f.high i l))

    next : (i : ℕ) → i < k - 1 → ltb (get_or a i 0) (get_or a (i + 1) 0) ≡ true
    next i l = lt-ltb (get_or a i 0) (get_or a (i + 1) 0) (f.rising i (i + 1) (omega arith) (omega arith))

-- a list that has the same first k is a pool too
pub same_pool : (k : ℕ) (a b : List ℕ) → ((i : ℕ) → i < k → get_or b i 0 ≡ get_or a i 0) → Pool k a → Pool k b
same_pool k a b same f =
    record {
      from = f.from;
      up_to = f.up_to;
      rising = λ i j l m. rw (same i (omega (arith, l, m)), same j m) (f.rising i j l m);
      low = λ i l. rw (same i l) (f.low i l);
      high = λ i l. rw (same i l) (f.high i l);
    }

-- what the tests of the code say, one by one
module _ (k : ℕ) (a : List ℕ) where
  pub none_pool : k ≤ 0 → are_pool k a ≡ false
  none_pool h = never _ (λ e. omega (arith, (pool_told k a e).from))

  pub long_pool : 40 < k → are_pool k a ≡ false
  long_pool h = never _ (λ e. omega (arith, (pool_told k a e).up_to))

  pub low_pool : get_or a 0 0 ≤ 0 → are_pool k a ≡ false
  low_pool h = never _ (λ e. omega (arith, (pool_told k a e).low 0 (pool_told k a e).from))

  pub high_pool : 254 < get_or a (k - 1) 0 → are_pool k a ≡ false
  high_pool h = never _ (λ e. omega (arith, (pool_told k a e).high (k - 1) (omega (arith, (pool_told k a e).from))))

  pub risen_pool : 0 < k → k ≤ 40 → 0 < get_or a 0 0 → get_or a (k - 1) 0 ≤ 254 → are_pool k a ≡ are_rising a (k - 1)
  unfolding are_pool
  risen_pool some few low high = rw (lt-ltb 0 k some, le-leb k 40 few) (sym (ends_tell k a some) ∙ rw (lt-ltb 0 _ low, le-leb _ 254 high) refl)

  -- the first k of a list are a pool where, cut off, they are one
  pub front_pool : k ≤ length a → are_pool (length (take k a)) (take k a) ≡ are_pool k a
  front_pool h = rw (length-take-le k a h) (alike (are_pool k (take k a)) (are_pool k a)
      (λ e. pool_passes k a (same_pool k (take k a) a (λ i l. sym (get_or-take k a i 0 l)) (pool_told k (take k a) e)))
      (λ e. pool_passes k (take k a) (same_pool k a (take k a) (λ i l. get_or-take k a i 0 l) (pool_told k a e))))

-- what closes a return of the tests of a pool, and of a setup
pub ruleset pool_tests = (none_pool, long_pool, low_pool, high_pool, risen_pool, front_pool)

pub mac_told : (m : ℕ) → is_mac m ≡ true → Mac m
mac_told m h = record { from = ltb-true 0 m (and_left (ltb 0 m) (ltb m (2 ^ 56)) h); below = ltb-true m (2 ^ 56) (and_right (ltb 0 m) (ltb m (2 ^ 56)) h) }

pub mac_passes : (m : ℕ) → Mac m → is_mac m ≡ true
mac_passes m f = both _ _ (lt-ltb 0 m f.from) (lt-ltb m (2 ^ 56) f.below)

pub setup_told : (s : Setup) → setup_fits s ≡ true → FitSetup s
unfolding setup_fits
setup_told s h = record { pool = pool_told s.k s.pool (and_left (are_pool s.k s.pool) (is_mac s.mac) h); mac = mac_told s.mac (and_right (are_pool s.k s.pool) (is_mac s.mac) h) }

pub setup_passes : (s : Setup) → FitSetup s → setup_fits s ≡ true
unfolding setup_fits
setup_passes s f = both _ _ (pool_passes s.k s.pool f.pool) (mac_passes s.mac f.mac)

-- the shipped pool is one, by computation
pub shipped : is_pool shipped_pool ≡ true
unfolding are_pool up_from all
shipped = refl
