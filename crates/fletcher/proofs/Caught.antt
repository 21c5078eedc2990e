-- What the checksum catches (02, C-18): the customer's sentences, and the law behind them.
use Prim.Native.Nat.{ℕ, ◌+◌, ◌-◌, ◌*◌, ◌%◌, ◌<◌}
use native.Mathlib.Omega.{arith}
use native.Mathlib.Decide.{ℕ_discrete, dec_lt}
use mathlib.Core.Path.{◌≡◌, refl, sym, ap, ◌∙◌}
use mathlib.Core.Bool.{true, false}
use mathlib.Core.Logic.{◌⊎◌, inl, inr}
use mathlib.Core.List.{List}
use lib.ListN.{length, get_or, get_or-eq_default}
use Rattle.ground.specs.Below.{some}
use Rattle.fletcher.specs.declared.Sums.{Sums}
use Rattle.fletcher.specs.Fletcher.{is_good}
use Rattle.fletcher.specs.Caught.{Same, GoodPair, OnlyZeroAnd255, OneByteCaught, Caught, neighbouring, NeighboursCaught, shares_factor, moved}
use Rattle.fletcher.proofs.Laws.{alike_good, good_first}
use Rattle.fletcher.proofs.Factors.{unshared}
use Rattle.fletcher.proofs.Moved.{moved_length, moved_there, moved_elsewhere, moved_bytes, moved_shifts, two_moved}

-- the bytes at place n are alike to the sums
abbrev Alike : List ℕ → List ℕ → ℕ → Type 0
Alike xs ys n = get_or xs n 0 % 255 ≡ get_or ys n 0 % 255

-- bytes that are alike and differ are 0 and 255
zero_or_255 : (x y : ℕ) → x < 256 → y < 256 → x % 255 ≡ y % 255 → (x ≡ y → ⊥) → ((x ≡ 0) × (y ≡ 255)) ⊎ ((x ≡ 255) × (y ≡ 0))
zero_or_255 x y hx hy h ne = go (ℕ_discrete x 0)
  where
    go : Dec (x ≡ 0) → ((x ≡ 0) × (y ≡ 255)) ⊎ ((x ≡ 255) × (y ≡ 0))
    go (yes z) = inl (z, omega arith)
    go (no nz) = inr (omega arith, omega arith)

-- the change that makes the byte at place i of xs that of ys, and xs so changed; 255 is made 0
abbrev change : List ℕ → List ℕ → ℕ → ℕ
change xs ys i = get_or ys i 0 + (255 - get_or xs i 0)

abbrev made : List ℕ → List ℕ → ℕ → List ℕ
made xs ys i = moved xs i (change xs ys i)

made_alike : (xs ys : List ℕ) (i : ℕ) → i < length xs → get_or xs i 0 < 256 → (n : ℕ) → ((n ≡ i → ⊥) → Alike xs ys n) → Alike (made xs ys i) ys n
made_alike xs ys i l b n h = go (ℕ_discrete n i)
  where
    go : Dec (n ≡ i) → Alike (made xs ys i) ys n
    go (yes e) = rw (e, moved_there xs i (change xs ys i) l) (omega arith)
    go (no ne) = rw (moved_elsewhere xs i (change xs ys i) n ne) (h ne)

made_length : (xs ys : List ℕ) (i : ℕ) → length (made xs ys i) ≡ length xs
made_length xs ys i = moved_length xs i (change xs ys i)

-- a change by a multiple of 255 is none
not_moved : (xs : List ℕ) (i t : ℕ) → i < length xs → t % 255 ≡ 0 → (n : ℕ) → Alike xs (moved xs i t) n
not_moved xs i t l z n = go (ℕ_discrete n i)
  where
    go : Dec (n ≡ i) → Alike xs (moved xs i t) n
    go (yes e) = rw (e, moved_there xs i t l) (omega arith)
    go (no ne) = rw (moved_elsewhere xs i t n ne) refl

module _ (xs ys : List ℕ) (i j : ℕ) (p : GoodPair xs ys i j) where
  -- frames that are alike at every place differ only as 0 from 255
  all_alike : ((n : ℕ) → Alike xs ys n) → OnlyZeroAnd255 xs ys
  all_alike h n ne = zero_or_255 (get_or xs n 0) (get_or ys n 0) (p.one.bytes n) (p.other.bytes n) (h n) ne

  -- past the end of both there is nothing to differ
  within : (n : ℕ) → (n < length xs → Same xs ys n) → Same xs ys n
  within n h = go (dec_lt n (length xs))
    where
      go : Dec (n < length xs) → Same xs ys n
      go (yes l) = h l
      go (no l) = get_or-eq_default xs 0 (omega arith) ∙ sym (get_or-eq_default ys 0 (omega (arith, p.equal)))

-- One byte: the first sum shows its change.
module _ (xs ys : List ℕ) (i : ℕ) (p : GoodPair xs ys i i) where
  one_made : i < length xs → (n : ℕ) → Alike (made xs ys i) ys n
  one_made l n = made_alike xs ys i l (p.one.bytes i) n (λ ne. ap (λ (x : ℕ). x % 255) (p.elsewhere n ne ne))

  one_good : i < length xs → is_good (made xs ys i) ≡ true
  one_good l = alike_good (made xs ys i) ys (made_length xs ys i ∙ p.equal) (one_made l) ∙ p.other.good

  one_none : i < length xs → change xs ys i % 255 ≡ 0
  one_none l =
      omega
      (arith, good_first xs p.one.good, good_first (made xs ys i) (one_good l), ap (λ (s : Sums). s.first) (moved_shifts xs i (length xs - i) (change xs ys i) l (omega arith)))

  one_alike : Dec (i < length xs) → (n : ℕ) → Alike xs ys n
  one_alike (yes l) n = not_moved xs i (change xs ys i) l (one_none l) n ∙ one_made l n
  one_alike (no l) n = ap (λ (x : ℕ). x % 255) (within xs ys i i p n (λ m. p.elsewhere n (λ q. omega (arith, q, l, m)) (λ q. omega (arith, q, l, m))))

-- "if two good frames differ in one byte only .. then each differing byte is 0 in one frame and 255 in the other"
pub one_byte : OneByteCaught
one_byte xs ys i p = all_alike xs ys i i p (one_alike xs ys i p (dec_lt i (length xs)))

-- Two bytes: the second sum shows the first one's change, d times.
module _ (d : ℕ) (f : shares_factor d ≡ false) (xs ys : List ℕ) (i : ℕ) (p : GoodPair xs ys i (i + d)) where
  abbrev half : List ℕ
  half = made xs ys i

  half_length : length half ≡ length xs
  half_length = made_length xs ys i

  two_made : i + d < length xs → (n : ℕ) → Alike (made half ys (i + d)) ys n
  two_made l n =
      made_alike half ys (i + d) (rw half_length l) (moved_bytes xs i (change xs ys i) (omega (arith, l)) p.one.bytes (i + d)) n
      (λ nj. made_alike xs ys i (omega (arith, l)) (p.one.bytes i) n (λ ni. ap (λ (x : ℕ). x % 255) (p.elsewhere n ni nj)))

  two_good : i + d < length xs → is_good (made half ys (i + d)) ≡ true
  two_good l = alike_good (made half ys (i + d)) ys (made_length half ys (i + d) ∙ half_length ∙ p.equal) (two_made l) ∙ p.other.good

  two_none : i + d < length xs → (change xs ys i % 255 ≡ 0) × (change half ys (i + d) % 255 ≡ 0)
  two_none l = (first, omega (arith, first, law.0))
    where
      law : ((change xs ys i + change half ys (i + d)) % 255 ≡ 0) × ((d * change xs ys i) % 255 ≡ 0)
      law = two_moved.only xs p.one.good i d (change xs ys i) (change half ys (i + d)) l (two_good l)

      first : change xs ys i % 255 ≡ 0
      first = unshared d (change xs ys i) f law.1

  two_alike : Dec (i + d < length xs) → OnlyZeroAnd255 xs ys
  two_alike (yes l) =
      all_alike xs ys i (i + d) p
      (λ n. not_moved xs i (change xs ys i) (omega (arith, l)) (two_none l).0 n ∙ not_moved half (i + d) (change half ys (i + d)) (rw half_length l) (two_none l).1 n ∙ two_made l n)
  two_alike (no l) =
      one_byte xs ys i
      (record { one = p.one; other = p.other; equal = p.equal; elsewhere = λ n ni _. within xs ys i (i + d) p n (λ m. p.elsewhere n ni (λ q. omega (arith, q, l, m))) })

-- Two bytes are caught wherever their distance has no factor in common with 255.
pub caught_apart : (d : ℕ) → shares_factor d ≡ false → Caught d
caught_apart d f xs ys i p = two_alike d f xs ys i p (dec_lt (i + d) (length xs))

-- ".. or in two neighbouring bytes only"
pub neighbours : NeighboursCaught
unfolding some
neighbours = caught_apart neighbouring refl
