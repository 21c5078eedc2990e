-- The lowest open byte as the code looks for it: in the list with byte 0 in front, and from behind the last one that it filled.
use Prim.Native.Nat.{ℕ, suc, ◌+◌, ◌-◌, ◌≤◌, ◌<◌}
use native.Mathlib.Omega.{arith}
use native.Mathlib.Decide.{ℕ_discrete, dec_lt}
use mathlib.Core.Path.{◌≡◌, ap, ◌∙◌}
use mathlib.Core.Logic.{inl, inr}
use mathlib.Core.Bool.{Bool, false}
use mathlib.Core.List.{List, ◌∷◌}
use lib.Dec.{eqb}
use lib.ListN.{length, get_or, set}
use lib.Seq.{get_or-set_same, get_or-set_other}
use borrow.Author.Tests.{eqb-false, ne_eqb}
use Rattle.ground.specs.Below.{up_from, first_or}
use Rattle.ground.proofs.Firsts.{FirstCase, First, first_case, first_is, none_is}
use Rattle.std.proofs.Common.{unwrap_or, find}
use Rattle.std.specs.List.{range_with_len}
use Rattle.board.proofs.Searches.{found_first, range_run}
use Rattle.nodelist.specs.Condensed.{open_byte}

abbrev is_free : List ℕ → ℕ → Bool
is_free list i = eqb (get_or list i 0) 0

-- the lowest open byte of sixteen from one on, 16 where there is none
abbrev pub open_from : List ℕ → ℕ → ℕ
open_from list from = first_or 16 (is_free list) (up_from from (16 - from))

-- as the library finds it
pub open_found : (list : List ℕ) (from : ℕ) → unwrap_or (find (is_free list) (range_with_len from (16 - from))) 16 ≡ open_from list from
open_found list from = found_first 16 (is_free list) (range_with_len from (16 - from)) ∙ ap (first_or 16 (is_free list)) (range_run from (16 - from))

-- where none below is open, it is the lowest of all
pub open_lowest : (internal : ℕ) (bytes : List ℕ) (from : ℕ) → 1 ≤ from → from ≤ 16 → ((j : ℕ) → suc j < from → 0 < get_or bytes j 0) → open_from (internal ∷ bytes) from ≡ open_byte bytes + 1
open_lowest internal bytes from a b taken = go (first_case 16 (is_free (internal ∷ bytes)) from (16 - from))
  where
    r : ℕ
    r = open_from (internal ∷ bytes) from

    each : (j : ℕ) → (from ≤ suc j → is_free bytes j ≡ false) → is_free bytes j ≡ false
    each j above = split (dec_lt (suc j) from)
      where
        split : Dec (suc j < from) → is_free bytes j ≡ false
        split (yes l) = ne_eqb (get_or bytes j 0) 0 (λ z. omega (arith, taken j l, z))
        split (no n) = above (omega (arith, n))

    go : FirstCase 16 (is_free (internal ∷ bytes)) from (16 - from) r → r ≡ open_byte bytes + 1
    go (inl (none, e)) = omega (arith, e, none_is 15 (is_free bytes) 0 15 (λ j _ l. each j (λ h. none (suc j) h (omega (arith, b, l)))))
    go (inr f) = omega (arith, a, f.from, first_is 15 (is_free bytes) 0 15 (r - 1) there)
      where
        there : First (is_free bytes) 0 15 (r - 1)
        there = record { from = omega arith; within = omega (arith, a, b, f.from, f.within); passes = ap (is_free (internal ∷ bytes)) (let q : suc (r - 1) ≡ r = omega (arith, a, f.from) in q) ∙ f.passes; before = λ j _ l. each j (λ h. f.before (suc j) h (omega (arith, l))) }

-- every byte below the lowest open one is taken
open_below : (bytes : List ℕ) (j : ℕ) → j < open_byte bytes → open_byte bytes < 15 → 0 < get_or bytes j 0
open_below bytes j l fits = go (first_case 15 (is_free bytes) 0 15)
  where
    go : FirstCase 15 (is_free bytes) 0 15 (open_byte bytes) → 0 < get_or bytes j 0
    go (inl (none, e)) = absurd (let z : ⊥ = omega (arith, fits, e) in z)
    go (inr f) = let ne : get_or bytes j 0 ≡ 0 → ⊥ = eqb-false (get_or bytes j 0) 0 (f.before j (omega arith) l) in omega (arith, ne)

-- so, where that one is filled, the next is looked for behind it
pub open_next : (internal : ℕ) (bytes : List ℕ) (kind : ℕ) → length bytes ≡ 15 → open_byte bytes < 15 → 0 < kind → open_from (internal ∷ set bytes (open_byte bytes) kind) (open_byte bytes + 1 + 1) ≡ open_byte (set bytes (open_byte bytes) kind) + 1
open_next internal bytes kind size fits p = open_lowest internal (set bytes (open_byte bytes) kind) (open_byte bytes + 1 + 1) (omega arith) (omega (arith, fits)) (λ j l. go j l (ℕ_discrete j (open_byte bytes)))
  where
    go : (j : ℕ) → suc j < open_byte bytes + 1 + 1 → Dec (j ≡ open_byte bytes) → 0 < get_or (set bytes (open_byte bytes) kind) j 0
    go j l (yes e) = omega (arith, p, ap (λ (x : ℕ). get_or (set bytes (open_byte bytes) kind) x 0) e, get_or-set_same bytes (open_byte bytes) kind 0 (omega (arith, size, fits)))
    go j l (no ne) = omega (arith, get_or-set_other bytes (open_byte bytes) j kind 0 ne, open_below bytes j (omega (arith, l, ne)) fits)
