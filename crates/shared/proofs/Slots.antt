-- The laws of slots: which lengths a record has, what is known of the lowest that fits, and what a slot's occupant tells.
use Prim.Native.Nat.{ℕ, zero, suc, ◌+◌, ◌≤◌, ◌<◌}
use native.Mathlib.Omega.{arith}
use mathlib.Core.Path.{◌≡◌, refl, sym, ap, ◌∙◌}
use mathlib.Core.Logic.{◌↔◌, inl, inr}
use mathlib.Core.Bool.{Bool, true, false, ◌&&◌, not}
use mathlib.Core.List.{List}
use lib.Dec.{eqb, leb, ltb}
use borrow.Author.Tests.{leb-true, eqb-true, lt-ltb, ltb-true}
use Rattle.ground.specs.Choose.{choose}
use Rattle.ground.proofs.Choices.{and_left, and_right, not_no, choose_yes}
use Rattle.ground.proofs.Firsts.{First, FirstCase, None, first_case, first_is, none_is, first_same}
use Rattle.shared.specs.Image.{slots, sector_at, length_at, is_length, holds, is_free, lowest, slot_of}
use Rattle.std.specs.Prelude.{cond, Option, Some, None as Nothing, IfSome, MatchOption}
use Rattle.std.specs.List.{find, range_with_len}
use Rattle.std.specs.Option.{option_eq}
use Rattle.ground.specs.Below.{up_from, first_or}
use Rattle.shared.specs.Looking.{numbered, HoldsRecord, occupant}

-- a record has 6 to 200 bytes
pub length_within : (n : ℕ) → is_length n ≡ true → (6 ≤ n) × (n ≤ 200)
length_within n h = (leb-true 6 n (and_left (leb 6 n) (leb n 200) h), leb-true n 200 (and_right (leb 6 n) (leb n 200) h))

-- no slot fits, and 0 is given; or the lowest that fits is
pub lowest_case : (fits : ℕ → Bool) → FirstCase 0 fits 1 slots (lowest fits)
unfolding lowest
lowest_case fits = first_case 0 fits 1 slots

-- where there is one, what is said of the first holds of it
pub lowest_first : (fits : ℕ → Bool) → 0 < lowest fits → First fits 1 slots (lowest fits)
lowest_first fits h = go (lowest_case fits)
  where
    go : FirstCase 0 fits 1 slots (lowest fits) → First fits 1 slots (lowest fits)
    go (inl (none, e)) = absurd (let z : ⊥ = omega (arith, h, e) in z)
    go (inr f) = f

-- it is within the forty
pub lowest_within : (fits : ℕ → Bool) → lowest fits ≤ 40
lowest_within fits = go (lowest_case fits)
  where
    go : FirstCase 0 fits 1 slots (lowest fits) → lowest fits ≤ 40
    go (inl (none, e)) = omega (arith, e)
    go (inr f) = omega (arith, f.within)

-- two tests that agree on each slot have one lowest
pub lowest_same : (p q : ℕ → Bool) → ((slot : ℕ) → 1 ≤ slot → slot < 1 + slots → p slot ≡ q slot) → lowest p ≡ lowest q
unfolding lowest
lowest_same p q h = first_same 0 p q 1 slots h

-- the first that fits is the lowest
pub lowest_is : (fits : ℕ → Bool) (slot : ℕ) → First fits 1 slots slot → lowest fits ≡ slot
unfolding lowest
lowest_is fits slot h = first_is 0 fits 1 slots slot h

-- 0 is given exactly where none fits
pub lowest_none : (fits : ℕ → Bool) → (lowest fits ≡ 0) ↔ None fits 1 slots
unfolding lowest
lowest_none fits = ((λ e. only e (lowest_case fits)), λ h. none_is 0 fits 1 slots h)
  where
    only : lowest fits ≡ 0 → FirstCase 0 fits 1 slots (lowest fits) → None fits 1 slots
    only e (inl (none, z)) = none
    only e (inr f) = absurd (let z : ⊥ = omega (arith, e, f.from) in z)

module _ (image : List ℕ) (slot : ℕ) where
  -- what a slot that holds a sector's record says
  pub holds_record : (sector : ℕ) → holds image sector slot ≡ true → (is_length (length_at image slot) ≡ true) × (sector_at image slot ≡ sector)
  unfolding holds
  holds_record sector h =
      (and_left (is_length (length_at image slot)) (eqb (sector_at image slot) sector) h, eqb-true _ _ (and_right (is_length (length_at image slot)) (eqb (sector_at image slot) sector) h))

  -- and it is not free
  pub free_no : is_length (length_at image slot) ≡ true → is_free image slot ≡ false
  unfolding is_free
  free_no h = not_no _ h

  -- the occupant of a slot tells whether it holds a sector's record, and whether it is free
  pub occupant_holds : (sector : ℕ) → option_eq eqb (occupant image slot) (Some sector) ≡ holds image sector slot
  unfolding occupant holds choose
  occupant_holds sector = go (is_length (length_at image slot))
    where
      go : (b : Bool) → option_eq eqb (choose b (Some (sector_at image slot)) Nothing) (Some sector) ≡ (b && eqb (sector_at image slot) sector)
      go true = refl
      go false = refl

  pub occupant_free : option_eq eqb (occupant image slot) Nothing ≡ is_free image slot
  unfolding occupant is_free choose
  occupant_free = go (is_length (length_at image slot))
    where
      go : (b : Bool) → option_eq eqb (choose b (Some (sector_at image slot)) Nothing) Nothing ≡ not b
      go true = refl
      go false = refl

-- what a search of the slots finds is the lowest that fits
pub found_lowest : (fits : ℕ → Bool) (a n : ℕ) → 0 < a → find fits (range_with_len a n) ≡ numbered (first_or 0 fits (up_from a n))
unfolding first_or up_from choose
found_lowest fits a zero h = refl
found_lowest fits a (suc n) h = go (fits a) (found_lowest fits (a + 1) n (omega arith))
  where
    go : (b : Bool) → find fits (range_with_len (a + 1) n) ≡ numbered (first_or 0 fits (up_from (a + 1) n)) → cond b (Some a) (find fits (range_with_len (a + 1) n)) ≡ numbered (choose b a (first_or 0 fits (up_from (a + 1) n)))
    go true e = choose_yes _ _ _ _ (lt-ltb 0 a h) refl
    go false e = e

-- an answer that is a slot gives its number, and one that is none says that there is none
pub some_slot : (n k : ℕ) → Some k ≡ numbered n → (n ≡ k) × (0 < k)
unfolding choose
some_slot n k e = go (ltb 0 n) refl e
  where
    go : (b : Bool) → ltb 0 n ≡ b → Some k ≡ choose b (Some n) Nothing → (n ≡ k) × (0 < k)
    go true t q = let is : n ≡ k = cc in (is, omega (arith, ltb-true 0 n t, is))
    go false t q = absurd (cc)

pub no_slot_at : (n : ℕ) → Nothing ≡ numbered n → ltb 0 n ≡ false
unfolding choose
no_slot_at n e = go (ltb 0 n) refl e
  where
    go : (b : Bool) → ltb 0 n ≡ b → Nothing ≡ choose b (Some n) Nothing → ltb 0 n ≡ false
    go true t q = absurd (cc)
    go false t q = t

-- so what a search for a sector gives holds its record
pub slot_holds : (image : List ℕ) (sector : ℕ) (o : Option ℕ) → o ≡ numbered (slot_of image sector) → IfSome o (HoldsRecord image)
slot_holds image sector Nothing e = tt
slot_holds image sector (Some k) e =
    let is = some_slot (slot_of image sector) k e in
    let some : 0 < slot_of image sector = omega (arith, is) in
    record {
      from = is.1;
      within = omega (arith, is, lowest_within (holds image sector));
      fits = ap (λ (j : ℕ). is_length (length_at image j)) (sym is.0) ∙ (holds_record image (slot_of image sector) sector (lowest_first (holds image sector) some).passes).0;
    }

-- a slot, or else another, is as the number of the one, or else of the other
pub or_else_slot : {P : Type 0} (o r : Option ℕ) (n m : ℕ) → o ≡ numbered n → MatchOption o P (λ x. r ≡ Some x) → (P → r ≡ numbered m) → r ≡ numbered (choose (ltb 0 n) n m)
unfolding choose
or_else_slot {P} o r n m e h other = go (ltb 0 n) refl (rw e at h)
  where
    go : (b : Bool) → ltb 0 n ≡ b → MatchOption (choose b (Some n) Nothing) P (λ x. r ≡ Some x) → r ≡ numbered (choose b n m)
    go true t q = q ∙ choose_yes _ _ _ _ t refl
    go false t q = other q
