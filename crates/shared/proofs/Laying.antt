-- The slot that a store takes, and what it writes there.
use Prim.Native.Nat.{ℕ, ◌+◌, ◌-◌, ◌≤◌, ◌<◌, min}
use native.Mathlib.Omega.{arith}
use mathlib.Core.Path.{◌≡◌, refl, sym, ap, ◌∙◌}
use mathlib.Core.Logic.{◌⊎◌, inl, inr}
use mathlib.Core.Bool.{Bool, true, false, false≢true}
use mathlib.Core.List.{List, [], ◌∷◌}
use lib.ListN.{length, get_or, set}
use lib.Seq.{paste}
use borrow.Author.Tests.{eqb-false, ltb-true, ltb-false}
use Rattle.ground.specs.Choose.{choose}
use Rattle.ground.specs.Bytes.{fitting}
use Rattle.ground.proofs.Choices.{choose_no}
use Rattle.ground.proofs.Firsts.{FirstCase}
use Rattle.ground.proofs.Laid.{paste_none, paste_step, paste_before}
use Rattle.shared.specs.Image.{image_long, slots, start_of, holds, is_free, slot_of, free_slot, has}
use Rattle.refusal.specs.Refusal.{gives}
use Rattle.refusal.proofs.Rules.{Passed, gave}
use Rattle.shared.specs.Store.{taken, store_rules, storing, slot_bytes, put_in}
use Rattle.std.specs.Prelude.{Option, Some, None as Nothing, IfSome}
use Rattle.shared.specs.Looking.{numbered}
use Rattle.shared.proofs.Slots.{lowest_within, lowest_case, lowest_first, lowest_none, some_slot}

pub taken_within : (n : List ℕ) (sector : ℕ) → taken n sector ≤ 40
unfolding taken choose
taken_within n sector = go (has n sector)
  where
    go : (b : Bool) → choose b (slot_of n sector) (free_slot n) ≤ 40
    go true = lowest_within (holds n sector)
    go false = lowest_within (is_free n)

pub taken_slot : (n : List ℕ) (sector : ℕ) (o : Option ℕ) → o ≡ numbered (taken n sector) → IfSome o (λ slot. (0 < slot) × (slot ≤ 40))
taken_slot n sector Nothing e = tt
taken_slot n sector (Some k) e = let is = some_slot (taken n sector) k e in (is.1, omega (arith, is, taken_within n sector))

module _ (n : List ℕ) (sector : ℕ) where
  -- the slot taken held the sector's record, or was free
  pub taken_from : 0 < taken n sector → (holds n sector (taken n sector) ≡ true) ⊎ (is_free n (taken n sector) ≡ true)
  unfolding taken choose
  taken_from h = go (has n sector) h
    where
      go : (b : Bool) → 0 < choose b (slot_of n sector) (free_slot n) → (holds n sector (choose b (slot_of n sector) (free_slot n)) ≡ true) ⊎ (is_free n (choose b (slot_of n sector) (free_slot n)) ≡ true)
      go true l = inl (lowest_first (holds n sector) l).passes
      go false l = inr (lowest_first (is_free n) l).passes

  -- the lowest free one, where no slot held it
  pub taken_new : has n sector ≡ false → taken n sector ≡ free_slot n
  unfolding taken
  taken_new h = sym (choose_no _ _ _ _ h refl)

  -- the sector's, where any slot held it
  pub taken_own : (j : ℕ) → 1 ≤ j → j ≤ 40 → holds n sector j ≡ true → holds n sector (taken n sector) ≡ true
  unfolding taken choose
  taken_own j l u h = go (has n sector) refl
    where
      go : (b : Bool) → has n sector ≡ b → holds n sector (choose b (slot_of n sector) (free_slot n)) ≡ true
      go true e = (lowest_first (holds n sector) (ltb-true 0 (slot_of n sector) e)).passes
      go false e = absurd (false≢true (sym ((lowest_none (holds n sector)).0 (omega (arith, ltb-false 0 (slot_of n sector) e)) j l (omega (arith, u))) ∙ h))

  -- and no slot below it holds one of the sector
  pub taken_first : (j : ℕ) → 1 ≤ j → j < taken n sector → holds n sector j ≡ false
  unfolding taken choose
  taken_first j from below = go (has n sector) refl below (lowest_case (holds n sector))
    where
      go : (b : Bool) → has n sector ≡ b → j < choose b (slot_of n sector) (free_slot n) → FirstCase 0 (holds n sector) 1 slots (slot_of n sector) → holds n sector j ≡ false
      go b e l (inl (none, z)) = none j from (omega (arith, taken_within n sector, below))
      go true e l (inr f) = f.before j from l
      go false e l (inr f) = absurd (let z : ⊥ = omega (arith, f.from, ltb-false 0 (slot_of n sector) e) in z)

-- two bytes set one behind the other are pasted
pub head_laid : (u : List ℕ) (r s a b : ℕ) → r ≡ s → s + 2 ≤ length u → set (set u r a) (r + 1) b ≡ paste u s (a ∷ b ∷ []) (fitting 2 s (length u))
unfolding fitting
head_laid u r s a b e h =
    let head = a ∷ b ∷ [] in
    let first : set u s a ≡ paste u s head 1 = ap (λ (k : ℕ). set u k a) (let z : s ≡ s + 0 = omega arith in z) ∙ paste_step u u s head 0 (paste_none u s head) (omega arith) (omega arith) in
    ap (λ (k : ℕ). set (set u k a) (k + 1) b) e ∙ paste_step u (set u s a) s head 1 first (omega arith) (omega arith) ∙ ap (paste u s head) (let z : 1 + 1 ≡ min 2 (length u - s) = omega arith in z)

-- the record and the head before it, laid one after the other, are the slot written
pub slot_laid : (n u v : List ℕ) (slot sector : ℕ) (bytes : List ℕ) → length n ≡ image_long → 0 < slot → slot ≤ 40 → length bytes ≤ 200 → u ≡ paste n (start_of slot + 2) bytes (fitting (length bytes) (start_of slot + 2) (length n)) → v ≡ paste u (start_of slot) (sector ∷ length bytes ∷ []) (fitting 2 (start_of slot) (length u)) → v ≡ put_in n slot (slot_bytes sector bytes)
slot_laid n u v slot sector bytes long from within small first next =
    paste_before n (sector ∷ length bytes ∷ []) bytes u v (start_of slot) (omega (arith, long, from, within, small)) first next

-- a store that gives a slot passed every rule, and the slot is the one taken
pub store_gave : (n : List ℕ) (sector : ℕ) (bytes : List ℕ) (k : ℕ) → storing n sector bytes ≡ gives (k ∷ []) → Passed (store_rules n sector bytes) × (taken n sector ≡ k)
unfolding storing
store_gave n sector bytes k h =
    let told = gave (store_rules n sector bytes) (taken n sector ∷ []) (k ∷ []) h in
    (told.0, ap (λ (l : List ℕ). get_or l 0 0) told.1)

-- which is one of the forty
pub stored_slot : (n : List ℕ) (sector : ℕ) (bytes : List ℕ) (k : ℕ) → gives (k ∷ []) ≡ storing n sector bytes → (0 < k) × (k ≤ 40)
stored_slot n sector bytes k e =
    let told = store_gave n sector bytes k (sym e) in
    (omega (arith, eqb-false (taken n sector) 0 told.0.1.1.0, told.1), omega (arith, taken_within n sector, told.1))
