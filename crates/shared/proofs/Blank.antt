-- Images of one byte again and again that is no record's length, 0 and 255 among them, are empty.
use Prim.Native.Nat.{ℕ, ◌+◌, ◌≤◌, ◌<◌}
use native.Mathlib.Omega.{arith}
use mathlib.Core.Path.{◌≡◌, refl, sym, ap, ◌∙◌}
use mathlib.Core.Bool.{true, false, false≢true}
use mathlib.Core.List.{List, [], ◌∷◌}
use lib.ListN.{length, replicate, get_or-replicate, length-replicate}
use lib.Dec.{eqb}
use borrow.Author.Tests.{le-ltb, eq-eqb, ne_eqb}
use Rattle.ground.proofs.Choices.{not_left, not_yes, not_no}
use Rattle.refusal.specs.Refusal.{refuses, gives}
use Rattle.refusal.proofs.Rules.{passed}
use Rattle.shared.specs.Image.{image_long, slots, start_of, sector_at, length_at, is_length, holds, is_free, slot_of, free_slot, has}
use Rattle.shared.specs.Store.{taken, store_rules, storing}
use Rattle.shared.specs.Series.{OneEach}
use Rattle.shared.proofs.Slots.{lowest_none, lowest_is}
use Rattle.shared.proofs.Laying.{taken_new}
use Rattle.shared.proofs.Served.{Served, by_nobody}

-- an image of this byte alone
abbrev pub only : ℕ → List ℕ
only b = replicate image_long b

module _ (b : ℕ) (wrong : is_length b ≡ false) where
  each_length : (slot : ℕ) → 1 ≤ slot → slot < 1 + slots → length_at (only b) slot ≡ b
  each_length slot l u = get_or-replicate image_long (start_of slot + 1) b 0 (omega (arith, l, u))

  no_slot : (sector slot : ℕ) → 1 ≤ slot → slot < 1 + slots → holds (only b) sector slot ≡ false
  unfolding holds
  no_slot sector slot l u = not_left (is_length (length_at (only b) slot)) (eqb (sector_at (only b) slot) sector) (ap is_length (each_length slot l u) ∙ wrong)

  -- it has no record of any sector
  has_none : (sector : ℕ) → has (only b) sector ≡ false
  has_none sector = le-ltb 0 (slot_of (only b) sector) (omega (arith, (lowest_none (holds (only b) sector)).1 (no_slot sector)))

  -- and its first slot is free
  all_free_lem : free_slot (only b) ≡ 1
  unfolding is_free
  all_free_lem = lowest_is (is_free (only b)) 1 (record { from = omega arith; within = omega arith; passes = not_yes _ (ap is_length (each_length 1 (omega arith) (omega arith)) ∙ wrong); before = λ i l u. absurd (let z : ⊥ = omega (arith, l, u) in z) })

  -- so that no sector has two slots there
  pub blank_one_each : OneEach (only b)
  blank_one_each sector i j il iu jl ju hi hj = absurd (false≢true (sym (no_slot sector i il (omega (arith, iu))) ∙ hi))

  -- so that the first record stored there takes slot 1
  pub first_stored : (sector : ℕ) (bytes : List ℕ) → is_length (length bytes) ≡ true → storing (only b) sector bytes ≡ gives (1 ∷ [])
  unfolding storing
  first_stored sector bytes fits =
      passed (store_rules (only b) sector bytes) refuses (gives (taken (only b) sector ∷ [])) (not_no _ (eq-eqb _ _ (length-replicate image_long b)), (not_no _ fits, (ne_eqb (taken (only b) sector) 0 (λ e. omega (arith, e, takes)), tt))) ∙ ap (λ (k : ℕ). gives (k ∷ [])) takes
    where
      takes : taken (only b) sector ≡ 1
      takes = taken_new (only b) sector (has_none sector) ∙ all_free_lem

-- where both images are such, of one byte or of two, nobody holds a record, and the answer to any request is the empty payload
pub empty : (b c : ℕ) → is_length b ≡ false → is_length c ≡ false → (sector : ℕ) → Served (only b) (only c) sector 0 0 [] []
empty b c wrong other sector = by_nobody (only b) (only c) sector (length-replicate image_long b, length-replicate image_long c) (has_none b wrong sector) (has_none c other sector)

-- cleared memory and erased flash among them
pub all_0 : (sector : ℕ) → Served (only 0) (only 0) sector 0 0 [] []
all_0 = empty 0 0 refl refl

pub all_255 : (sector : ℕ) → Served (only 255) (only 255) sector 0 0 [] []
all_255 = empty 255 255 refl refl
