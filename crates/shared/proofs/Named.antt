-- What C is told by numbers: they point at the record, in the image that they name, and at the bytes that a store wrote.
use Prim.Native.Nat.{ℕ, ◌+◌, ◌≤◌, ◌<◌}
use native.Mathlib.Omega.{arith}
use mathlib.Core.Path.{◌≡◌, refl, sym, ap, ◌∙◌}
use mathlib.Core.Logic.{◌⊎◌, inl, inr}
use mathlib.Core.Bool.{true, false}
use mathlib.Core.List.{List, [], ◌∷◌}
use lib.ListN.{length, get_or}
use lib.Dec.{eqb}
use borrow.Author.Tests.{ne_eqb, eq-eqb}
use Rattle.ground.specs.Choose.{choose}
use Rattle.ground.specs.Bytes.{Names}
use Rattle.refusal.specs.Refusal.{Told, value, refuses, gives}
use Rattle.refusal.specs.declared.Refusal.{Refusal}
use Rattle.refusal.specs.declared.Refusal.TheVariants.{StateUnfit}
use Rattle.refusal.proofs.Rules.{Passed, whether}
use Rattle.shared.specs.declared.HolderNumbers.{HolderNumbers}
use Rattle.shared.specs.Image.{image_long, start_of, record_at, record_of, slot_of}
use Rattle.shared.specs.Holder.{both_rules, holding, record_in}
use Rattle.shared.specs.Store.{taken, storing, stored}
use Rattle.shared.specs.Numbers.{holder_numbers, store_numbers}
use Rattle.shared.proofs.Looking.{HeldAt, unfit, it_holds, held_record, record_length, sizes, Serving, Who, who}
use Rattle.ground.proofs.Choices.{choose_no}
use Rattle.shared.proofs.Laying.{store_gave}
use Rattle.shared.proofs.Kept.{refused_unchanged, no_byte_besides, store_case}
use Rattle.shared.proofs.Served.{Served, by_one, by_none}

-- what C is told of a record, in an image
abbrev Pointed : HolderNumbers → List ℕ → List ℕ → Type 0
Pointed told image part = Names told.start told.length image part

-- they do of a slot that holds a record
names_slot : (c : ℕ) (image : List ℕ) (sector slot : ℕ) → HeldAt image sector slot → Pointed (holder_numbers (gives (c ∷ slot ∷ [])) (record_at image slot)) image (record_at image slot)
unfolding holder_numbers choose
names_slot c image sector slot h =
    let long = record_length image sector slot h in
    rw (ne_eqb slot 0 (omega (arith, h.from)), long.0) (omega (arith, h.long, h.from, h.within, long), refl)

-- and of nothing, at the front
names_none : (t : Told) (image : List ℕ) → value t 1 ≡ 0 → Pointed (holder_numbers t []) image []
unfolding holder_numbers choose
names_none t image e = rw (eq-eqb (value t 1) 0 e) (omega arith, refl)

-- the image that the number names, as a caller chooses it: 1 the network's copy, else the factory image
abbrev pub image_by : HolderNumbers → List ℕ → List ℕ → List ℕ
image_by told n f = choose (eqb told.image 1) n f

module _ (n f : List ℕ) (sector : ℕ) where
  abbrev told : HolderNumbers
  told = holder_numbers (holding n f sector) (record_in n f sector)

  -- an image that has the record
  one : (c : ℕ) (image : List ℕ) → length image ≡ image_long → choose (eqb c 1) n f ≡ image → Serving n f sector c image true → Served n f sector c (slot_of image sector) (record_of image sector) (sector ∷ record_of image sector) → Pointed told (image_by told n f) (record_in n f sector)
  unfolding holder_numbers
  one c image long e s by =
      let h = it_holds image sector (slot_of image sector) long s.mine refl in
      rw (by.holder, e, by.bytes ∙ held_record image sector (slot_of image sector) h) (names_slot c image sector (slot_of image sector) h)

  -- whatever the images: what is told names the record that is handed back, in the image whose number is told
  pub holder_named : Pointed told (image_by told n f) (record_in n f sector)
  unfolding choose
  holder_named = go (whether (both_rules n f))
    where
      within : (length n ≡ image_long) × (length f ≡ image_long) → Who n f sector → Pointed told (image_by told n f) (record_in n f sector)
      within long (inl s) = one 1 n long.0 refl s (by_one n f sector long 1 n s)
      within long (inr (inl s)) = one 2 f long.1 refl s (by_one n f sector long 2 f s)
      within long (inr (inr s)) = let by = by_none n f sector long s in rw (by.holder, by.bytes) (names_none (gives (0 ∷ 0 ∷ [])) _ refl)

      go : Dec (Passed (both_rules n f)) → Pointed told (image_by told n f) (record_in n f sector)
      go (yes ok) = within ((sizes n f).0 ok) (who n f sector)
      go (no h) = rw ((unfit n f sector h).0, (unfit n f sector h).1) (names_none (refuses StateUnfit) _ refl)

-- what C is told of a store names the bytes that it wrote: all others are as they were, and on a refusal all are
pub store_named : (n : List ℕ) (sector : ℕ) (bytes : List ℕ) (i : ℕ) → let told = store_numbers (storing n sector bytes) bytes in (i < told.start) ⊎ (told.start + told.length ≤ i) → get_or (stored n sector bytes) i 0 ≡ get_or n i 0
unfolding store_numbers
store_named n sector bytes i h = go (store_case n sector bytes) h
  where
    after : List ℕ
    after = stored n sector bytes

    begin : Told → ℕ
    begin t = choose (eqb (value t 0) 0) 0 (start_of (value t 0))

    count : Told → ℕ
    count t = choose (eqb (value t 0) 0) 0 (2 + length bytes)

    go : (storing n sector bytes ≡ gives (taken n sector ∷ [])) ⊎ ((q : Refusal) × (storing n sector bytes ≡ refuses q)) → (i < begin (storing n sector bytes)) ⊎ (begin (storing n sector bytes) + count (storing n sector bytes) ≤ i) → get_or after i 0 ≡ get_or n i 0
    go (inr (q, e)) u = ap (λ (l : List ℕ). get_or l i 0) (refused_unchanged n sector bytes q e)
    go (inl e) u = no_byte_besides n sector bytes i (place u)
      where
        some : eqb (taken n sector) 0 ≡ false
        some = (store_gave n sector bytes (taken n sector) e).0.1.1.0

        at : begin (storing n sector bytes) ≡ start_of (taken n sector)
        at = ap begin e ∙ sym (choose_no _ _ _ _ some refl)

        long : count (storing n sector bytes) ≡ 2 + length bytes
        long = ap count e ∙ sym (choose_no _ _ _ _ some refl)

        place : (i < begin (storing n sector bytes)) ⊎ (begin (storing n sector bytes) + count (storing n sector bytes) ≤ i) → (i < start_of (taken n sector)) ⊎ (start_of (taken n sector) + (2 + length bytes) ≤ i)
        place (inl l) = inl (omega (arith, l, at))
        place (inr l) = inr (omega (arith, l, at, long))
