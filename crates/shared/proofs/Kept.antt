-- One image over a store: the sector that was stored, every other sector, and a refusal.
use Prim.Native.Nat.{ℕ, ◌+◌, ◌≤◌, ◌<◌}
use native.Mathlib.Omega.{arith}
use native.Mathlib.Decide.{ℕ_discrete}
use mathlib.Core.Path.{◌≡◌, refl, sym, ap, ◌∙◌}
use mathlib.Core.Logic.{◌⊎◌, inl, inr}
use mathlib.Core.Bool.{Bool, true, false, false≢true}
use mathlib.Core.List.{List, [], ◌∷◌}
use lib.ListN.{length, get_or}
use lib.Dec.{eqb}
use borrow.Author.Tests.{eqb-true, eqb-false, eq-eqb, ne_eqb, not-false, lt-ltb, ltb-true}
use Rattle.ground.specs.Choose.{choose}
use Rattle.ground.proofs.Choices.{choose_yes, never}
use Rattle.refusal.specs.Refusal.{Told, refuses, gives}
use Rattle.refusal.specs.declared.Refusal.{Refusal}
use Rattle.refusal.proofs.Rules.{Passed, passed, refused, each, by_rules}
use Rattle.shared.specs.Image.{slots, start_of, is_length, length_at, sector_at, record_at, holds, is_free, slot_of, has, record_of}
use Rattle.shared.specs.Store.{taken, store_rules, storing, slot_bytes, put_in, stored}
use Rattle.shared.specs.Series.{OneEach}
use Rattle.shared.proofs.Slots.{lowest_first, lowest_is, lowest_same, holds_record, free_no}
use Rattle.shared.proofs.Laying.{taken_within, taken_from, taken_own, taken_first, store_gave}
use Rattle.shared.proofs.Put.{Writable, put_long, put_holds, put_record, put_elsewhere, stays_holds, stays_record}

-- a refusal changes nothing
pub refused_unchanged : (n : List ℕ) (sector : ℕ) (bytes : List ℕ) (q : Refusal) → storing n sector bytes ≡ refuses q → stored n sector bytes ≡ n
unfolding storing stored
refused_unchanged n sector bytes q h = refused (store_rules n sector bytes) (taken n sector ∷ []) (λ r. n) _ q h

-- a store gives its slot, or refuses
pub store_case : (n : List ℕ) (sector : ℕ) (bytes : List ℕ) → (storing n sector bytes ≡ gives (taken n sector ∷ [])) ⊎ ((q : Refusal) × (storing n sector bytes ≡ refuses q))
unfolding storing
store_case n sector bytes =
    by_rules (λ (t : Told). (t ≡ gives (taken n sector ∷ [])) ⊎ ((q : Refusal) × (t ≡ refuses q))) (store_rules n sector bytes) refuses (gives (taken n sector ∷ []))
    (each {Q = λ r. (refuses r ≡ gives (taken n sector ∷ [])) ⊎ ((q : Refusal) × (refuses r ≡ refuses q))} (λ r. inr (r, refl)) (store_rules n sector bytes)) (λ ok. inl refl)

module _ (n : List ℕ) (sector : ℕ) (bytes : List ℕ) where
  -- a store that nothing refuses: the image has its size, the record its length, and a slot is there
  pub record Accepted : Type 0 where
    pub write : Writable n (taken n sector) bytes
    pub left : stored n sector bytes ≡ put_in n (taken n sector) (slot_bytes sector bytes)

  accepted : Passed (store_rules n sector bytes) → Accepted
  unfolding stored
  accepted ok =
      record {
        write = record { long = eqb-true _ _ (not-false _ ok.0); from = omega (arith, eqb-false (taken n sector) 0 ok.1.1.0); within = taken_within n sector; fits = not-false _ ok.1.0 };
        left = passed (store_rules n sector bytes) (λ r. n) _ ok;
      }

  -- what holds of the image as it was, and of one in which the slot was written, holds of what a store leaves
  over_store {ℓ} : (P : List ℕ → Type ℓ) → P n → (Accepted → P (put_in n (taken n sector) (slot_bytes sector bytes))) → P (stored n sector bytes)
  unfolding stored
  over_store P was new = by_rules P (store_rules n sector bytes) (λ r. n) _ (each {Q = λ r. P n} (λ r. was) (store_rules n sector bytes)) (λ ok. new (accepted ok))

  -- an image keeps its size
  pub stored_long : length (stored n sector bytes) ≡ length n
  stored_long =
      over_store (λ (x : List ℕ). length x ≡ length n) refl
      (λ a. put_long n (taken n sector) sector bytes a.write ∙ sym a.write.long)

  module _ (a : Accepted) where
    abbrev put : List ℕ
    put = put_in n (taken n sector) (slot_bytes sector bytes)

    elsewhere : (any j : ℕ) → 1 ≤ j → j ≤ 40 → (j ≡ taken n sector → ⊥) → holds put any j ≡ holds n any j
    elsewhere any j l u ne = stays_holds n (taken n sector) sector bytes a.write j l u ne any

    here : (any : ℕ) → holds put any (taken n sector) ≡ eqb sector any
    here any = put_holds n (taken n sector) sector bytes a.write any

    -- the sector is served from the slot taken
    put_lowest : slot_of put sector ≡ taken n sector
    put_lowest =
        lowest_is (holds put sector) (taken n sector)
        (record { from = a.write.from; within = omega (arith, taken_within n sector); passes = here sector ∙ eq-eqb sector sector refl; before = λ j l u. elsewhere sector j l (omega (arith, u, taken_within n sector)) (λ e. omega (arith, e, u)) ∙ taken_first n sector j l u })

    put_record_of : record_of put sector ≡ bytes
    unfolding record_of
    put_record_of =
        sym (choose_yes _ _ _ _ (lt-ltb 0 (slot_of put sector) (omega (arith, put_lowest, a.write.from))) refl) ∙ ap (record_at put) put_lowest ∙ put_record n (taken n sector) sector bytes a.write

    -- another sector's slot is not the one taken, before and after
    module _ (other : ℕ) (ne : other ≡ sector → ⊥) where
      not_taken : holds n other (taken n sector) ≡ false
      not_taken = never _ (λ e. go (holds_record n (taken n sector) other e) (taken_from n sector a.write.from))
        where
          go : (is_length (length_at n (taken n sector)) ≡ true) × (sector_at n (taken n sector) ≡ other) → (holds n sector (taken n sector) ≡ true) ⊎ (is_free n (taken n sector) ≡ true) → ⊥
          go is (inl h) = ne (sym is.1 ∙ (holds_record n (taken n sector) sector h).1)
          go is (inr h) = false≢true (sym (free_no n (taken n sector) is.0) ∙ h)

      as_before : (j : ℕ) → 1 ≤ j → j < 1 + slots → holds put other j ≡ holds n other j
      as_before j l u = go (ℕ_discrete j (taken n sector))
        where
          go : Dec (j ≡ taken n sector) → holds put other j ≡ holds n other j
          go (yes e) = ap (holds put other) e ∙ here other ∙ ne_eqb sector other (λ z. ne (sym z)) ∙ sym (ap (holds n other) e ∙ not_taken)
          go (no h) = elsewhere other j l (omega (arith, u)) h

      other_lowest : slot_of put other ≡ slot_of n other
      other_lowest = lowest_same (holds put other) (holds n other) as_before

      other_record : record_of put other ≡ record_of n other
      unfolding record_of choose
      other_record = rw other_lowest (go (has n other) refl)
        where
          go : (b : Bool) → has n other ≡ b → choose b (record_at put (slot_of n other)) [] ≡ choose b (record_at n (slot_of n other)) []
          go true e =
              let f = lowest_first (holds n other) (ltb-true 0 (slot_of n other) e) in
              stays_record n (taken n sector) sector bytes a.write (slot_of n other) f.from (omega (arith, f.within)) (λ z. false≢true (sym not_taken ∙ ap (holds n other) (sym z) ∙ f.passes)) (holds_record n (slot_of n other) other f.passes).0
          go false e = refl

    -- where no sector had two slots, none has
    put_one_each : OneEach n → OneEach put
    put_one_each one any i j il iu jl ju hi hj = go (ℕ_discrete i (taken n sector)) (ℕ_discrete j (taken n sector))
      where
        -- another slot of the sector stored would have been the one taken
        again : (k : ℕ) → 1 ≤ k → k ≤ 40 → (k ≡ taken n sector → ⊥) → holds put any (taken n sector) ≡ true → holds put any k ≡ true → ⊥
        again k l u ne here-any there =
            let is : sector ≡ any = eqb-true sector any (sym (here any) ∙ here-any) in
            let old : holds n sector k ≡ true = ap (λ (x : ℕ). holds n x k) is ∙ sym (elsewhere any k l u ne) ∙ there in
            ne (one sector k (taken n sector) l u a.write.from (taken_within n sector) old (taken_own n sector k l u old))

        go : Dec (i ≡ taken n sector) → Dec (j ≡ taken n sector) → i ≡ j
        go (yes e) (yes q) = e ∙ sym q
        go (yes e) (no q) = absurd (again j jl ju q (ap (holds put any) (sym e) ∙ hi) hj)
        go (no e) (yes q) = absurd (again i il iu e (ap (holds put any) (sym q) ∙ hj) hi)
        go (no e) (no q) = one any i j il iu jl ju (sym (elsewhere any i il iu e) ∙ hi) (sym (elsewhere any j jl ju q) ∙ hj)

  -- what was stored is in the slot that is told, and is the sector's record
  pub stored_is : (k : ℕ) → storing n sector bytes ≡ gives (k ∷ []) → Accepted × ((taken n sector ≡ k) × ((slot_of (stored n sector bytes) sector ≡ k) × (record_of (stored n sector bytes) sector ≡ bytes)))
  stored_is k h =
      let told = store_gave n sector bytes k h in
      let a = accepted told.0 in
      let is = told.1 in
      (a, (is, (ap (λ (x : List ℕ). slot_of x sector) a.left ∙ put_lowest a ∙ is, ap (λ (x : List ℕ). record_of x sector) a.left ∙ put_record_of a)))

  -- every other sector has its slot and its record as before, whatever becomes of the store
  pub others_slot : (other : ℕ) → (other ≡ sector → ⊥) → slot_of (stored n sector bytes) other ≡ slot_of n other
  others_slot other ne = over_store (λ (x : List ℕ). slot_of x other ≡ slot_of n other) refl (λ a. other_lowest a other ne)

  pub others_record : (other : ℕ) → (other ≡ sector → ⊥) → record_of (stored n sector bytes) other ≡ record_of n other
  others_record other ne = over_store (λ (x : List ℕ). record_of x other ≡ record_of n other) refl (λ a. other_record a other ne)

  -- no byte is another but those of the slot taken, as far as the record reaches
  pub no_byte_besides : (i : ℕ) → (i < start_of (taken n sector)) ⊎ (start_of (taken n sector) + (2 + length bytes) ≤ i) → get_or (stored n sector bytes) i 0 ≡ get_or n i 0
  no_byte_besides i h =
      over_store (λ (x : List ℕ). get_or x i 0 ≡ get_or n i 0) refl
      (λ a. put_elsewhere n (taken n sector) sector bytes a.write i h)

  -- a store leaves no sector two slots that had not two before
  pub one_each : OneEach n → OneEach (stored n sector bytes)
  one_each one = over_store OneEach one (λ a. put_one_each a one)
