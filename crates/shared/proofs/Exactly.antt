-- When 22, 26, 27 and 11 are given (02, C-16), that no other number is, and that a refused answer lays nothing.
use Prim.Native.Nat.{ℕ, ◌<◌}
use native.Mathlib.Omega.{arith}
use mathlib.Core.Path.{◌≡◌, refl, sym, ap, ◌∙◌}
use mathlib.Core.Logic.{◌↔◌, ◌⊎◌, inl, inr}
use mathlib.Core.Bool.{Bool, true, false, not, false≢true}
use mathlib.Core.List.{List, [], ◌∷◌}
use lib.ListN.{length}
use lib.Dec.{eqb, ltb}
use borrow.Author.Tests.{eqb-true, eqb-false, eq-eqb, ne_eqb, not-true, not-false, lt-ltb, le-ltb, ltb-true, ltb-false}
use Rattle.ground.specs.Choose.{choose}
use Rattle.ground.proofs.Choices.{choose_yes, choose_no, both, not_right, not_yes, not_no}
use Rattle.refusal.specs.Refusal.{Told, number_of, refuses, gives, ruled}
use Rattle.refusal.specs.declared.Refusal.{Refusal}
use Rattle.refusal.specs.declared.Refusal.TheVariants.{NoRoom, StateUnfit, BadLength, NoSlot}
use Rattle.refusal.proofs.Numbers.{same_refused, gives_not}
use Rattle.refusal.proofs.Rules.{Passed, passed, refused, whether, said, refused_not, refused_first, refused_later, accepted_exactly, by_rules}
use Rattle.shared.specs.Image.{image_long, sector_at, length_at, is_length, holds, is_free, slot_of, free_slot, has}
use Rattle.shared.specs.Holder.{both_rules, serving, holder_number, holding}
use Rattle.shared.specs.Store.{taken, InUse, store_rules, storing}
use Rattle.shared.specs.Answer.{room_rules, fitted, fitted_bytes, answer_payload, answering, answer_bytes}
use Rattle.shared.proofs.Slots.{lowest_none, free_no}
use Rattle.shared.proofs.Looking.{sizes, unfit}

-- a test that is not met is one that is refuted
unmet : (a b : ℕ) → (not (eqb a b) ≡ true) ↔ (a ≡ b → ⊥)
unmet a b = ((λ h. eqb-false a b (not-true _ h)), λ h. not_yes _ (ne_eqb a b h))

met : (a b : ℕ) → (not (eqb a b) ≡ false) ↔ (a ≡ b)
met a b = ((λ h. eqb-true a b (not-false _ h)), λ h. not_no _ (eq-eqb a b h))

module _ (n : List ℕ) (slot sector : ℕ) where
  in_use : is_free n slot ≡ false → holds n sector slot ≡ false → (is_length (length_at n slot) ≡ true) × (sector_at n slot ≡ sector → ⊥)
  unfolding is_free holds
  in_use used other =
      let is = not-false _ used in
      (is, λ e. false≢true (sym other ∙ both (is_length (length_at n slot)) (eqb (sector_at n slot) sector) is (eq-eqb _ _ e)))

  not_held_lem : (sector_at n slot ≡ sector → ⊥) → holds n sector slot ≡ false
  unfolding holds
  not_held_lem other = not_right (is_length (length_at n slot)) (eqb (sector_at n slot) sector) (ne_eqb _ _ other)

-- that is where no slot can be taken
taken_none : (n : List ℕ) (sector : ℕ) → (taken n sector ≡ 0) ↔ InUse n sector
unfolding taken
taken_none n sector = ((λ e. only e (has n sector) refl), used)
  where
    only : choose (has n sector) (slot_of n sector) (free_slot n) ≡ 0 → (b : Bool) → has n sector ≡ b → InUse n sector
    only e true h = absurd (let z : ⊥ = omega (arith, ltb-true 0 (slot_of n sector) h, choose_yes _ _ _ _ h refl ∙ e) in z)
    only e false h = λ slot l u. in_use n slot sector ((lowest_none (is_free n)).0 (choose_no _ _ _ _ h refl ∙ e) slot l (omega (arith, u))) ((lowest_none (holds n sector)).0 (omega (arith, ltb-false 0 (slot_of n sector) h)) slot l (omega (arith, u)))

    used : InUse n sector → choose (has n sector) (slot_of n sector) (free_slot n) ≡ 0
    used h =
        let none = (lowest_none (holds n sector)).1 (λ slot l u. not_held_lem n slot sector (h slot l (omega (arith, u))).1) in
        sym (choose_no _ _ _ _ (le-ltb 0 (slot_of n sector) (omega (arith, none))) refl) ∙ (lowest_none (is_free n)).1 (λ slot l u. free_no n slot (h slot l (omega (arith, u))).0)

module _ (n : List ℕ) (sector : ℕ) (bytes : List ℕ) where
  size : Bool
  size = not (eqb (length n) image_long)

  wrong : Bool
  wrong = not (is_length (length bytes))

  told : List ℕ
  told = taken n sector ∷ []

  behind_size : List (Bool × Refusal)
  behind_size = (wrong, BadLength) ∷ (eqb (taken n sector) 0, NoSlot) ∷ []

  -- 22 is given to a store exactly where the image has another size
  pub unfit_exactly : (storing n sector bytes ≡ refuses StateUnfit) ↔ (length n ≡ image_long → ⊥)
  unfolding storing size wrong told behind_size
  unfit_exactly = ((λ e. (unmet _ _).0 (first.0 e)), λ h. first.1 ((unmet _ _).1 h))
    where
      first : (ruled (store_rules n sector bytes) refuses (gives told) ≡ refuses StateUnfit) ↔ (size ≡ true)
      first = refused_first refuses (gives told) same_refused (gives_not told) size StateUnfit behind_size ((λ e. omega (arith, ap number_of e)), ((λ e. omega (arith, ap number_of e)), tt))

  -- 26 exactly where it has its size and the record not 6 to 200 bytes, whatever the slots
  pub length_exactly : (storing n sector bytes ≡ refuses BadLength) ↔ ((length n ≡ image_long) × (is_length (length bytes) ≡ false))
  unfolding storing size wrong told behind_size
  length_exactly = ((λ e. let rest = later.0 e in ((met _ _).0 rest.0, not-true _ (first.0 rest.1))), λ h. later.1 ((met _ _).1 h.0, first.1 (not_yes _ h.1)))
    where
      later : (ruled (store_rules n sector bytes) refuses (gives told) ≡ refuses BadLength) ↔ ((size ≡ false) × (ruled behind_size refuses (gives told) ≡ refuses BadLength))
      later = refused_later refuses (gives told) same_refused (gives_not told) size StateUnfit behind_size BadLength (λ e. omega (arith, ap number_of e))

      first : (ruled behind_size refuses (gives told) ≡ refuses BadLength) ↔ (wrong ≡ true)
      first = refused_first refuses (gives told) same_refused (gives_not told) wrong BadLength ((eqb (taken n sector) 0, NoSlot) ∷ []) ((λ e. omega (arith, ap number_of e)), tt)

  -- 27 exactly where both are right, and "a new sector finds 40 in use"
  pub no_slot_exactly : (storing n sector bytes ≡ refuses NoSlot) ↔ ((length n ≡ image_long) × ((is_length (length bytes) ≡ true) × InUse n sector))
  unfolding storing size wrong told behind_size
  no_slot_exactly = (only, λ h. later.1 ((met _ _).1 h.0, next.1 (not_no _ h.1.0, last.1 (eq-eqb _ _ ((taken_none n sector).1 h.1.1)))))
    where
      later : (ruled (store_rules n sector bytes) refuses (gives told) ≡ refuses NoSlot) ↔ ((size ≡ false) × (ruled behind_size refuses (gives told) ≡ refuses NoSlot))
      later = refused_later refuses (gives told) same_refused (gives_not told) size StateUnfit behind_size NoSlot (λ e. omega (arith, ap number_of e))

      next : (ruled behind_size refuses (gives told) ≡ refuses NoSlot) ↔ ((wrong ≡ false) × (ruled ((eqb (taken n sector) 0, NoSlot) ∷ []) refuses (gives told) ≡ refuses NoSlot))
      next = refused_later refuses (gives told) same_refused (gives_not told) wrong BadLength ((eqb (taken n sector) 0, NoSlot) ∷ []) NoSlot (λ e. omega (arith, ap number_of e))

      last : (ruled ((eqb (taken n sector) 0, NoSlot) ∷ []) refuses (gives told) ≡ refuses NoSlot) ↔ (eqb (taken n sector) 0 ≡ true)
      last = refused_first refuses (gives told) same_refused (gives_not told) (eqb (taken n sector) 0) NoSlot [] tt

      only : ruled (store_rules n sector bytes) refuses (gives told) ≡ refuses NoSlot → (length n ≡ image_long) × ((is_length (length bytes) ≡ true) × InUse n sector)
      only e =
          let rest = later.0 e in
          let more = next.0 rest.1 in
          ((met _ _).0 rest.0, (not-false _ more.0, (taken_none n sector).0 (eqb-true _ _ (last.0 more.1))))

  -- and it is stored, in the slot taken, exactly where none of these holds
  pub stored_exactly : (storing n sector bytes ≡ gives (taken n sector ∷ [])) ↔ ((length n ≡ image_long) × ((is_length (length bytes) ≡ true) × (InUse n sector → ⊥)))
  unfolding storing
  stored_exactly = ((λ e. right (unless.0 e)), λ h. unless.1 ((met _ _).1 h.0, (not_no _ h.1.0, (ne_eqb _ _ (λ e. h.1.1 ((taken_none n sector).0 e)), tt))))
    where
      unless : (ruled (store_rules n sector bytes) refuses (gives (taken n sector ∷ [])) ≡ gives (taken n sector ∷ [])) ↔ Passed (store_rules n sector bytes)
      unless = accepted_exactly (λ (t : Told). t ≡ gives (taken n sector ∷ [])) refuses (gives (taken n sector ∷ [])) refl (λ q e. gives_not _ q (sym e)) (store_rules n sector bytes)

      right : Passed (store_rules n sector bytes) → (length n ≡ image_long) × ((is_length (length bytes) ≡ true) × (InUse n sector → ⊥))
      right ok = ((met _ _).0 ok.0, (not-false _ ok.1.0, λ u. eqb-false _ _ ok.1.1.0 ((taken_none n sector).1 u)))

  -- no other number is given
  pub store_only : (q : Refusal) → storing n sector bytes ≡ refuses q → (q ≡ StateUnfit) ⊎ ((q ≡ BadLength) ⊎ (q ≡ NoSlot))
  unfolding storing
  store_only q =
      by_rules (λ (t : Told). t ≡ refuses q → (q ≡ StateUnfit) ⊎ ((q ≡ BadLength) ⊎ (q ≡ NoSlot))) (store_rules n sector bytes) refuses (gives (taken n sector ∷ []))
      ((λ h e. inl (sym (same_refused _ q e))), (λ h. ((λ h e. inr (inl (sym (same_refused _ q e)))), (λ h. ((λ h e. inr (inr (sym (same_refused _ q e)))), (λ h. tt)))))) (λ ok e. absurd (gives_not _ q e))

module _ (n f : List ℕ) (sector : ℕ) where
  held : List ℕ
  held = holder_number n f sector ∷ slot_of (serving n f sector) sector ∷ []

  -- 22 is what is said of who holds a record exactly where an image has another size
  pub holder_unfit_exactly : (holding n f sector ≡ refuses StateUnfit) ↔ ((length n ≡ image_long) × (length f ≡ image_long) → ⊥)
  unfolding holding held
  holder_unfit_exactly = ((λ e h. gives_not held StateUnfit (sym (passed (both_rules n f) refuses (gives held) ((sizes n f).1 h)) ∙ e)), λ h. (unfit n f sector (λ ok. h ((sizes n f).0 ok))).0)

  -- and no other number
  pub holder_only : (q : Refusal) → holding n f sector ≡ refuses q → q ≡ StateUnfit
  unfolding holding
  holder_only q =
      by_rules (λ (t : Told). t ≡ refuses q → q ≡ StateUnfit) (both_rules n f) refuses _
      ((λ h e. sym (same_refused _ q e)), (λ h. ((λ h e. sym (same_refused _ q e)), (λ h. tt)))) (λ ok e. absurd (gives_not _ q e))

module _ (n f : List ℕ) (sector room : ℕ) where
  -- what is asked of the room, and what is told where it suffices
  abbrev rules : List (Bool × Refusal)
  rules = room_rules (answer_payload n f sector) room

  abbrev count : List ℕ
  count = length (answer_payload n f sector) ∷ []

  -- the writer of an answer gives 22 exactly there, whatever the room
  pub answer_unfit_exactly : (answering n f sector room ≡ refuses StateUnfit) ↔ ((length n ≡ image_long) × (length f ≡ image_long) → ⊥)
  unfolding answering fitted
  answer_unfit_exactly = (only, λ h. said (both_rules n f) StateUnfit refuses _ (refl, (refl, tt)) (λ ok. h ((sizes n f).0 ok)))
    where
      only : ruled (both_rules n f) refuses (ruled rules refuses (gives count)) ≡ refuses StateUnfit → (length n ≡ image_long) × (length f ≡ image_long) → ⊥
      only e h = refused_not refuses (gives count) same_refused (gives_not count) rules StateUnfit ((λ q. omega (arith, ap number_of q)), tt) (sym (passed (both_rules n f) refuses _ ((sizes n f).1 h)) ∙ e)

  -- 11 exactly where both have their size and the room is shorter than the payload, which an empty one never is
  pub no_room_exactly : (answering n f sector room ≡ refuses NoRoom) ↔ (((length n ≡ image_long) × (length f ≡ image_long)) × (room < length (answer_payload n f sector)))
  unfolding answering fitted
  no_room_exactly = (only, λ h. passed (both_rules n f) refuses _ ((sizes n f).1 h.0) ∙ first.1 (lt-ltb _ _ h.1))
    where
      first : (ruled rules refuses (gives count) ≡ refuses NoRoom) ↔ (ltb room (length (answer_payload n f sector)) ≡ true)
      first = refused_first refuses (gives count) same_refused (gives_not count) (ltb room (length (answer_payload n f sector))) NoRoom [] tt

      only : ruled (both_rules n f) refuses (ruled rules refuses (gives count)) ≡ refuses NoRoom → ((length n ≡ image_long) × (length f ≡ image_long)) × (room < length (answer_payload n f sector))
      only e = go (whether (both_rules n f))
        where
          go : Dec (Passed (both_rules n f)) → ((length n ≡ image_long) × (length f ≡ image_long)) × (room < length (answer_payload n f sector))
          go (yes ok) = ((sizes n f).0 ok, ltb-true _ _ (first.0 (sym (passed (both_rules n f) refuses _ ok) ∙ e)))
          go (no h) = absurd (let z : ⊥ = omega (arith, ap number_of (same_refused StateUnfit NoRoom (sym (said (both_rules n f) StateUnfit refuses _ (refl, (refl, tt)) h) ∙ e))) in z)

  -- and no other number
  pub answer_only : (q : Refusal) → answering n f sector room ≡ refuses q → (q ≡ StateUnfit) ⊎ (q ≡ NoRoom)
  unfolding answering fitted
  answer_only q =
      by_rules (λ (t : Told). t ≡ refuses q → (q ≡ StateUnfit) ⊎ (q ≡ NoRoom)) (both_rules n f) refuses _
      ((λ h e. inl (sym (same_refused _ q e))), (λ h. ((λ h e. inl (sym (same_refused _ q e))), (λ h. tt))))
      (λ ok. by_rules (λ (t : Told). t ≡ refuses q → (q ≡ StateUnfit) ⊎ (q ≡ NoRoom)) (rules) refuses _ ((λ h e. inr (sym (same_refused _ q e))), (λ h. tt)) (λ fine e. absurd (gives_not _ q e)))

  -- a refused answer lays nothing
  pub answer_unwritten : (q : Refusal) → answering n f sector room ≡ refuses q → answer_bytes n f sector room ≡ []
  unfolding answering answer_bytes fitted fitted_bytes
  answer_unwritten q = go (whether (both_rules n f))
    where
      go : Dec (Passed (both_rules n f)) → ruled (both_rules n f) refuses (ruled rules refuses (gives count)) ≡ refuses q → ruled (both_rules n f) (λ r. []) (ruled rules (λ r. []) (answer_payload n f sector)) ≡ []
      go (yes ok) e = passed (both_rules n f) (λ r. []) _ ok ∙ refused rules _ (λ r. []) _ q (sym (passed (both_rules n f) refuses _ ok) ∙ e)
      go (no h) e = said (both_rules n f) StateUnfit (λ r. []) _ (refl, (refl, tt)) h
