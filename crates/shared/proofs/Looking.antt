-- What the answer to who holds a record says of the images, and what the images say of the answer.
use Prim.Native.Nat.{ℕ, ◌+◌, ◌≤◌, ◌<◌}
use native.Mathlib.Omega.{arith}
use mathlib.Core.Path.{◌≡◌, refl, sym, ap, subst, ◌∙◌}
use mathlib.Core.Logic.{◌↔◌, ◌⊎◌, inl, inr}
use mathlib.Core.Bool.{Bool, true, false}
use mathlib.Core.List.{List, [], ◌∷◌}
use lib.ListN.{length, drop, length-drop}
use lib.Seq.{length-take-le}
use borrow.Author.Tests.{eqb-true, eq-eqb, not-false, lt-ltb, ltb-true, ltb-false}
use Rattle.ground.specs.Choose.{choose}
use Rattle.ground.proofs.Choices.{choose_yes, choose_no, not_no}
use Rattle.refusal.specs.Refusal.{refuses, gives, ruled}
use Rattle.refusal.specs.declared.Refusal.{Refusal}
use Rattle.refusal.specs.declared.Refusal.TheVariants.{StateUnfit}
use Rattle.refusal.proofs.Rules.{Passed, passed, said, ruled_through, each, by_rules}
use Rattle.std.specs.Prelude.{Option, Some, None, Result, Ok, Err, MatchOption}
use Rattle.std.specs.Option.{option_map}
use Rattle.shared.specs.Image.{image_long, start_of, is_length, length_at, record_at, holds, slot_of, has, record_of}
use Rattle.shared.specs.declared.Found.{Found}
use Rattle.shared.specs.declared.Held.{Held}
use Rattle.shared.specs.declared.Found.TheVariants.{Network, Factory}
use Rattle.shared.specs.Holder.{both_rules, serving, holder_number, found_values, holding, record_in}
use Rattle.shared.specs.Looking.{numbered, one_served, served, slot_in}
use Rattle.shared.specs.Answer.{answer_of, answer_payload}
use Rattle.shared.proofs.Slots.{length_within, lowest_within, lowest_first, holds_record, some_slot}

-- both images have their size exactly where no rule holds
pub sizes : (n f : List ℕ) → Passed (both_rules n f) ↔ ((length n ≡ image_long) × (length f ≡ image_long))
sizes n f =
    ((λ ok. (eqb-true _ _ (not-false _ ok.0), eqb-true _ _ (not-false _ ok.1.0))), λ h. (not_no _ (eq-eqb _ _ h.0), (not_no _ (eq-eqb _ _ h.1), tt)))

-- an image has a record exactly where there is a slot
pub has_yes : (image : List ℕ) (sector : ℕ) {slot : ℕ} → slot ≡ slot_of image sector → 0 < slot → has image sector ≡ true
has_yes image sector e h = lt-ltb 0 (slot_of image sector) (rw e at h)

pub no_slot : (image : List ℕ) (sector : ℕ) → has image sector ≡ false → 0 ≡ slot_of image sector
no_slot image sector h = omega (arith, ltb-false 0 (slot_of image sector) h)

-- nor is there a record then
no_record : (image : List ℕ) (sector : ℕ) → has image sector ≡ false → [] ≡ record_of image sector
unfolding record_of
no_record image sector h = choose_no _ _ _ _ h refl

-- what is made of an answer about who serves a sector
abbrev pub of_answer {ℓ} : {A : Type ℓ} → (Refusal → A) → (Option (Found × List ℕ) → A) → Result (Option (Found × List ℕ)) Refusal → A
of_answer g v (Ok x) = v x
of_answer g v (Err q) = g q

-- who serves it
abbrev pub who_part : Option (Found × List ℕ) → Option Found
who_part None = None
who_part (Some h) = Some h.0

-- it is what is left of an answer of which only that is handed on
pub mapped : {P : Held → Type 0} (o : Option Held) (r : Option Found) → MatchOption o (r ≡ None) P → ((h : Held) → P h → r ≡ Some h.found) → r ≡ who_part (option_map (λ h. (h.found, h.bytes.now)) o)
mapped None r e f = e
mapped (Some h) r e f = f h e

-- the record that is served; empty where none is
abbrev pub record_part : Option (Found × List ℕ) → List ℕ
record_part None = []
record_part (Some h) = h.1

-- and the payload that answers a request for it
abbrev pub payload_part : ℕ → Option (Found × List ℕ) → List ℕ
payload_part sector None = []
payload_part sector (Some h) = sector ∷ h.1

-- its slot is one of the forty
abbrev Within : Result (Option (Found × List ℕ)) Refusal → Type 0
Within (Ok None) = Unit {0}
Within (Ok (Some h)) = (0 < slot_in h.0) × (slot_in h.0 ≤ 40)
Within (Err q) = Unit {0}

-- an image holds the record of a sector in a slot, its lowest
pub record HeldAt (image : List ℕ) (sector slot : ℕ) : Type 0 where
  pub long : length image ≡ image_long
  pub from : 0 < slot
  pub within : slot ≤ 40
  pub is : slot_of image sector ≡ slot
  pub fits : is_length (length_at image slot) ≡ true

-- it does where it has one
pub it_holds : (image : List ℕ) (sector slot : ℕ) → length image ≡ image_long → has image sector ≡ true → slot_of image sector ≡ slot → HeldAt image sector slot
it_holds image sector slot long h e =
    record {
      long = long;
      from = omega (arith, ltb-true 0 (slot_of image sector) h, e);
      within = omega (arith, lowest_within (holds image sector), e);
      is = e;
      fits = ap (λ (k : ℕ). is_length (length_at image k)) (sym e) ∙ (holds_record image (slot_of image sector) sector (lowest_first (holds image sector) (ltb-true 0 (slot_of image sector) h)).passes).0;
    }

-- and so where a search gave the slot
pub held_at : (image : List ℕ) (sector slot : ℕ) → length image ≡ image_long → Some slot ≡ numbered (slot_of image sector) → HeldAt image sector slot
held_at image sector slot long e =
    let is = some_slot (slot_of image sector) slot e in
    it_holds image sector slot long (lt-ltb 0 (slot_of image sector) (omega (arith, is))) is.0

held_yes : (image : List ℕ) (sector slot : ℕ) → HeldAt image sector slot → has image sector ≡ true
held_yes image sector slot h = lt-ltb 0 (slot_of image sector) (omega (arith, h.from, h.is))

-- then its record is that slot's
pub held_record : (image : List ℕ) (sector slot : ℕ) → HeldAt image sector slot → record_of image sector ≡ record_at image slot
unfolding record_of
held_record image sector slot h =
    sym (choose_yes _ _ _ _ (held_yes image sector slot h) refl) ∙ ap (record_at image) h.is

held_as : (image : List ℕ) (sector slot : ℕ) (who : ℕ → Found) → HeldAt image sector slot → let now : Found × List ℕ = (who slot, record_at image slot) in Some now ≡ Some (who (slot_of image sector), record_of image sector)
held_as image sector slot who h = λ i. Some (who (sym h.is i), sym (held_record image sector slot h) i)

-- and it is as long as the slot says
pub record_length : (image : List ℕ) (sector slot : ℕ) → HeldAt image sector slot → (length (record_at image slot) ≡ length_at image slot) × (length_at image slot ≤ 200)
record_length image sector slot h =
    let small = length_within (length_at image slot) h.fits in
    (length-take-le (length_at image slot) (drop (start_of slot + 2) image) (rw (length-drop (start_of slot + 2) image) (omega (arith, h.long, h.from, h.within, small))), small.1)

module _ (n f : List ℕ) (sector : ℕ) where
  -- the image with this number serves the sector, and whether it has a record of it
  pub record Serving (c : ℕ) (i : List ℕ) (it : Bool) : Type 0 where
    pub number : holder_number n f sector ≡ c
    pub image : serving n f sector ≡ i
    pub mine : has i sector ≡ it

  -- the network's copy, "or else" the factory image, which may have none either
  pub is_network : has n sector ≡ true → Serving 1 n true
  unfolding holder_number serving
  is_network e = record { number = sym (choose_yes _ _ _ _ e refl); image = sym (choose_yes _ _ _ _ e refl); mine = e }

  pub is_factory : has n sector ≡ false → has f sector ≡ true → Serving 2 f true
  unfolding holder_number serving
  is_factory e q = record { number = sym (choose_no _ _ _ _ e (choose_yes _ _ _ _ q refl)); image = sym (choose_no _ _ _ _ e refl); mine = q }

  pub is_nobody : has n sector ≡ false → has f sector ≡ false → Serving 0 f false
  unfolding holder_number serving
  is_nobody e q = record { number = sym (choose_no _ _ _ _ e (choose_no _ _ _ _ q refl)); image = sym (choose_no _ _ _ _ e refl); mine = q }

  -- and nobody else
  abbrev pub Who : Type 0
  Who = Serving 1 n true ⊎ (Serving 2 f true ⊎ Serving 0 f false)

  pub who : Who
  who = go (has n sector) refl (has f sector) refl
    where
      go : (a : Bool) → has n sector ≡ a → (b : Bool) → has f sector ≡ b → Who
      go true e b q = inl (is_network e)
      go false e true q = inr (inl (is_factory e q))
      go false e false q = inr (inr (is_nobody e q))

  -- what is then said, where both images have their size
  pub says : (c : ℕ) (image : List ℕ) (it : Bool) → length n ≡ image_long → length f ≡ image_long → Serving c image it → gives (c ∷ slot_of image sector ∷ []) ≡ holding n f sector
  unfolding holding
  says c image it en ef s = rw (← s.number, ← s.image) (sym (passed (both_rules n f) refuses _ ((sizes n f).1 (en, ef))))

  -- what is made of an answer about who serves the sector is what is made of who does, by the rules
  pub through {ℓ} : {A : Type ℓ} (g : Refusal → A) (v : Option (Found × List ℕ) → A) (r : Result (Option (Found × List ℕ)) Refusal) → r ≡ served n f sector → of_answer g v r ≡ ruled (both_rules n f) g (v (one_served n f sector))
  unfolding served
  through g v r e = ap (of_answer g v) e ∙ ruled_through (of_answer g v) (both_rules n f) Err (Ok (one_served n f sector))

  -- who it is, and the slot
  pub who_is : (r : Result (Option (Found × List ℕ)) Refusal) → r ≡ served n f sector → of_answer refuses (λ x. gives (found_values (who_part x))) r ≡ holding n f sector
  unfolding holding one_served holder_number serving choose
  who_is r e =
      through refuses (λ x. gives (found_values (who_part x))) r e ∙ ap (λ (l : List ℕ). ruled (both_rules n f) refuses (gives l)) (go (has n sector) (has f sector) refl)
    where
      go : (a b : Bool) → has f sector ≡ b → found_values (who_part (choose a (Some (Network (slot_of n sector), record_of n sector)) (choose b (Some (Factory (slot_of f sector), record_of f sector)) None))) ≡ choose a 1 (choose b 2 0) ∷ slot_of (choose a n f) sector ∷ []
      go true b q = refl
      go false true q = refl
      go false false q = ap (λ (k : ℕ). 0 ∷ k ∷ []) (no_slot f sector q)

  -- the record
  pub record_is : (r : Result (Option (Found × List ℕ)) Refusal) → r ≡ served n f sector → of_answer (λ q. []) record_part r ≡ record_in n f sector
  unfolding record_in one_served serving choose
  record_is r e =
      through (λ q. []) record_part r e ∙ ap (ruled (both_rules n f) (λ q. [])) (go (has n sector) (has f sector) refl)
    where
      go : (a b : Bool) → has f sector ≡ b → record_part (choose a (Some (Network (slot_of n sector), record_of n sector)) (choose b (Some (Factory (slot_of f sector), record_of f sector)) None)) ≡ record_of (choose a n f) sector
      go true b q = refl
      go false true q = refl
      go false false q = no_record f sector q

  -- and the payload that answers a request for it
  pub payload_is : payload_part sector (one_served n f sector) ≡ answer_payload n f sector
  unfolding one_served answer_of serving choose
  payload_is = go (has n sector) refl (has f sector) refl
    where
      go : (a : Bool) → has n sector ≡ a → (b : Bool) → has f sector ≡ b → payload_part sector (choose a (Some (Network (slot_of n sector), record_of n sector)) (choose b (Some (Factory (slot_of f sector), record_of f sector)) None)) ≡ choose (has (choose a n f) sector) (sector ∷ record_of (choose a n f) sector) []
      go true p b q = rw p refl
      go false p true q = rw q refl
      go false p false q = rw q refl

  -- the slot is one of the forty
  one_within : Within (Ok (one_served n f sector))
  unfolding one_served choose
  one_within = go (has n sector) refl (has f sector) refl
    where
      go : (a : Bool) → has n sector ≡ a → (b : Bool) → has f sector ≡ b → Within (Ok (choose a (Some (Network (slot_of n sector), record_of n sector)) (choose b (Some (Factory (slot_of f sector), record_of f sector)) None)))
      go true p b q = (ltb-true 0 (slot_of n sector) p, lowest_within (holds n sector))
      go false p true q = (ltb-true 0 (slot_of f sector) q, lowest_within (holds f sector))
      go false p false q = tt

  pub slot_within : (h : Found × List ℕ) → Ok (Some h) ≡ served n f sector → (0 < slot_in h.0) × (slot_in h.0 ≤ 40)
  unfolding served
  slot_within h e =
      subst Within (sym e) (by_rules Within (both_rules n f) Err (Ok (one_served n f sector)) (each (λ q. tt) (both_rules n f)) (λ ok. one_within))

  -- what is answered where both images have their size: the slot of the network's copy, or else the factory image's, or nobody
  module _ (long : (length n ≡ image_long) × (length f ≡ image_long)) where
    one_is : {x : Option (Found × List ℕ)} → x ≡ one_served n f sector → Ok x ≡ served n f sector
    unfolding served
    one_is e = ap Ok e ∙ sym (passed (both_rules n f) Err _ ((sizes n f).1 long))

    pub by_network_slot : (k : ℕ) → HeldAt n sector k → Ok (Some (Network k, record_at n k)) ≡ served n f sector
    unfolding one_served
    by_network_slot k h = one_is (choose_yes _ _ _ _ (held_yes n sector k h) (held_as n sector k Network h))

    pub by_factory_slot : (k : ℕ) → has n sector ≡ false → HeldAt f sector k → Ok (Some (Factory k, record_at f k)) ≡ served n f sector
    unfolding one_served
    by_factory_slot k none h = one_is (choose_no _ _ _ _ none (choose_yes _ _ _ _ (held_yes f sector k h) (held_as f sector k Factory h)))

    pub by_nobody_there : has n sector ≡ false → has f sector ≡ false → Ok None ≡ served n f sector
    unfolding one_served
    by_nobody_there none neither = one_is (choose_no _ _ _ _ none (choose_no _ _ _ _ neither refl))

  pub unfit_served : (Passed (both_rules n f) → ⊥) → Err StateUnfit ≡ served n f sector
  unfolding served
  unfit_served h = sym (said (both_rules n f) StateUnfit Err _ (refl, (refl, tt)) h)

  -- where an image has another size, 22 is said, and nothing is served
  pub unfit : (Passed (both_rules n f) → ⊥) → (holding n f sector ≡ refuses StateUnfit) × (record_in n f sector ≡ [])
  unfolding holding record_in
  unfit h = (said (both_rules n f) StateUnfit refuses _ (refl, (refl, tt)) h, said (both_rules n f) StateUnfit (λ r. []) _ (refl, (refl, tt)) h)
