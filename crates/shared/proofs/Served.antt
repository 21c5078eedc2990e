-- What is served, over any two images: what was stored, every other sector as before, the factory's record exactly where the network has none.
use Prim.Native.Nat.{ℕ}
use native.Mathlib.Omega.{arith}
use mathlib.Core.Path.{◌≡◌, refl, sym, ap, ◌∙◌}
use mathlib.Core.Logic.{◌↔◌}
use mathlib.Core.Bool.{Bool, true, false, not}
use mathlib.Core.List.{List, [], ◌∷◌}
use lib.ListN.{length}
use lib.Dec.{eqb, ltb}
use Rattle.ground.specs.Choose.{choose}
use Rattle.ground.proofs.Choices.{choose_yes, choose_no, of_choice}
use Rattle.refusal.specs.Refusal.{Told, value, refuses, gives, ruled}
use Rattle.refusal.specs.declared.Refusal.{Refusal}
use Rattle.refusal.specs.declared.Refusal.TheVariants.{StateUnfit}
use Rattle.refusal.proofs.Rules.{passed}
use Rattle.shared.specs.Image.{image_long, slot_of, has, record_of}
use Rattle.shared.specs.Holder.{image_rules, both_rules, serving, holder_number, holding, record_in}
use Rattle.shared.specs.Store.{taken, storing, stored}
use Rattle.shared.specs.Answer.{answer_of, answer_payload, fitted, fitted_bytes, answering, answer_bytes}
use Rattle.shared.proofs.Looking.{sizes, has_yes, no_slot, Serving, is_network, is_factory, is_nobody, says}
use Rattle.shared.proofs.Kept.{Accepted, stored_long, stored_is, others_slot, others_record}

-- a sector is served alike from two network's copies: one holder, one record, one answer with any room
pub record Alike (n m f : List ℕ) (sector : ℕ) : Type 0 where
  pub holder : holding n f sector ≡ holding m f sector
  pub bytes : record_in n f sector ≡ record_in m f sector
  pub answer : (room : ℕ) → answering n f sector room ≡ answering m f sector room
  pub laid : (room : ℕ) → answer_bytes n f sector room ≡ answer_bytes m f sector room

-- what is read off the image that serves a sector is read off the network's copy, or else off the factory image
of_serving {ℓ} : {A : Type ℓ} (g : List ℕ → A) (n f : List ℕ) (sector : ℕ) → g (serving n f sector) ≡ choose (has n sector) (g n) (g f)
unfolding serving
of_serving g n f sector = of_choice g (has n sector) n f

-- two network's copies of one size that have one slot and one record for a sector
module _ (n m f : List ℕ) (sector : ℕ) (long : length n ≡ length m) (slot : slot_of n sector ≡ slot_of m sector) (part : record_of n sector ≡ record_of m sector) where
  by_size {ℓ} : {A : Type ℓ} (g : Refusal → A) (v w : A) → v ≡ w → ruled (both_rules n f) g v ≡ ruled (both_rules m f) g w
  by_size g v w e = ap (λ (k : ℕ). ruled ((not (eqb k image_long), StateUnfit) ∷ image_rules f) g v) long ∙ ap (ruled (both_rules m f) g) e

  by_slot {ℓ} : {A : Type ℓ} (g : List ℕ → A) → g n ≡ g m → g (serving n f sector) ≡ g (serving m f sector)
  by_slot g e =
      of_serving g n f sector ∙ ap (λ (k : ℕ). choose (ltb 0 k) (g n) (g f)) slot ∙ ap (λ x. choose (has m sector) x (g f)) e ∙ sym (of_serving g m f sector)

  number : holder_number n f sector ≡ holder_number m f sector
  unfolding holder_number
  number = ap (λ (k : ℕ). choose (ltb 0 k) 1 (choose (has f sector) 2 0)) slot

  own : answer_of n sector ≡ answer_of m sector
  unfolding answer_of
  own = ap (λ (k : ℕ). choose (ltb 0 k) (sector ∷ record_of n sector) []) slot ∙ ap (λ (r : List ℕ). choose (has m sector) (sector ∷ r) []) part

  payload : answer_payload n f sector ≡ answer_payload m f sector
  payload = by_slot (λ (i : List ℕ). answer_of i sector) own

  -- serve it alike
  alike : Alike n m f sector
  unfolding holding record_in answering answer_bytes
  alike =
      record {
        holder = by_size refuses _ _ (ap (λ (c : ℕ). gives (c ∷ slot_of (serving n f sector) sector ∷ [])) number ∙ ap (λ (k : ℕ). gives (holder_number m f sector ∷ k ∷ [])) (by_slot (λ (i : List ℕ). slot_of i sector) slot));
        bytes = by_size (λ r. []) _ _ (by_slot (λ (i : List ℕ). record_of i sector) part);
        answer = λ room. by_size refuses _ _ (ap (λ (p : List ℕ). fitted p room) payload);
        laid = λ room. by_size (λ r. []) _ _ (ap (λ (p : List ℕ). fitted_bytes p room) payload);
      }

-- every other sector is served as before, whatever becomes of the store, and from any factory image: "replaces the record of that sector and no other" (02, C-16)
pub others_as_before : (n f : List ℕ) (sector : ℕ) (bytes : List ℕ) (other : ℕ) → (other ≡ sector → ⊥) → Alike (stored n sector bytes) n f other
others_as_before n f sector bytes other ne =
    alike (stored n sector bytes) n f other (stored_long n sector bytes) (others_slot n sector bytes other ne) (others_record n sector bytes other ne)

-- what a caller is told of a sector: who holds its record, the record, and the payload that answers a request for it, with any room
pub record Served (n f : List ℕ) (sector number slot : ℕ) (part payload : List ℕ) : Type 0 where
  pub holder : holding n f sector ≡ gives (number ∷ slot ∷ [])
  pub bytes : record_in n f sector ≡ part
  pub answer : (room : ℕ) → (answering n f sector room ≡ fitted payload room) × (answer_bytes n f sector room ≡ fitted_bytes payload room)

-- the same by other names for slot, record and payload
served_as : {n f : List ℕ} {sector number slot slot' : ℕ} {part part' payload payload' : List ℕ} → slot ≡ slot' → part ≡ part' → payload ≡ payload' → Served n f sector number slot part payload → Served n f sector number slot' part' payload'
served_as {number = number} e p q s =
    record {
      holder = s.holder ∙ ap (λ (k : ℕ). gives (number ∷ k ∷ [])) e;
      bytes = s.bytes ∙ p;
      answer = λ room. ((s.answer room).0 ∙ ap (λ (x : List ℕ). fitted x room) q, (s.answer room).1 ∙ ap (λ (x : List ℕ). fitted_bytes x room) q);
    }

-- over any two images of their size, whatever is in them: the network's copy serves what it has, "or else" the factory image what it has, and nobody the rest
module _ (n f : List ℕ) (sector : ℕ) (long : (length n ≡ image_long) × (length f ≡ image_long)) where
  -- of the image that serves it
  by : (c : ℕ) (image : List ℕ) (it : Bool) → Serving n f sector c image it → Served n f sector c (slot_of image sector) (record_of image sector) (answer_of image sector)
  unfolding record_in answering answer_bytes
  by c image it s =
      let ok = (sizes n f).1 long in
      let payload = ap (λ (i : List ℕ). answer_of i sector) s.image in
      record {
        holder = sym (says n f sector c image it long.0 long.1 s);
        bytes = passed (both_rules n f) (λ r. []) _ ok ∙ ap (λ (i : List ℕ). record_of i sector) s.image;
        answer = λ room. (passed (both_rules n f) refuses _ ok ∙ ap (λ (p : List ℕ). fitted p room) payload, passed (both_rules n f) (λ r. []) _ ok ∙ ap (λ (p : List ℕ). fitted_bytes p room) payload);
      }

  -- which has its record
  pub by_one : (c : ℕ) (image : List ℕ) → Serving n f sector c image true → Served n f sector c (slot_of image sector) (record_of image sector) (sector ∷ record_of image sector)
  unfolding answer_of
  by_one c image s = served_as refl refl (sym (choose_yes _ _ _ _ s.mine refl)) (by c image true s)

  -- or nobody has one
  pub by_none : Serving n f sector 0 f false → Served n f sector 0 0 [] []
  unfolding record_of answer_of
  by_none s = served_as (sym (no_slot f sector s.mine)) (sym (choose_no _ _ _ _ s.mine refl)) (sym (choose_no _ _ _ _ s.mine refl)) (by 0 f false s)

  pub by_network : has n sector ≡ true → Served n f sector 1 (slot_of n sector) (record_of n sector) (sector ∷ record_of n sector)
  by_network h = by_one 1 n (is_network n f sector h)

  pub by_factory : has n sector ≡ false → has f sector ≡ true → Served n f sector 2 (slot_of f sector) (record_of f sector) (sector ∷ record_of f sector)
  by_factory none h = by_one 2 f (is_factory n f sector none h)

  pub by_nobody : has n sector ≡ false → has f sector ≡ false → Served n f sector 0 0 [] []
  by_nobody none neither = by_none (is_nobody n f sector none neither)

  -- so the factory image is asked exactly where the network's copy has none
  pub factory_exactly : (k : ℕ) → (holding n f sector ≡ gives (2 ∷ k ∷ [])) ↔ ((has n sector ≡ false) × ((has f sector ≡ true) × (slot_of f sector ≡ k)))
  factory_exactly k = (only, λ h. (by_factory h.0 h.1.0).holder ∙ ap (λ (j : ℕ). gives (2 ∷ j ∷ [])) h.1.1)
    where
      first : {a b : Told} → a ≡ b → value a 0 ≡ value b 0
      first e = ap (λ (t : Told). value t 0) e

      only : holding n f sector ≡ gives (2 ∷ k ∷ []) → (has n sector ≡ false) × ((has f sector ≡ true) × (slot_of f sector ≡ k))
      only e = go (has n sector) refl (has f sector) refl
        where
          go : (a : Bool) → has n sector ≡ a → (b : Bool) → has f sector ≡ b → (has n sector ≡ false) × ((has f sector ≡ true) × (slot_of f sector ≡ k))
          go true h b q = absurd (let z : ⊥ = omega (arith, first (sym (by_network h).holder ∙ e)) in z)
          go false h true q = (h, (q, ap (λ (t : Told). value t 1) (sym (by_factory h q).holder ∙ e)))
          go false h false q = absurd (let z : ⊥ = omega (arith, first (sym (by_nobody h q).holder ∙ e)) in z)

-- what was stored is what is served: from the network's copy and the slot that was told, whatever the factory image has
pub stored_served : (n f : List ℕ) (sector : ℕ) (bytes : List ℕ) (k : ℕ) → length f ≡ image_long → storing n sector bytes ≡ gives (k ∷ []) → Served (stored n sector bytes) f sector 1 k bytes (sector ∷ bytes)
stored_served n f sector bytes k long h =
    served_as slot part (ap (λ (r : List ℕ). sector ∷ r) part) (by_network after f sector (stored_long n sector bytes ∙ did.0.write.long, long) (has_yes after sector (sym slot) (omega (arith, did.1.0, did.0.write.from))))
  where
    after : List ℕ
    after = stored n sector bytes

    did : Accepted n sector bytes × ((taken n sector ≡ k) × ((slot_of after sector ≡ k) × (record_of after sector ≡ bytes)))
    did = stored_is n sector bytes k h

    slot : slot_of after sector ≡ k
    slot = did.1.1.0

    part : record_of after sector ≡ bytes
    part = did.1.1.1
