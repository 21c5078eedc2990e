-- After any series of stores each sector is served what was stored last, or what was served before.
use Prim.Native.Nat.{ℕ}
use native.Mathlib.Decide.{ℕ_discrete}
use mathlib.Core.Path.{◌≡◌, refl, sym, ap, ◌∙◌}
use mathlib.Core.Logic.{◌⊎◌, inl, inr}
use mathlib.Core.List.{List, [], ◌∷◌}
use lib.ListN.{length}
use lib.Dec.{eqb}
use borrow.Author.Tests.{eq-eqb, ne_eqb}
use Rattle.ground.specs.Choose.{choose}
use Rattle.ground.proofs.Choices.{choose_yes, choose_no, both, not_left, not_right}
use Rattle.refusal.specs.Refusal.{Told, refuses, gives}
use Rattle.refusal.specs.declared.Refusal.{Refusal}
use Rattle.refusal.proofs.Numbers.{not_zero, told_number}
use Rattle.shared.specs.Image.{image_long}
use Rattle.shared.specs.Holder.{record_in}
use Rattle.shared.specs.Store.{taken, storing, stored}
use Rattle.shared.specs.Series.{Store, left, seen, renews, expected, OneEach}
use Rattle.shared.proofs.Kept.{refused_unchanged, store_case, one_each}
use Rattle.shared.proofs.Served.{others_as_before, stored_served}

-- one store: the sector's record is the one stored, where it was, and else what it was before
one_store : (n f : List ℕ) (p : Store) (sector : ℕ) → length f ≡ image_long → record_in (stored n p.sector p.bytes) f sector ≡ choose (renews sector (p, storing n p.sector p.bytes)) p.bytes (record_in n f sector)
one_store n f p sector long = go (store_case n p.sector p.bytes) (ℕ_discrete p.sector sector)
  where
    after : List ℕ
    after = stored n p.sector p.bytes

    t : Told
    t = storing n p.sector p.bytes

    go : (t ≡ gives (taken n p.sector ∷ [])) ⊎ ((q : Refusal) × (t ≡ refuses q)) → Dec (p.sector ≡ sector) → record_in after f sector ≡ choose (renews sector (p, t)) p.bytes (record_in n f sector)
    go (inl e) (yes is) =
        ap (record_in after f) (sym is) ∙ (stored_served n f p.sector p.bytes (taken n p.sector) long e).bytes ∙ choose_yes _ _ _ _ (both (eqb t.number 0) (eqb p.sector sector) (eq-eqb _ _ (told_number e)) (eq-eqb _ _ is)) refl
    go (inl e) (no ne) =
        (others_as_before n f p.sector p.bytes sector (λ z. ne (sym z))).bytes ∙ choose_no _ _ _ _ (not_right (eqb t.number 0) (eqb p.sector sector) (ne_eqb _ _ ne)) refl
    go (inr (q, e)) d =
        ap (λ (x : List ℕ). record_in x f sector) (refused_unchanged n p.sector p.bytes q e) ∙ choose_no _ _ _ _ (not_left (eqb t.number 0) (eqb p.sector sector) (ne_eqb _ _ (λ z. not_zero q (sym (told_number e) ∙ z)))) refl

-- and any series of them, from any image, garbage and other sizes included
pub last_stored : (n f : List ℕ) (ps : List Store) (sector : ℕ) → length f ≡ image_long → record_in (left n ps) f sector ≡ expected sector (record_in n f sector) (seen n ps)
unfolding left seen expected
last_stored n f [] sector long = refl
last_stored n f (p ∷ ps) sector long =
    last_stored (stored n p.sector p.bytes) f ps sector long ∙ ap (λ (r : List ℕ). expected sector r (seen (stored n p.sector p.bytes) ps)) (one_store n f p sector long)

-- and no sector has two slots after a series that began where none had
pub still_one_each : (n : List ℕ) (ps : List Store) → OneEach n → OneEach (left n ps)
unfolding left
still_one_each n [] one = one
still_one_each n (p ∷ ps) one = still_one_each (stored n p.sector p.bytes) ps (one_each n p.sector p.bytes one)
