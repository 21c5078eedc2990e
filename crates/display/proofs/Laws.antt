-- What is said of a payload whose form is known, and what a form that was asked for says of the payload.
use Prim.Native.Nat.{ℕ, ◌+◌, ◌≤◌}
use native.Mathlib.Omega.{arith}
use native.Mathlib.Nat.{add-zero}
use native.Mathlib.Numerals.{add-one}
use mathlib.Core.Path.{◌≡◌, refl, sym, ap, ◌∙◌}
use mathlib.Core.Bool.{true, false}
use mathlib.Core.List.{List, [], ◌∷◌, ◌++◌, map, append_assoc}
use lib.ListN.{length, get_or, take, drop, length-append, length-drop}
use lib.Seq.{paste, take_all, take-suc, length-take-le, drop-drop, get_or-drop}
use borrow.Author.Tests.{ltb-false, le-ltb, eqb-true, eq-eqb, not-false}
use Rattle.ground.specs.Below.{up_from}
use Rattle.ground.specs.Bytes.{laid, fitting}
use Rattle.ground.proofs.Laid.{laid_next}
use Rattle.ground.proofs.Runs.{run_read}
use Rattle.ground.proofs.Choices.{choose_yes, not_yes, not_no}
use Rattle.refusal.proofs.Numbers.{exit as handed_on}
use Rattle.refusal.specs.Refusal.{refuses, gives, says, ruled}
use Rattle.refusal.specs.declared.Refusal.{Refusal}
use Rattle.refusal.specs.declared.Refusal.TheVariants.{BadTextLength, BadText}
use Rattle.refusal.proofs.Rules.{Passed, passed_both, stopped, said, passed_on, passed, gave, refused}
use Rattle.std.specs.Prelude.{Result, IsErrAnd}
use Rattle.display.specs.Text.{all_text, inner_length, behind, length_rules, text_rules, read_text_rules, read_text, text_payload}
use Rattle.display.specs.Form.{forming}

-- a well formed payload: as long as its length byte says, which is at most the maximum, and of text alone
pub record WellFormed (own most : ℕ) (p : List ℕ) : Type 0 where
  pub long : length p ≡ own + 1 + inner_length own p
  pub small : inner_length own p ≤ most
  pub shown : all_text (behind own p) ≡ true

module _ (own most : ℕ) (p : List ℕ) where
  pub lengths : Passed (length_rules own most p) → (length p ≡ own + 1 + inner_length own p) × (inner_length own p ≤ most)
  lengths h = (eqb-true _ _ (not-false _ h.1.0), ltb-false _ _ h.1.1.0)

  -- it is what passes the reader's rules
  pub well_formed : Passed (read_text_rules own most p) → WellFormed own most p
  well_formed h =
      let both = passed_both (length_rules own most p) (text_rules (behind own p)) h in
      record { long = (lengths both.0).0; small = (lengths both.0).1; shown = not-false _ both.1.0 }

  pub lengths_pass : length p ≡ own + 1 + inner_length own p → inner_length own p ≤ most → Passed (length_rules own most p)
  lengths_pass long small = (le-ltb (length p) (own + 1) (omega arith), (not_no _ (eq-eqb _ _ long), (le-ltb most (inner_length own p) small, tt)))

  well_passes : WellFormed own most p → Passed (read_text_rules own most p)
  well_passes w = let passes = lengths_pass w.long w.small in (passes.0, (passes.1.0, (passes.1.1.0, (not_no _ w.shown, tt))))

  -- and for which whatever the rules guard stands
  pub well_stands {ℓ} : {A : Type ℓ} (f : Refusal → A) (v : A) → WellFormed own most p → ruled (read_text_rules own most p) f v ≡ v
  well_stands f v w = passed (read_text_rules own most p) f v (well_passes w)

  -- the reader then gives the message's own bytes, one by one, and the text's length
  pub read_parts : WellFormed own most p → (o text : List ℕ) → (o ≡ take own p) × (text ≡ behind own p) → gives (map (λ i. get_or o i 0) (up_from 0 own) ++ length text ∷ []) ≡ read_text own most p
  unfolding read_text
  read_parts w o text parts = ap gives fixed ∙ sym (well_stands refuses (gives (take (own + 1) p)) w)
    where
      o_long : length o ≡ own
      o_long = ap length parts.0 ∙ length-take-le own p (omega (arith, w.long))

      text_long : length text ≡ inner_length own p
      text_long = ap length parts.1 ∙ length-drop (own + 1) p ∙ omega (arith, w.long)

      bytes : map (λ i. get_or o i 0) (up_from 0 own) ≡ take own p
      bytes = sym (run_read o 0 own (omega (arith, o_long))) ∙ take_all own o (omega (arith, o_long)) ∙ parts.0

      fixed : map (λ i. get_or o i 0) (up_from 0 own) ++ length text ∷ [] ≡ take (own + 1) p
      fixed = rw (bytes, text_long, add-one own) (sym (take-suc p own 0 (omega (arith, w.long))))

  -- where a length is wrong, 32 is given
  pub not_long {ℓ} : {A : Type ℓ} (f : Refusal → A) (v : A) → (Passed (length_rules own most p) → ⊥) → ruled (read_text_rules own most p) f v ≡ f BadTextLength
  not_long f v h = stopped (length_rules own most p) (text_rules (behind own p)) f v v h ∙ said (length_rules own most p) BadTextLength f v (refl, (refl, (refl, tt))) h

  -- where only the text is wrong, 33 is given
  pub not_text {ℓ} : {A : Type ℓ} (f : Refusal → A) (v : A) → Passed (length_rules own most p) → all_text (behind own p) ≡ false → ruled (read_text_rules own most p) f v ≡ f BadText
  not_text f v lengths h = passed_on (length_rules own most p) (text_rules (behind own p)) f v lengths ∙ sym (choose_yes _ _ _ _ (not_yes _ h) refl)

  -- a payload that was parted: behind the message's own bytes stand the length byte and the rest
  module _ (r text : List ℕ) (n : ℕ) (cut : (r ≡ drop own p) × (length r + own ≡ length p)) (parts : r ≡ n ∷ text) where
    pub text_is : text ≡ behind own p
    text_is = ap (drop 1) (sym parts ∙ cut.0) ∙ drop-drop 1 own p

    length_is : inner_length own p ≡ n
    length_is = sym (get_or-drop own p 0 0 ∙ ap (λ (i : ℕ). get_or p i 0) (add-zero own)) ∙ ap (λ (l : List ℕ). get_or l 0 0) (sym cut.0 ∙ parts)

    -- its lengths are right exactly where these parts say so
    pub lengths_off : (length text ≡ n → length text ≤ most → ⊥) → Passed (length_rules own most p) → ⊥
    lengths_off off ok = let l = lengths ok in off (omega (arith, l.0, length_is, ap length parts, cut.1)) (omega (arith, l.0, l.1, length_is, ap length parts, cut.1))

    pub lengths_on : length text ≡ n → length text ≤ most → Passed (length_rules own most p)
    lengths_on long small = lengths_pass (omega (arith, long, length_is, ap length parts, cut.1)) (omega (arith, long, small, length_is))

  -- the form that a call found
  pub found_well : gives [] ≡ forming own most p → WellFormed own most p
  unfolding forming
  found_well t = well_formed (gave (read_text_rules own most p) [] [] (sym t)).0

  pub found_refused {ℓ} : {A : Type ℓ} (q : Refusal) (f : Refusal → A) (v : A) → refuses q ≡ forming own most p → f q ≡ ruled (read_text_rules own most p) f v
  unfolding forming
  found_refused q f v t = sym (refused (read_text_rules own most p) [] f v q (sym t))

-- what a `?` hands on says what was refused
pub exit : {A : Type 0} (values : A → List ℕ) (r : Result A Refusal) (q : Refusal) → IsErrAnd r (λ y. y ≡ q) → says values r ≡ refuses q
exit values r q h = ap (says values) (handed_on r q h)

-- the three lays of the writer, one after another, are the payload laid at the front
pub payload_laid : (own text o o₁ o₂ o₃ : List ℕ) → length own + 1 + length text ≤ length o → o₁ ≡ paste o 0 own (fitting (length own) 0 (length o)) → o₂ ≡ paste o₁ (length own) (length text ∷ []) (fitting 1 (length own) (length o₁)) → o₃ ≡ paste o₂ (length own + 1) text (fitting (length text) (length own + 1) (length o₂)) → o₃ ≡ laid (text_payload own text) o
payload_laid own text o o₁ o₂ o₃ room e₁ e₂ e₃ =
    laid_next (own ++ length text ∷ []) text o o₂ o₃ (length own + 1) (sym fixed) (rw fixed room) second e₃ ∙ ap (λ (x : List ℕ). laid x o) (append_assoc own (length text ∷ []) text)
  where
    fixed : length (own ++ length text ∷ []) ≡ length own + 1
    fixed = length-append own (length text ∷ [])

    first : o₁ ≡ laid own o
    first = laid_next [] own o o o₁ 0 refl (omega arith) refl e₁

    second : o₂ ≡ laid (own ++ length text ∷ []) o
    second = laid_next own (length text ∷ []) o o₁ o₂ (length own) refl (omega arith) first e₂
