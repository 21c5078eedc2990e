-- What is written reads back, over any maximum (02, C-22), and what is read and written again is the same payload.
use Prim.Native.Nat.{ℕ, ◌+◌, ◌≤◌}
use native.Mathlib.Omega.{arith}
use native.Mathlib.Numerals.{add-one}
use mathlib.Core.Path.{◌≡◌, refl, sym, ap, subst, ◌∙◌}
use mathlib.Core.Bool.{Bool, true}
use mathlib.Core.List.{List, [], ◌∷◌, ◌++◌}
use lib.ListN.{length, take, drop, length-append, length-drop, take-append-drop}
use lib.Seq.{take-take, take_at, take-append-add, drop-append-add, get_or-append_seam, drop-cons, length-take-le}
use borrow.Author.Tests.{ltb-false, le-ltb, not-false}
use Rattle.ground.proofs.Choices.{not_no}
use Rattle.refusal.specs.Refusal.{refuses, gives}
use Rattle.refusal.specs.declared.Refusal.{Refusal}
use Rattle.refusal.proofs.Rules.{Passed, passed, gave}
use Rattle.display.specs.Text.{all_text, inner_length, behind, read_text_rules, read_text, text_of, text_payload, write_text_rules, write_text, text_bytes}
use Rattle.display.proofs.Laws.{WellFormed, well_formed, well_stands}

module _ (own text : List ℕ) where
  -- the three parts of a payload that was put together
  pub length_there : inner_length (length own) (text_payload own text) ≡ length text
  length_there = get_or-append_seam own (length text) text 0

  pub text_there : behind (length own) (text_payload own text) ≡ text
  text_there = drop-append-add own (length text ∷ text) 1

  fixed_there : take (length own + 1) (text_payload own text) ≡ own ++ length text ∷ []
  fixed_there = take-append-add own (length text ∷ text) 1

  pub long : length (text_payload own text) ≡ length own + 1 + length text
  long = length-append own (length text ∷ text) ∙ omega arith

  module _ (most : ℕ) where
    -- a text that the writer takes makes a well formed payload
    put_well : length text ≤ most → all_text text ≡ true → WellFormed (length own) most (text_payload own text)
    put_well small shown =
        record {
          long = rw length_there long;
          small = rw length_there small;
          shown = ap all_text text_there ∙ shown;
        }

    -- what is written reads back: the message's own bytes, the length, the text
    pub reads_back : length text ≤ most → all_text text ≡ true → (read_text (length own) most (text_payload own text) ≡ gives (own ++ length text ∷ [])) × (text_of (length own) most (text_payload own text) ≡ text)
    unfolding read_text text_of
    reads_back small shown =
        let well = put_well small shown in
        (well_stands _ _ _ refuses _ well ∙ ap gives fixed_there, well_stands _ _ _ (λ r. []) _ well ∙ text_there)

    -- the same of what a call of the writer laid, whatever the room, where it refused nothing
    pub written_reads_back : (room : ℕ) (vs : List ℕ) → write_text most own text room ≡ gives vs → (read_text (length own) most (text_bytes most own text room) ≡ gives (own ++ length text ∷ [])) × (text_of (length own) most (text_bytes most own text room) ≡ text)
    unfolding write_text text_bytes
    written_reads_back room vs e =
        let ok = (gave (write_text_rules most own text room) _ vs e).0 in
        rw (passed (write_text_rules most own text room) (λ r. []) (text_payload own text) ok) (reads_back (ltb-false _ _ ok.0) (not-false _ ok.1.0))

module _ (own most : ℕ) (p vs : List ℕ) (e : read_text own most p ≡ gives vs) where
  pub read_well : WellFormed own most p
  unfolding read_text
  read_well = well_formed own most p (gave (read_text_rules own most p) (take (own + 1) p) vs e).0

  text_is : text_of own most p ≡ behind own p
  unfolding text_of
  text_is = well_stands own most p (λ r. []) (behind own p) read_well

  text_long : length (text_of own most p) ≡ inner_length own p
  text_long = rw (text_is, length-drop (own + 1) p) (omega (arith, read_well.long))

  own_long : length (take own p) ≡ own
  own_long = length-take-le own p (omega (arith, read_well.long))

  -- put together again it is the same payload
  pub put_again : text_payload (take own p) (text_of own most p) ≡ p
  put_again = rw (text_long, text_is) (ap (λ (l : List ℕ). take own p ++ l) whole ∙ take-append-drop own p)
    where
      whole : inner_length own p ∷ behind own p ≡ drop own p
      whole = ap (λ (n : ℕ). inner_length own p ∷ drop n p) (add-one own) ∙ sym (drop-cons p own 0 (omega (arith, read_well.long)))

  -- what is read and written again, where there is room for it, is that payload
  pub written_again : (room : ℕ) → length p ≤ room → (write_text most (take own p) (text_of own most p) room ≡ gives (length p ∷ [])) × (text_bytes most (take own p) (text_of own most p) room ≡ p)
  unfolding write_text text_bytes
  written_again room fits = (passed (rules room) refuses _ ok ∙ ap (λ (n : ℕ). gives (n ∷ [])) counted, passed (rules room) (λ r. []) _ ok ∙ put_again)
    where
      rules : ℕ → List (Bool × Refusal)
      rules room = write_text_rules most (take own p) (text_of own most p) room

      counted : length (take own p) + 1 + length (text_of own most p) ≡ length p
      counted = rw (own_long, text_long) (sym read_well.long)

      ok : Passed (rules room)
      ok = (
        le-ltb most (length (text_of own most p)) (rw text_long read_well.small),
        (not_no _ (ap all_text text_is ∙ read_well.shown), (le-ltb room (length (take own p) + 1 + length (text_of own most p)) (rw counted fits), tt)),
      )

-- the same, where the message's own bytes are named
pub written_again_as : (own : List ℕ) (n most : ℕ) (p : List ℕ) (room : ℕ) → read_text (length own) most p ≡ gives (own ++ n ∷ []) → length p ≤ room → (write_text most own (text_of (length own) most p) room ≡ gives (length p ∷ [])) × (text_bytes most own (text_of (length own) most p) room ≡ p)
unfolding read_text
written_again_as own n most p room e fits =
    subst (λ (x : List ℕ). (write_text most x (text_of (length own) most p) room ≡ gives (length p ∷ [])) × (text_bytes most x (text_of (length own) most p) room ≡ p)) named (written_again (length own) most p (own ++ n ∷ []) e room fits)
  where
    given : take (length own + 1) p ≡ own ++ n ∷ []
    given = (gave (read_text_rules (length own) most p) (take (length own + 1) p) (own ++ n ∷ []) e).1

    named : take (length own) p ≡ own
    named = sym (take-take (length own) (length own + 1) p (omega arith)) ∙ ap (take (length own)) given ∙ take_at own (n ∷ []) (length own) refl
