-- When 32 and 33 are given, and that reader and writer give them alike (02, C-22).
use Prim.Native.Nat.{ℕ, ◌+◌, ◌≤◌}
use native.Mathlib.Omega.{arith}
use mathlib.Core.Path.{◌≡◌, refl, sym, ap, ◌∙◌}
use mathlib.Core.Logic.{◌↔◌}
use mathlib.Core.Bool.{Bool, true, false, not}
use mathlib.Core.List.{List, [], ◌∷◌, ◌++◌}
use lib.ListN.{length, take}
use lib.Dec.{eqb, ltb}
use borrow.Author.Tests.{ltb-true, ltb-false, le-ltb, eq-eqb, not-true}
use Rattle.ground.specs.Choose.{choose}
use Rattle.ground.proofs.Choices.{not_no}
use Rattle.refusal.specs.Refusal.{number_of, refuses, gives, ruled}
use Rattle.refusal.specs.declared.Refusal.{Refusal}
use Rattle.refusal.specs.declared.Refusal.TheVariants.{NoRoom, BadTextLength, BadText}
use Rattle.refusal.proofs.Numbers.{same_refused, gives_not}
use Rattle.refusal.proofs.Rules.{Passed, passed_on, Unsaid, refused_not, refused_first, refused_later, refused_beyond}
use Rattle.display.specs.Text.{all_text, behind, length_rules, text_rules, read_text, text_payload, write_text_rules, write_text}
use Rattle.display.proofs.Laws.{not_long, not_text}
use Rattle.display.proofs.RoundTrip.{length_there, text_there, long}

module _ (own most : ℕ) (p : List ℕ) where
  fixed : List ℕ
  fixed = take (own + 1) p

  -- 32 is read exactly where a length is wrong
  pub bad_length_exactly : (read_text own most p ≡ refuses BadTextLength) ↔ (Passed (length_rules own most p) → ⊥)
  unfolding read_text fixed
  bad_length_exactly = (only, λ h. not_long own most p refuses (gives fixed) h)
    where
      only : ruled (length_rules own most p ++ text_rules (behind own p)) refuses (gives fixed) ≡ refuses BadTextLength → Passed (length_rules own most p) → ⊥
      only e ok =
          refused_not refuses (gives fixed) same_refused (gives_not fixed) (text_rules (behind own p)) BadTextLength ((λ q. omega (arith, ap number_of q)), tt) (sym (passed_on (length_rules own most p) (text_rules (behind own p)) refuses (gives fixed) ok) ∙ e)

  -- 33 exactly where the lengths are right and a byte is no text
  pub bad_text_exactly : (read_text own most p ≡ refuses BadText) ↔ (Passed (length_rules own most p) × (all_text (behind own p) ≡ false))
  unfolding read_text fixed
  bad_text_exactly = (only, λ h. not_text own most p refuses (gives fixed) h.0 h.1)
    where
      unsaid : Unsaid (length_rules own most p) BadText
      unsaid = ((λ e. omega (arith, ap number_of e)), ((λ e. omega (arith, ap number_of e)), ((λ e. omega (arith, ap number_of e)), tt)))

      only : ruled (length_rules own most p ++ text_rules (behind own p)) refuses (gives fixed) ≡ refuses BadText → Passed (length_rules own most p) × (all_text (behind own p) ≡ false)
      only e =
          let parts = refused_beyond refuses (gives fixed) same_refused (gives_not fixed) (length_rules own most p) (text_rules (behind own p)) BadText unsaid e in
          (parts.0, not-true _ ((refused_first refuses (gives fixed) same_refused (gives_not fixed) _ BadText [] tt).0 parts.1))

module _ (most : ℕ) (own text : List ℕ) (room : ℕ) where
  -- what the payload takes
  abbrev need : ℕ
  need = length own + 1 + length text

  counted : List ℕ
  counted = need ∷ []

  narrow : Bool × Refusal
  narrow = (ltb room need, NoRoom)

  -- 32 is given to a writer exactly where the text is longer than the maximum, whatever its bytes and the room
  pub long_exactly : (write_text most own text room ≡ refuses BadTextLength) ↔ (ltb most (length text) ≡ true)
  unfolding write_text counted narrow
  long_exactly = refused_first refuses (gives counted) same_refused (gives_not counted) (ltb most (length text)) BadTextLength (text_rules text ++ narrow ∷ []) ((λ e. omega (arith, ap number_of e)), ((λ e. omega (arith, ap number_of e)), tt))

  -- 33 exactly where it is not, and a byte is no text, whatever the room
  pub unwritable_exactly : (write_text most own text room ≡ refuses BadText) ↔ ((ltb most (length text) ≡ false) × (not (all_text text) ≡ true))
  unfolding write_text counted narrow
  unwritable_exactly = ((λ e. let rest = later.0 e in (rest.0, first.0 rest.1)), λ h. later.1 (h.0, first.1 h.1))
    where
      later : (ruled (write_text_rules most own text room) refuses (gives counted) ≡ refuses BadText) ↔ ((ltb most (length text) ≡ false) × (ruled (text_rules text ++ narrow ∷ []) refuses (gives counted) ≡ refuses BadText))
      later = refused_later refuses (gives counted) same_refused (gives_not counted) (ltb most (length text)) BadTextLength (text_rules text ++ narrow ∷ []) BadText (λ e. omega (arith, ap number_of e))

      first : (ruled (text_rules text ++ narrow ∷ []) refuses (gives counted) ≡ refuses BadText) ↔ (not (all_text text) ≡ true)
      first = refused_first refuses (gives counted) same_refused (gives_not counted) (not (all_text text)) BadText (narrow ∷ []) ((λ e. omega (arith, ap number_of e)), tt)

  -- 11 only where the text can be written, and then exactly where the room is shorter than its payload
  pub no_room_exactly : (write_text most own text room ≡ refuses NoRoom) ↔ (Passed ((ltb most (length text), BadTextLength) ∷ text_rules text) × (ltb room need ≡ true))
  unfolding write_text counted narrow
  no_room_exactly = (only, λ h. passed_on fine (narrow ∷ []) refuses (gives counted) h.0 ∙ (refused_first refuses (gives counted) same_refused (gives_not counted) (ltb room need) NoRoom [] tt).1 h.1)
    where
      fine : List (Bool × Refusal)
      fine = (ltb most (length text), BadTextLength) ∷ text_rules text

      only : ruled (fine ++ narrow ∷ []) refuses (gives counted) ≡ refuses NoRoom → Passed fine × (ltb room need ≡ true)
      only e =
          let parts = refused_beyond refuses (gives counted) same_refused (gives_not counted) fine (narrow ∷ []) NoRoom ((λ q. omega (arith, ap number_of q)), ((λ q. omega (arith, ap number_of q)), tt)) e in
          (parts.0, (refused_first refuses (gives counted) same_refused (gives_not counted) (ltb room need) NoRoom [] tt).0 parts.1)

  -- so that room for the longest text always suffices
  pub room_suffices : length own + 1 + most ≤ room → write_text most own text room ≡ refuses NoRoom → ⊥
  room_suffices h e = let parts = no_room_exactly.0 e in omega (arith, ltb-false most (length text) parts.0.0, ltb-true room need parts.1)

module _ (own text : List ℕ) (most : ℕ) where
  -- reader and writer refuse a text alike: where there is room, the one gives the number that the other gives
  pub refused_alike : (room : ℕ) → length own + 1 + length text ≤ room → (read_text (length own) most (text_payload own text)).number ≡ (write_text most own text room).number
  unfolding read_text write_text choose
  refused_alike room fits = rw (length_there own text, text_there own text, short, agree, roomy) (go (ltb most (length text)) (not (all_text text)))
    where
      short : ltb (length (text_payload own text)) (length own + 1) ≡ false
      short = le-ltb (length (text_payload own text)) (length own + 1) (omega (arith, long own text))

      agree : not (eqb (length (text_payload own text)) (length own + 1 + length text)) ≡ false
      agree = not_no _ (eq-eqb (length (text_payload own text)) (length own + 1 + length text) (long own text))

      roomy : ltb room (length own + 1 + length text) ≡ false
      roomy = le-ltb room (length own + 1 + length text) fits

      go : (b c : Bool) → (choose b (refuses BadTextLength) (choose c (refuses BadText) (gives (take (length own + 1) (text_payload own text))))).number ≡ (choose b (refuses BadTextLength) (choose c (refuses BadText) (gives ((length own + 1 + length text) ∷ [])))).number
      go true c = refl
      go false true = refl
      go false false = refl
