-- The laws of numbers: what a digit more makes of a worth, and which words are no number that fits.
use Prim.Native.Nat.{ℕ, zero, suc, ◌+◌, ◌-◌, ◌*◌, ◌≤◌, ◌<◌}
use native.Mathlib.Omega.{arith}
use native.Mathlib.Numerals.{add-one}
use native.Mathlib.Decide.{ℕ_discrete}
use mathlib.Core.Path.{◌≡◌, refl, sym, ap, ◌∙◌}
use mathlib.Core.List.{List}
use mathlib.Core.Bool.{Bool, true, false, false≢true}
use lib.ListN.{length, get_or}
use lib.Dec.{leb, ltb}
use borrow.Author.Tests.{lt-ltb, le-ltb, le-leb, lt-leb, leb-true}
use Rattle.std.specs.Prelude.{Option, Some, None}
use Rattle.ground.specs.Below.{all}
use Rattle.ground.specs.Choose.{choose}
use Rattle.ground.proofs.Choices.{choose_yes, choose_no, chosen, unchosen, and_left, and_right, both, not_left, not_right, never}
use Rattle.ground.proofs.Loops.{all_none, all_at, all_more}
use Rattle.script.specs.Words.{word_from}
use Rattle.script.specs.Numbers.{between, is_digit, worth_to, worth, is_number, fits, widest, worth_of, field_of, field_at}

-- a byte passes where it lies between the two, and nowhere else
pub between_yes : (low high b : ℕ) → low ≤ b → b ≤ high → between low high b ≡ true
between_yes low high b h l = both (leb low b) (leb b high) (le-leb low b h) (le-leb b high l)

pub between_no : (low high b : ℕ) → (low ≤ b → b ≤ high → ⊥) → between low high b ≡ false
between_no low high b h = never (between low high b) (λ e. h (leb-true low b (and_left (leb low b) (leb b high) e)) (leb-true b high (and_right (leb low b) (leb b high) e)))

pub worth_more : (word : List ℕ) (i : ℕ) → worth_to word (i + 1) ≡ 10 * worth_to word i + (get_or word i 0 - 48)
unfolding worth_to
worth_more word i = rw add-one

-- a worth grows with each digit
pub worth_grows : (word : List ℕ) (m n : ℕ) → m ≤ n → worth_to word m ≤ worth_to word n
unfolding worth_to
worth_grows word m zero h = rw (let e : m ≡ 0 = omega arith in e) (omega arith)
worth_grows word m (suc n) h = go (λ l. worth_grows word m n l) (ℕ_discrete m (suc n))
  where
    go : (m ≤ n → worth_to word m ≤ worth_to word n) → Dec (m ≡ suc n) → worth_to word m ≤ 10 * worth_to word n + (get_or word n 0 - 48)
    go r (yes e) = rw e (omega arith)
    go r (no ne) = omega (arith, r (omega arith))

-- each of the first i bytes is a digit
unfoldable pub digits_to : List ℕ → ℕ → Bool
digits_to word i = all (λ j. is_digit (get_or word j 0)) i

module _ (word : List ℕ) where
  pub digits_none : digits_to word 0 ≡ true
  unfolding digits_to
  digits_none = sym (all_none (λ j. is_digit (get_or word j 0)))

  pub digits_more : (i : ℕ) → digits_to word i ≡ true → 48 ≤ get_or word i 0 → get_or word i 0 ≤ 57 → digits_to word (i + 1) ≡ true
  unfolding digits_to
  digits_more i h a b = all_more (λ j. is_digit (get_or word j 0)) i ∙ both (digits_to word i) (is_digit (get_or word i 0)) h (between_yes 48 57 (get_or word i 0) a b)

  pub is_number_lem : 0 < length word → digits_to word (length word) ≡ true → is_number word ≡ true
  unfolding is_number digits_to
  is_number_lem l h = both (ltb 0 (length word)) (digits_to word (length word)) (lt-ltb _ _ l) h

  -- the empty word is no number, nor is one with another byte in it
  pub no_digits : length word ≤ 0 → is_number word ≡ false
  unfolding is_number
  no_digits l = not_left _ _ (le-ltb _ _ l)

  pub other_byte : (i : ℕ) → i < length word → (48 ≤ get_or word i 0 → get_or word i 0 ≤ 57 → ⊥) → is_number word ≡ false
  unfolding is_number digits_to
  other_byte i l h = not_right (ltb 0 (length word)) _ (never (digits_to word (length word)) (λ e. false≢true (sym (between_no 48 57 (get_or word i 0) h) ∙ all_at (λ j. is_digit (get_or word j 0)) (length word) i e l)))

  module _ (most : ℕ) where
    pub does_fit : is_number word ≡ true → worth word ≤ most → fits most word ≡ true
    does_fit h l = both (is_number word) (leb (worth word) most) h (le-leb _ _ l)

    pub no_fit : is_number word ≡ false → fits most word ≡ false
    no_fit h = not_left (is_number word) (leb (worth word) most) h

    -- what the first digits are worth is already too much
    pub too_much : (i : ℕ) → i ≤ length word → most < worth_to word i → fits most word ≡ false
    too_much i l h = not_right (is_number word) _ (lt-leb (worth word) most (omega (arith, worth_grows word i (length word) l)))

    -- what does not fit a wider field does not fit
    unfit_less : (wide : ℕ) → most ≤ wide → fits wide word ≡ false → fits most word ≡ false
    unfit_less wide l h = never (fits most word) (λ e. false≢true (sym h ∙ widened e))
      where
        widened : fits most word ≡ true → fits wide word ≡ true
        widened e =
            let n = and_left (is_number word) (leb (worth word) most) e in
            let m = leb-true (worth word) most (and_right (is_number word) (leb (worth word) most) e) in
            both (is_number word) (leb (worth word) wide) n (le-leb (worth word) wide (omega arith))

-- what code answers of a word that is no number, one with a byte that is no digit, one that is worth too much, and of a number
module _ (word : List ℕ) where
  pub empty_told : length word ≡ 0 → None ≡ worth_of word
  empty_told e = choose_no _ _ _ _ (no_fit word widest (no_digits word (omega arith))) refl

  pub other_told : (i : ℕ) → i < length word → (48 ≤ get_or word i 0 → get_or word i 0 ≤ 57 → ⊥) → None ≡ worth_of word
  other_told i l h = choose_no _ _ _ _ (no_fit word widest (other_byte word i l h)) refl

  pub over_told : (i n : ℕ) → n ≡ worth_to word i → i < length word → widest < 10 * n + (get_or word i 0 - 48) → None ≡ worth_of word
  over_told i n e l h = choose_no _ _ _ _ (too_much word widest (i + 1) (omega arith) (rw worth_more (omega arith))) refl

  pub number_told : (i n : ℕ) → n ≡ worth_to word i → digits_to word i ≡ true → i ≡ length word → 0 < i → n ≤ widest → Some n ≡ worth_of word
  number_told i n e h z l m =
      let whole : worth_to word i ≡ worth word = ap (worth_to word) z in
      choose_yes _ _ _ _ (does_fit word widest (is_number_lem word (omega arith) (ap (digits_to word) (sym z) ∙ h)) (omega arith)) (ap Some (e ∙ whole))

  -- and a digit more
  pub digit_told : (i n m : ℕ) → n ≡ worth_to word i → digits_to word i ≡ true → 48 ≤ get_or word i 0 → get_or word i 0 ≤ 57 → m ≡ n * 10 + (get_or word i 0 - 48) → m ≤ widest → (m ≡ worth_to word (i + 1)) × (digits_to word (i + 1) ≡ true) × (m ≤ widest)
  digit_told i n m e h a b p l = (rw worth_more (omega arith), digits_more word i h a b, l)

-- what code was told of a word's worth
worth_some : (word : List ℕ) (v : ℕ) → Some v ≡ worth_of word → (is_number word ≡ true) × (v ≡ worth word)
worth_some word v q = go (fits widest word) refl q
  where
    go : (b : Bool) → fits widest word ≡ b → Some v ≡ choose b (Some (worth word)) None → (is_number word ≡ true) × (v ≡ worth word)
    go true f r = (and_left (is_number word) (leb (worth word) widest) f, cc (chosen (Some (worth word)) None))
    go false f r = absurd (let z : ◌≡◌ {A = ℕ} 0 1 = cc (unchosen (Some (worth word)) None) in omega arith)

worth_none : (word : List ℕ) → None ≡ worth_of word → fits widest word ≡ false
worth_none word q = go (fits widest word) refl q
  where
    go : (b : Bool) → fits widest word ≡ b → None ≡ choose b (Some (worth word)) None → fits widest word ≡ false
    go true f r = absurd (let z : ◌≡◌ {A = ℕ} 0 1 = cc (chosen (Some (worth word)) None) in omega arith)
    go false f r = f

-- the field that is read from the word there: one that fits, one that is over, and one that is no number
module _ (line word : List ℕ) (at most next : ℕ) (there : Some (word, next) ≡ word_from line at) where
  field : (t : Bool) → fits most word ≡ t → ◌≡◌ {A = Option ℕ × ℕ} (choose t (Some (worth word)) None, next) (field_at line at most)
  unfolding field_at
  field t f = (λ i. (choose (sym f i) (Some (worth word)) None, next)) ∙ ap (field_of at most) there

  pub field_fits : (v : ℕ) → Some v ≡ worth_of word → v ≤ most → ◌≡◌ {A = Option ℕ × ℕ} (Some v, next) (field_at line at most)
  field_fits v q h =
      let w = worth_some word v q in
      (λ i. (Some (w.1 i), next)) ∙ (λ i. (sym (chosen (Some (worth word)) None) i, next)) ∙ field true (does_fit word most w.0 (omega arith))

  pub field_over : (v : ℕ) → Some v ≡ worth_of word → most < v → ◌≡◌ {A = Option ℕ × ℕ} (None, next) (field_at line at most)
  field_over v q h =
      let w = worth_some word v q in
      (λ i. (sym (unchosen (Some (worth word)) None) i, next)) ∙ field false (too_much word most (length word) (omega arith) (omega arith))

  pub field_other : None ≡ worth_of word → most ≤ widest → ◌≡◌ {A = Option ℕ × ℕ} (None, next) (field_at line at most)
  field_other q h = (λ i. (sym (unchosen (Some (worth word)) None) i, next)) ∙ field false (unfit_less word most widest h (worth_none word q))

-- and past the line's end
pub no_field : (line : List ℕ) (at most : ℕ) → None ≡ word_from line at → ◌≡◌ {A = Option ℕ × ℕ} (None, at) (field_at line at most)
unfolding field_at
no_field line at most e = ap (field_of at most) e
