-- The laws of bytes in hex: what a digit is worth, what stands where in the bytes of a word and in the spelling of bytes, and what is read from a place of a line.
use Prim.Native.Nat.{ℕ, zero, suc, ◌+◌, ◌-◌, ◌*◌, ◌/◌, ◌%◌, ◌≤◌, ◌<◌}
use native.Mathlib.Omega.{arith}
use mathlib.Core.Path.{◌≡◌, refl, sym, ap, ◌∙◌}
use mathlib.Core.List.{List, [], ◌∷◌, ◌++◌}
use mathlib.Core.Bool.{true, false, ◌&&◌, cond}
use lib.ListN.{length, get_or, set, take, drop, length-map, length-take}
use lib.Dec.{eqb, leb, ltb}
use borrow.Author.Tests.{lt-ltb, le-ltb, eq-eqb, ne_eqb, ltb-true, leb-true}
use native.Mathlib.Decide.{dec_lt}
use Rattle.std.specs.Prelude.{Option, Some, None, Result, Ok, Err, OnOk}
use Rattle.std.specs.Io.KnownBytes.{Appends}
use Rattle.std.proofs.KnownBytes.{Appends-trans}
use Rattle.std.specs.Fmt.{decimal}
use Rattle.std.proofs.Common.{subst, append-nil, take_all}
use Rattle.std.proofs.lemmas.List.{take_at}
use Rattle.std.specs.Char.{digit_value}
use Rattle.std.proofs.lemmas.Bool.Decides.{nat_tests}
use Rattle.ground.specs.Below.{up_from, all}
use Rattle.ground.specs.Bytes.{laid}
use Rattle.ground.proofs.Choices.{choose_yes, choose_no, chosen, unchosen, and_left, and_right}
use Rattle.ground.proofs.Fronts.{front_step}
use Rattle.ground.proofs.Loops.{all_at}
use Rattle.ground.proofs.Runs.{run_length, run_map_at, rest_is}
use Rattle.ground.specs.Choose.{choose}
use Rattle.script.specs.Hex.{nibble, all_hex, is_hex, pair_at, hex_bytes, hex_count, hex_laid, bytes_count, bytes_laid, glyph, spelled, spellable, counted}
use Rattle.script.proofs.Words.{rest}
use Rattle.script.proofs.Numbers.{between_yes, between_no}

-- what the library says of a hex digit
pub nibble_is : (b : ℕ) → nibble b ≡ cond (ltb (digit_value b) 16) (digit_value b) 16
unfolding nibble choose
nibble_is b = grind (arith, nat_tests)

-- what each hex digit is worth, and a byte that is none
module _ (b : ℕ) where
  pub digit_nibble : 48 ≤ b → b ≤ 57 → b - 48 ≡ nibble b
  unfolding nibble
  digit_nibble h l = choose_yes _ _ _ _ (between_yes 48 57 b h l) refl

  pub upper_nibble : 65 ≤ b → b ≤ 70 → b - 55 ≡ nibble b
  unfolding nibble
  upper_nibble h l = choose_no _ _ _ _ (between_no 48 57 b (λ x y. omega arith)) (choose_yes _ _ _ _ (between_yes 65 70 b h l) refl)

  pub lower_nibble : 97 ≤ b → b ≤ 102 → b - 87 ≡ nibble b
  unfolding nibble
  lower_nibble h l = choose_no _ _ _ _ (between_no 48 57 b (λ x y. omega arith)) (choose_no _ _ _ _ (between_no 65 70 b (λ x y. omega arith)) (choose_yes _ _ _ _ (between_yes 97 102 b h l) refl))

  pub no_nibble : (48 ≤ b → b ≤ 57 → ⊥) → (65 ≤ b → b ≤ 70 → ⊥) → (97 ≤ b → b ≤ 102 → ⊥) → 16 ≡ nibble b
  unfolding nibble
  no_nibble f g h = choose_no _ _ _ _ (between_no 48 57 b f) (choose_no _ _ _ _ (between_no 65 70 b g) (choose_no _ _ _ _ (between_no 97 102 b h) refl))

-- a hex digit is worth less than 16
digit_small : (word : List ℕ) (i : ℕ) → all_hex word ≡ true → i < length word → nibble (get_or word i 0) < 16
digit_small word i h l = ltb-true _ _ (all_at (λ j. ltb (nibble (get_or word j 0)) 16) (length word) i h l)

pub pair_small : (word : List ℕ) (i : ℕ) → all_hex word ≡ true → i < length word / 2 → (nibble (get_or word (2 * i) 0) < 16) × (nibble (get_or word (2 * i + 1) 0) < 16)
pair_small word i h l = (digit_small word (2 * i) h (omega arith), digit_small word (2 * i + 1) h (omega arith))

pub hex_length : (word : List ℕ) → length (hex_bytes word) ≡ length word / 2
unfolding hex_bytes
hex_length word = length-map (up_from 0 (length word / 2)) (pair_at word) ∙ run_length 0 (length word / 2)

pub hex_at : (word : List ℕ) (i : ℕ) → i < length word / 2 → get_or (hex_bytes word) i 0 ≡ pair_at word i
unfolding hex_bytes
hex_at word i l = run_map_at (pair_at word) 0 (length word / 2) i 0 l ∙ ap (pair_at word) (let e : 0 + i ≡ i = omega arith in e)

-- a loop that lays them at a front, one pair more
pub pair_laid : (word o u : List ℕ) (i v : ℕ) → u ≡ take i (hex_bytes word) ++ drop i o → i < length word / 2 → length word / 2 ≤ length o → v ≡ pair_at word i → set u i v ≡ take (i + 1) (hex_bytes word) ++ drop (i + 1) o
pair_laid word o u i v e l h p = rw (p, ← hex_at word i l) (front_step (hex_bytes word) o u i e (rw hex_length l) (rw hex_length h))

-- a word that is bytes in hex: so many of them, and each digit one
pub hex_told : (room : ℕ) (word : List ℕ) → is_hex room word ≡ true → (all_hex word ≡ true) × (length word / 2 ≤ room)
unfolding is_hex
hex_told room word h =
    let shape = eqb (length word % 2) 0 && ltb 0 (length word) in
    let fits = leb (length word / 2) room in
    (and_right (shape && fits) (all_hex word) h, leb-true (length word / 2) room (and_right shape fits (and_left (shape && fits) (all_hex word) h)))

-- the bytes from a place on, as they are read: past the line's end, or from the word there
module _ (line out : List ℕ) (at : ℕ) where
  pub no_bytes : length line < at → (Some 0 ≡ bytes_count (length out) line at) × (out ≡ bytes_laid line at out)
  no_bytes l = (choose_yes _ _ _ _ (lt-ltb _ _ l) refl, choose_yes _ _ _ _ (lt-ltb _ _ l) refl)

  module _ (word : List ℕ) (within : at ≤ length line) (here : word ≡ rest line at) where
    told : (count : Option ℕ) (left : List ℕ) → count ≡ hex_count (length out) word → left ≡ hex_laid word out → (count ≡ bytes_count (length out) line at) × (left ≡ bytes_laid line at out)
    told count left e f =
        let whole = here ∙ rest_is line at in
        (choose_no _ _ _ _ (le-ltb _ _ within) (e ∙ ap (hex_count (length out)) whole), choose_no _ _ _ _ (le-ltb _ _ within) (f ∙ ap (λ (w : List ℕ). hex_laid w out) whole))

    pub other_bytes : is_hex (length out) word ≡ false → (None ≡ bytes_count (length out) line at) × (out ≡ bytes_laid line at out)
    other_bytes h = told _ _ (rw h (rw unchosen refl)) (choose_no _ _ _ _ h refl)

    pub these_bytes : (left : List ℕ) → is_hex (length out) word ≡ true → left ≡ laid (hex_bytes word) out → (Some (length word / 2) ≡ bytes_count (length out) line at) × (left ≡ bytes_laid line at out)
    these_bytes left h e = told _ left (rw h (rw chosen refl)) (choose_yes _ _ _ _ h e)

pub spelled_length : (b : List ℕ) → length (spelled b) ≡ 2 * length b
unfolding spelled
spelled_length [] = refl
spelled_length (x ∷ b) = omega (arith, spelled_length b)

-- the two digits of a byte
pub spelled_high : (b : List ℕ) (i : ℕ) → i < length b → get_or (spelled b) (2 * i) 0 ≡ glyph (get_or b i 0 / 16)
unfolding spelled
spelled_high [] i l = absurd (let z : ⊥ = omega arith in z)
spelled_high (x ∷ b) zero l = refl
spelled_high (x ∷ b) (suc i) l = rw (let e : 2 * suc i ≡ suc (suc (2 * i)) = omega arith in e) (spelled_high b i (omega arith))

pub spelled_low : (b : List ℕ) (i : ℕ) → i < length b → get_or (spelled b) (2 * i + 1) 0 ≡ glyph (get_or b i 0 % 16)
unfolding spelled
spelled_low [] i l = absurd (let z : ⊥ = omega arith in z)
spelled_low (x ∷ b) zero l = refl
spelled_low (x ∷ b) (suc i) l = rw (let e : 2 * suc i + 1 ≡ suc (suc (2 * i + 1)) = omega arith in e) (spelled_low b i (omega arith))

-- a loop that writes them at a front, one byte more
pub byte_spelled : (b o u : List ℕ) (i high low v w : ℕ) → u ≡ take (2 * i) (spelled b) ++ drop (2 * i) o → i < length b → 2 * length b ≤ length o → v ≡ glyph high → w ≡ glyph low → high ≡ get_or b i 0 / 16 → low ≡ get_or b i 0 % 16 → set (set u (2 * i) v) (2 * i + 1) w ≡ take (2 * (i + 1)) (spelled b) ++ drop (2 * (i + 1)) o
byte_spelled b o u i high low v w e l h p q x y =
    let n = spelled_length b in
    rw (p, q, x, y, ← spelled_high b i l, ← spelled_low b i l, (let z : 2 * (i + 1) ≡ 2 * i + 1 + 1 = omega arith in z))
    (front_step (spelled b) o _ (2 * i + 1) (front_step (spelled b) o u (2 * i) e (omega arith) (omega arith)) (omega arith) (omega arith))

-- what is written of no byte, and of some: so many digits of the text that they were spelled into
pub none_counted : (bytes : List ℕ) → length bytes ≡ 0 → decimal (length bytes) ≡ counted bytes
none_counted bytes e = sym (append-nil (decimal (length bytes))) ∙ ap (λ l. decimal (length bytes) ++ l) (choose_yes _ _ _ _ (eq-eqb _ _ e) refl)

pub some_counted : (bytes text out : List ℕ) (n : ℕ) → (length bytes ≡ 0 → ⊥) → length text ≡ 2048 → n ≡ 2 * spellable bytes 2048 → out ≡ laid (spelled (take (spellable bytes 2048) bytes)) text → decimal (length bytes) ++ ((32 ∷ []) ++ take n out) ≡ counted bytes
some_counted bytes text out n some room e h = ap (λ l. decimal (length bytes) ++ l) (choose_no _ _ _ _ (ne_eqb _ _ some) (ap (λ l. 32 ∷ l) (front ∙ ap spelled cut)))
  where
    digits : List ℕ
    digits = spelled (take (spellable bytes 2048) bytes)

    front : take n out ≡ digits
    front =
        let k = length-take (spellable bytes 2048) bytes in
        let l = spelled_length (take (spellable bytes 2048) bytes) in
        ap (take n) h ∙ take_at digits (drop (length digits) text) n (omega arith)

    shorter : Dec (length bytes < 1024) → take (spellable bytes 2048) bytes ≡ take 1024 bytes
    shorter (yes l) = take_all (spellable bytes 2048) bytes (omega arith) ∙ sym (take_all 1024 bytes (omega arith))
    shorter (no l) = ap (λ m. take m bytes) (let z : spellable bytes 2048 ≡ 1024 = omega arith in z)

    cut : take (spellable bytes 2048) bytes ≡ take 1024 bytes
    cut = shorter (dec_lt (length bytes) 1024)

-- three texts, one written behind the other
pub thrice : {T E : Type 0} (r : Result T E) (a b c d : Option (List ℕ)) (xs ys zs all : List ℕ) → Appends a b xs → Appends b c ys → xs ++ (ys ++ zs) ≡ all → OnOk r (Appends c d zs) → OnOk r (Appends a d all)
thrice (Ok x) a b c d xs ys zs all p q e h = subst (Appends a d) e (Appends-trans a b d xs (ys ++ zs) p (Appends-trans b c d ys zs q h))
thrice (Err x) a b c d xs ys zs all p q e h = tt
