-- The laws of numbers as bytes, over the width.
use Prim.Native.Nat.{ℕ, zero, suc, ◌+◌, ◌-◌, ◌*◌, ◌/◌, ◌%◌, ◌^◌, ◌≤◌, ◌<◌, min}
use native.Mathlib.Nat.{mod-lt, mod-add-div, mod-eq_of_lt, pow-succ', div-one, div-div-eq-div-mul, one-le-pow, mul_assoc, mod-one, add-mul-div_left, add-mul-mod_self_left, div-eq_of_lt}
use native.Mathlib.Omega.{arith}
use mathlib.Core.Path.{◌≡◌, refl, sym, ap, ◌∙◌}
use mathlib.Core.List.{List, [], ◌∷◌, ◌++◌}
use Rattle.std.specs.Int.{w64, to_le_bytes, from_le_bytes, bytes_low_first, byte_at, byte_worth, sum_through}
use Rattle.std.proofs.lemmas.List.{length-take, drop_min, drop-replicate}
use lib.ListN.{length, get_or, replicate, take, drop, length-drop}
use lib.Seq.{take_at, length-take-le, drop-append_seam, take_all, get_or-drop}
use Rattle.ground.specs.Bytes.{padded}
use Rattle.ground.proofs.Laid.{laid_length}
use Rattle.ground.proofs.Runs.{rest_is}
use Rattle.word.specs.Words.{bytes_of, value_of, word_at}

-- each of the list is a byte
abbrev pub Bytes : List ℕ → Type 0
Bytes bs = (i : ℕ) → get_or bs i 0 < 256

pub length_bytes : (n w : ℕ) → length (bytes_of n w) ≡ n
unfolding bytes_of
length_bytes zero w = refl
length_bytes (suc n) w = ap suc (length_bytes n _)

pub bytes_bytes : (n w : ℕ) → Bytes (bytes_of n w)
unfolding bytes_of
bytes_bytes zero w i = omega arith
bytes_bytes (suc n) w zero = mod-lt w (omega arith)
bytes_bytes (suc n) w (suc i) = bytes_bytes n _ i

bytes_drop : (n : ℕ) (bs : List ℕ) → Bytes bs → Bytes (drop n bs)
bytes_drop n bs h i = rw get_or-drop (h (n + i))

bytes_take : (n : ℕ) (bs : List ℕ) → Bytes bs → Bytes (take n bs)
bytes_take zero bs h i = omega arith
bytes_take (suc n) [] h i = omega arith
bytes_take (suc n) (b ∷ bs) h zero = h 0
bytes_take (suc n) (b ∷ bs) h (suc i) = bytes_take n bs (λ j. h (suc j)) i

-- what n bytes are worth is below 256 ^ n
pub value_below : (bs : List ℕ) → Bytes bs → value_of bs < 256 ^ length bs
unfolding value_of
value_below [] h = omega arith
value_below (b ∷ bs) h = rw (pow-succ' 256 (length bs)) (omega (arith, h 0, value_below bs (λ i. h (suc i))))

-- bytes are the bytes of what they are worth
pub bytes_of_value : (bs : List ℕ) → Bytes bs → bytes_of (length bs) (value_of bs) ≡ bs
unfolding bytes_of value_of
bytes_of_value [] h = refl
bytes_of_value (b ∷ bs) h = cc (low, high, bytes_of_value bs (λ i. h (suc i)))
  where
    low : (b + 256 * value_of bs) % 256 ≡ b
    low = add-mul-mod_self_left b 256 (value_of bs) ∙ mod-eq_of_lt (h 0)

    high : (b + 256 * value_of bs) / 256 ≡ value_of bs
    high = omega (arith, add-mul-div_left b (value_of bs) (let z : 0 < 256 = omega arith in z), div-eq_of_lt (h 0))

-- the remainder by 256 * m is the low byte, and above it the rest's remainder by m
low_and_rest : (w m : ℕ) → 0 < m → w % 256 + 256 * (w / 256 % m) ≡ w % (256 * m)
low_and_rest w m h = sym (ap (λ (x : ℕ). x % (256 * m)) whole ∙ add-mul-mod_self_left (w % 256 + 256 * (w / 256 % m)) (256 * m) (w / 256 / m) ∙ mod-eq_of_lt small)
  where
    whole : w ≡ w % 256 + 256 * (w / 256 % m) + 256 * m * (w / 256 / m)
    whole = omega (arith, mod-add-div w 256, mod-add-div (w / 256) m, mul_assoc 256 m (w / 256 / m))

    small : w % 256 + 256 * (w / 256 % m) < 256 * m
    small = omega (arith, mod-lt w (let z : 0 < 256 = omega arith in z), mod-lt (w / 256) h)

-- the n low bytes of a number are worth its remainder by 256 ^ n
pub value_of_bytes : (n w : ℕ) → value_of (bytes_of n w) ≡ w % 256 ^ n
unfolding bytes_of value_of
value_of_bytes zero w = sym (mod-one w)
value_of_bytes (suc n) w = rw (value_of_bytes n (w / 256), pow-succ' 256 n) (low_and_rest w (256 ^ n) (one-le-pow n 256 (omega arith)))

-- and so that number, where n bytes hold it
pub value_of_whole : (n w : ℕ) → w < 256 ^ n → value_of (bytes_of n w) ≡ w
value_of_whole n w h = value_of_bytes n w ∙ mod-eq_of_lt h

-- the bytes of a number from byte i upward, as `to_le_bytes` gives them
low_first : (n i w : ℕ) → bytes_low_first i n w ≡ bytes_of n (w / 256 ^ i)
unfolding bytes_of
low_first zero i w = refl
low_first (suc n) i w = cc (this i, low_first n (suc i) w, next)
  where
    this : (i : ℕ) → byte_at i w ≡ w / 256 ^ i % 256
    this zero = rw (div-one w) refl
    this (suc i) = refl

    next : w / 256 ^ suc i ≡ w / 256 ^ i / 256
    next = rw (div-div-eq-div-mul w (256 ^ i) 256) (ap (λ (m : ℕ). w / m) (omega (arith, pow-succ' 256 i)))

pub to_bytes : (w : ℕ) → to_le_bytes w64 w ≡ bytes_of 8 w
to_bytes w = low_first 8 0 w ∙ ap (bytes_of 8) (div-one w)

-- one byte more is worth its place more
value_more : (n : ℕ) (bs : List ℕ) → value_of (take (suc n) bs) ≡ value_of (take n bs) + get_or bs n 0 * 256 ^ n
unfolding value_of
value_more zero [] = refl
value_more zero (b ∷ bs) = omega arith
value_more (suc n) [] = omega arith
value_more (suc n) (b ∷ bs) = rw (pow-succ' 256 n) (omega (arith, value_more n bs))

-- so what `from_le_bytes` sums up is what the bytes are worth
summed : (n : ℕ) (bs : List ℕ) → sum_through (λ i. byte_worth i (get_or bs i 0)) n ≡ value_of (take (suc n) bs)
unfolding value_of
summed zero bs = omega (arith, value_more 0 bs)
summed (suc n) bs = ap (λ (v : ℕ). v + get_or bs (suc n) 0 * 256 ^ suc n) (summed n bs) ∙ sym (value_more (suc n) bs)

-- zeros behind bytes are worth nothing
value_zeros : (bs : List ℕ) (n : ℕ) → value_of (bs ++ replicate n 0) ≡ value_of bs
unfolding value_of
value_zeros [] zero = refl
value_zeros [] (suc n) = ap (λ (v : ℕ). 0 + 256 * v) (value_zeros [] n)
value_zeros (b ∷ bs) n = ap (λ (v : ℕ). b + 256 * v) (value_zeros bs n)

-- eight bytes, those from a place on and zeros in the places that they leave, are worth what there is
pub from_padded : (bytes eight : List ℕ) (at start : ℕ) → start ≡ min at (length bytes) → eight ≡ padded 8 (take (length bytes - start) (drop start bytes)) → from_le_bytes w64 eight ≡ word_at bytes at
unfolding word_at
from_padded bytes eight at start h e =
    summed 7 eight ∙ ap value_of (ap (take 8) (e ∙ ap (padded 8) (rest_is bytes start)) ∙ whole) ∙ value_zeros part (8 - length part) ∙ ap (λ (l : List ℕ). value_of (take 8 l)) (rw h (drop_min at bytes))
  where
    part : List ℕ
    part = take 8 (drop start bytes)

    whole : take 8 (padded 8 (drop start bytes)) ≡ part ++ replicate (8 - length part) 0
    whole =
        take_all 8 (padded 8 (drop start bytes)) (rw (laid_length part (replicate 8 0) (rw length-take (omega arith))) (omega arith))
        ∙ ap (λ (l : List ℕ). part ++ l) (drop-replicate (length part) 8 0)

-- a word written among other bytes is read back
pub read_back : (before after : List ℕ) (w : ℕ) → w < 256 ^ 8 → word_at (before ++ (bytes_of 8 w ++ after)) (length before) ≡ w
unfolding word_at
read_back before after w h = rw (drop-append_seam, take_at (bytes_of 8 w) after 8 (length_bytes 8 w)) (value_of_whole 8 w h)

-- eight bytes that were read are the bytes of the word read there
pub write_back : (bytes : List ℕ) (at : ℕ) → Bytes bytes → at + 8 ≤ length bytes → bytes_of 8 (word_at bytes at) ≡ take 8 (drop at bytes)
unfolding word_at
write_back bytes at h l = ap (λ (n : ℕ). bytes_of n (value_of (take 8 (drop at bytes)))) (sym eight) ∙ bytes_of_value (take 8 (drop at bytes)) (bytes_take 8 (drop at bytes) (bytes_drop at bytes h))
  where
    eight : length (take 8 (drop at bytes)) ≡ 8
    eight = length-take-le 8 (drop at bytes) (rw length-drop (omega arith))
