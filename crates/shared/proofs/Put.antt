-- A slot that was written: what it holds then, and that no other slot holds anything else.
use Prim.Native.Nat.{ℕ, ◌+◌, ◌-◌, ◌≤◌, ◌<◌}
use native.Mathlib.Omega.{arith}
use native.Mathlib.Decide.{dec_lt}
use mathlib.Core.Path.{◌≡◌, refl, sym, ap, ◌∙◌}
use mathlib.Core.Logic.{◌⊎◌, inl, inr}
use mathlib.Core.Bool.{true}
use mathlib.Core.List.{List, [], ◌∷◌}
use lib.ListN.{length, get_or, take, drop, length-drop}
use lib.Seq.{length-paste, drop-drop}
use lib.Dec.{eqb}
use Rattle.ground.proofs.Runs.{part_behind, run_alike}
use Rattle.ground.proofs.Laid.{paste_in, paste_part, paste_out}
use Rattle.shared.specs.Image.{image_long, slot_long, start_of, sector_at, length_at, record_at, is_length, holds}
use Rattle.shared.specs.Store.{slot_bytes, put_in}
use Rattle.shared.proofs.Slots.{length_within}

-- bytes of a slot end before another slot's, or begin behind them
apart : (j slot i n : ℕ) → 0 < j → 0 < slot → (j ≡ slot → ⊥) → i < slot_long → n ≤ slot_long → (start_of j + i < start_of slot) ⊎ (start_of slot + n ≤ start_of j + i)
apart j slot i n hj hs ne hi hn = go (dec_lt j slot)
  where
    go : Dec (j < slot) → (start_of j + i < start_of slot) ⊎ (start_of slot + n ≤ start_of j + i)
    go (yes l) = inl (omega (arith, l, hj, hi))
    go (no l) = inr (omega (arith, l, hs, ne, hn))

-- a record can be written to a slot: the image has its size, the slot is one of the forty, the record has its length
pub record Writable (image : List ℕ) (slot : ℕ) (bytes : List ℕ) : Type 0 where
  pub long : length image ≡ image_long
  pub from : 0 < slot
  pub within : slot ≤ 40
  pub fits : is_length (length bytes) ≡ true

module _ (image : List ℕ) (slot sector : ℕ) (bytes : List ℕ) (w : Writable image slot bytes) where
  -- the image with the slot written
  abbrev pub after : List ℕ
  after = put_in image slot (slot_bytes sector bytes)

  small : length bytes ≤ 200
  small = (length_within (length bytes) w.fits).1

  -- the image keeps its size
  pub put_long : length after ≡ image_long
  put_long = length-paste image (start_of slot) (slot_bytes sector bytes) (length (slot_bytes sector bytes)) (omega (arith, w.long, w.within, small)) (omega arith) ∙ w.long

  -- the slot has sector, length and record
  put_at : (i : ℕ) → i < 2 + length bytes → get_or after (start_of slot + i) 0 ≡ get_or (slot_bytes sector bytes) i 0
  put_at i h = paste_in image (slot_bytes sector bytes) (start_of slot) (length (slot_bytes sector bytes)) i (omega (arith, w.long, w.within)) (omega arith) (omega (arith, h))

  put_sector : sector_at after slot ≡ sector
  put_sector = ap (λ (k : ℕ). get_or after k 0) (let e : start_of slot ≡ start_of slot + 0 = omega arith in e) ∙ put_at 0 (omega arith)

  put_length : length_at after slot ≡ length bytes
  put_length = put_at 1 (omega (arith, length_within (length bytes) w.fits))

  pub put_holds : (other : ℕ) → holds after other slot ≡ eqb sector other
  unfolding holds
  put_holds other = rw (put_length, w.fits, put_sector) refl

  pub put_record : record_at after slot ≡ bytes
  put_record =
      ap (λ (n : ℕ). take n (drop (start_of slot + 2) after)) put_length ∙ ap (take (length bytes)) (sym (drop-drop 2 (start_of slot) after)) ∙ part_behind (drop (start_of slot) after) (sector ∷ length bytes ∷ []) bytes 2 (length bytes) (rw (length-drop (start_of slot) after, put_long) (omega (arith, w.within, small))) whole refl
    where
      whole : take (2 + length bytes) (drop (start_of slot) after) ≡ slot_bytes sector bytes
      whole = ap (λ (n : ℕ). take n (drop (start_of slot) after)) (let e : 2 + length bytes ≡ length (slot_bytes sector bytes) = omega arith in e) ∙ paste_part image (slot_bytes sector bytes) (start_of slot) (omega (arith, w.long, w.within))

  -- no byte before the slot, and none behind the record, is another
  pub put_elsewhere : (i : ℕ) → (i < start_of slot) ⊎ (start_of slot + (2 + length bytes) ≤ i) → get_or after i 0 ≡ get_or image i 0
  put_elsewhere i (inl h) = paste_out image (slot_bytes sector bytes) (start_of slot) (length (slot_bytes sector bytes)) i (omega (arith, w.long, w.within)) (omega arith) (inl h)
  put_elsewhere i (inr h) = paste_out image (slot_bytes sector bytes) (start_of slot) (length (slot_bytes sector bytes)) i (omega (arith, w.long, w.within)) (omega arith) (inr (omega (arith, h)))

  -- so every other slot is as it was
  module _ (j : ℕ) (above : 0 < j) (top : j ≤ 40) (other : j ≡ slot → ⊥) where
    stays : (i : ℕ) → i < slot_long → get_or after (start_of j + i) 0 ≡ get_or image (start_of j + i) 0
    stays i h = put_elsewhere (start_of j + i) (apart j slot i (2 + length bytes) above w.from other h (omega (arith, small)))

    pub stays_holds : (any : ℕ) → holds after any j ≡ holds image any j
    unfolding holds
    stays_holds any =
        let e : start_of j ≡ start_of j + 0 = omega arith in
        rw (stays 1 (omega arith), ap (λ (k : ℕ). get_or after k 0) e ∙ stays 0 (omega arith) ∙ ap (λ (k : ℕ). get_or image k 0) (sym e)) refl

    pub stays_record : is_length (length_at image j) ≡ true → record_at after j ≡ record_at image j
    stays_record holds =
        ap (λ (n : ℕ). take n (drop (start_of j + 2) after)) (stays 1 (omega arith)) ∙ run_alike after image (start_of j + 2) (length_at image j) (rw put_long (omega (arith, top, least))) (omega (arith, w.long, top, least)) same
      where
        least : length_at image j ≤ 200
        least = (length_within (length_at image j) holds).1

        same : (i : ℕ) → start_of j + 2 ≤ i → i < start_of j + 2 + length_at image j → get_or after i 0 ≡ get_or image i 0
        same i l u =
            let e : i ≡ start_of j + (i - start_of j) = omega (arith, l) in
            ap (λ (k : ℕ). get_or after k 0) e ∙ stays (i - start_of j) (omega (arith, l, u, least)) ∙ ap (λ (k : ℕ). get_or image k 0) (sym e)
