-- What slips through the checksum (02, C-18): the limit of what is caught.
use Prim.Native.Nat.{ℕ, zero, suc, ◌+◌, ◌-◌, ◌*◌, ◌%◌, ◌≤◌, ◌<◌}
use native.Mathlib.Omega.{arith}
use native.Mathlib.Decide.{ℕ_discrete, dec_lt}
use mathlib.Core.Path.{◌≡◌, refl, sym, ap, ◌∙◌}
use mathlib.Core.Bool.{true}
use mathlib.Core.Logic.{inl, inr}
use mathlib.Core.List.{List, ◌∷◌}
use lib.ListN.{length, get_or, set, length-set, replicate, get_or-replicate, get_or-eq_default}
use lib.Seq.{get_or-set_same, get_or-set_other, set_out}
use Rattle.ground.proofs.Choices.{never}
use Rattle.fletcher.specs.declared.Sums.{Sums}
use Rattle.fletcher.specs.Fletcher.{sums_from, sums, is_good}
use Rattle.fletcher.specs.Caught.{GoodFrame, Same, ZeroAnd255, Caught, shares_factor, Differ, Unnoticed, SlipsThrough, ExactLimit, moved, ThreeSlipThrough, ZeroFor255}
use Rattle.fletcher.proofs.Laws.{alike_good, good_first, good_second, sums_good}
use Rattle.fletcher.proofs.Factors.{Vanishing, shared}
use Rattle.fletcher.proofs.Shifted.{shifted}
use Rattle.fletcher.proofs.Moved.{moved_length, moved_there, moved_elsewhere, moved_bytes, moved_shifts, two_moved}
use Rattle.fletcher.proofs.Caught.{caught_apart}

-- a byte changed by 1 to 254 differs, and not as 0 from 255
differs_by : (xs ys : List ℕ) (n t : ℕ) → get_or xs n 0 < 256 → 1 ≤ t → t < 255 → get_or ys n 0 ≡ (get_or xs n 0 + t) % 255 → Differ xs ys n
differs_by xs ys n t h least most e = record { unlike = λ s. omega arith; otherwise = other }
  where
    other : ZeroAnd255 xs ys n → ⊥
    other (inl (a, b)) = omega arith
    other (inr (a, b)) = omega arith

-- The frame that takes the place of xs unnoticed: one byte is a step further, and the one d places on a step back.
module _ (d : ℕ) (least : 1 ≤ d) (s : Vanishing d) (xs : List ℕ) (g : GoodFrame xs) (i : ℕ) (l : i + d < length xs) where
  abbrev half : List ℕ
  half = moved xs i s.step

  abbrev instead : List ℕ
  instead = moved half (i + d) (255 - s.step)

  apart : i + d ≡ i → ⊥
  apart e = omega (arith, e, least)

  half_length : length half ≡ length xs
  half_length = moved_length xs i s.step

  same_length : length instead ≡ length xs
  same_length = moved_length half (i + d) (255 - s.step) ∙ half_length

  at_first : get_or instead i 0 ≡ (get_or xs i 0 + s.step) % 255
  at_first = moved_elsewhere half (i + d) (255 - s.step) i (λ e. apart (sym e)) ∙ moved_there xs i s.step (omega (arith, l))

  at_second : get_or instead (i + d) 0 ≡ (get_or xs (i + d) 0 + (255 - s.step)) % 255
  at_second = moved_there half (i + d) (255 - s.step) (rw half_length l) ∙ ap (λ (x : ℕ). (x + (255 - s.step)) % 255) (moved_elsewhere xs i s.step (i + d) apart)

  at_others : (n : ℕ) → (n ≡ i → ⊥) → (n ≡ i + d → ⊥) → Same xs instead n
  at_others n ni nj = sym (moved_elsewhere half (i + d) (255 - s.step) n nj ∙ moved_elsewhere xs i s.step n ni)

  good_instead : GoodFrame instead
  good_instead =
      record {
        within = rw same_length g.within;
        bytes = moved_bytes half (i + d) (255 - s.step) (rw half_length l) (moved_bytes xs i s.step (omega (arith, l)) g.bytes);
        good = two_moved.stays xs g.good i d s.step (255 - s.step) l (omega (arith, s.most)) s.vanishes;
      }

  unnoticed : Unnoticed xs instead i (i + d)
  unnoticed =
      record {
        pair = record { one = g; other = good_instead; equal = sym same_length; elsewhere = at_others };
        first = differs_by xs instead i s.step (g.bytes i) s.least s.most at_first;
        second = differs_by xs instead (i + d) (255 - s.step) (g.bytes (i + d)) (omega (arith, s.most)) (omega (arith, s.least)) at_second;
      }

-- Every good frame has such another, wherever the distance has a factor in common with 255.
slips_through : (d : ℕ) → 1 ≤ d → shares_factor d ≡ true → SlipsThrough d
slips_through d least f xs g i l = (instead d least (shared d f) xs g i l, unnoticed d least (shared d f) xs g i l)

-- a good frame in which every distance up to 251 occurs: a byte 85 makes both sums 0, and zeros leave them so
abbrev blank : List ℕ
blank = 85 ∷ replicate 251 0

blank_byte : (n : ℕ) → get_or blank n 0 < 256
blank_byte zero = omega arith
blank_byte (suc n) = go (dec_lt n 251)
  where
    go : Dec (n < 251) → get_or (replicate 251 0) n 0 < 256
    go (yes l) = rw (get_or-replicate {A = ℕ} 251 n 0 0 l) (omega arith)
    go (no l) = rw (get_or-eq_default {A = ℕ} (replicate 251 0) 0 {n = n} (omega arith)) (omega arith)

blank_good : GoodFrame blank
unfolding sums_from
blank_good = record { within = omega arith; bytes = blank_byte; good = refl }

-- a distance that occurs in it and shares a factor is not always caught
not_caught : (d : ℕ) → 1 ≤ d → d < length blank → shares_factor d ≡ true → Caught d → ⊥
not_caught d least l f c = refuted (slips_through d least f blank blank_good 0 (omega arith))
  where
    refuted : (ys : List ℕ) × Unnoticed blank ys 0 (0 + d) → ⊥
    refuted (ys, u) = u.first.otherwise (c blank ys 0 u.pair 0 u.first.unlike)

-- Two bytes are caught wherever their distance has no factor in common with 255, and at no other distance within a frame.
pub exact_limit : ExactLimit
exact_limit = record { caught = caught_apart; slips = slips_through; only = λ d least most c. never (shares_factor d) (λ f. not_caught d least (omega arith) f c) }

-- Three neighbours: the shifts of the first sum come to 255, those of the second to 255 for each of the r + 1 bytes from the second of them on.
module _ (bs : List ℕ) (g : is_good bs ≡ true) (i : ℕ) (l : i + 2 < length bs) where
  abbrev r : ℕ
  r = length bs - (i + 2)

  abbrev one : List ℕ
  one = moved bs i 1

  abbrev two : List ℕ
  two = moved one (i + 1) 253

  one_length : length one ≡ length bs
  one_length = moved_length bs i 1

  two_length : length two ≡ length bs
  two_length = moved_length one (i + 1) 253 ∙ one_length

  over : sums (moved two (i + 2) 1) ≡ shifted (shifted (shifted (sums bs) 1 ((r + 2) * 1)) 253 ((r + 1) * 253)) 1 (r * 1)
  over =
      moved_shifts two (i + 2) r 1 (omega (arith, l, two_length)) (omega (arith, l, two_length))
      ∙ ap (λ (s : Sums). shifted s 1 (r * 1)) (moved_shifts one (i + 1) (r + 1) 253 (omega (arith, l, one_length)) (omega (arith, l, one_length)))
      ∙ ap (λ (s : Sums). shifted (shifted s 253 ((r + 1) * 253)) 1 (r * 1)) (moved_shifts bs i (r + 2) 1 (omega (arith, l)) (omega (arith, l)))

  three_good : is_good (moved two (i + 2) 1) ≡ true
  three_good =
      sums_good (moved two (i + 2) 1) (ap (λ (s : Sums). s.first) over ∙ rw (good_first bs g) refl)
      (ap (λ (s : Sums). s.second) over ∙ rw (good_second bs g) (omega arith))

pub three_slip_through : ThreeSlipThrough
three_slip_through = three_good

-- 0 against 255 is never caught
pub zero_for_255 : ZeroFor255
zero_for_255 bs i = alike_good (set bs i 0) (set bs i 255) (length-set bs i 0 ∙ sym (length-set bs i 255)) (λ n. at n (dec_lt i (length bs)) (ℕ_discrete n i))
  where
    at : (n : ℕ) → Dec (i < length bs) → Dec (n ≡ i) → get_or (set bs i 0) n 0 % 255 ≡ get_or (set bs i 255) n 0 % 255
    at n (no l) _ = rw (set_out bs i 0 (omega arith), set_out bs i 255 (omega arith)) refl
    at n (yes l) (yes e) = rw (e, get_or-set_same bs i 0 0 l, get_or-set_same bs i 255 0 l) refl
    at n (yes l) (no ne) = rw (get_or-set_other bs i n 0 0 ne, get_or-set_other bs i n 255 0 ne) refl
