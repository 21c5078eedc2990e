-- Sums that differ before some bytes, and what becomes of the difference after them.
use Prim.Native.Nat.{ℕ, ◌+◌, ◌*◌, ◌%◌}
use native.Mathlib.Omega.{arith}
use native.Mathlib.Nat.{suc-mul, mod-add-mod, add-mod-mod}
use mathlib.Core.Path.{◌≡◌, ap, ◌∙◌}
use mathlib.Core.List.{List, [], ◌∷◌}
use lib.ListN.{length}
use Rattle.fletcher.specs.declared.Sums.{Sums}
use Rattle.fletcher.specs.Fletcher.{added, sums_from, reduced}

-- sums with e added to the first and g to the second
abbrev pub shifted : Sums → ℕ → ℕ → Sums
shifted s e g = reduced (s.first + e) (s.second + g)

-- over a byte the second sum takes up the first one's shift
taken_up : (q f g e : ℕ) → ((q + g) % 255 + (f + e) % 255) % 255 ≡ ((q + f) % 255 + (g + e)) % 255
taken_up q f g e = rw (mod-add-mod (q + g) 255 ((f + e) % 255), add-mod-mod (q + g) (f + e) 255, mod-add-mod (q + f) 255 (g + e)) (ap (λ (x : ℕ). x % 255) (omega arith))

shifted_added : (s : Sums) (e g b : ℕ) → added (shifted s e g) b ≡ shifted (added s b) e (g + e)
shifted_added s e g b = λ i. record { first = one i; second = two i }
  where
    one : ((s.first + e) % 255 + b) % 255 ≡ ((s.first + b) % 255 + e) % 255
    one = omega arith

    two : ((s.second + g) % 255 + ((s.first + e) % 255 + b) % 255) % 255 ≡ ((s.second + (s.first + b) % 255) % 255 + (g + e)) % 255
    two = rw one (taken_up s.second ((s.first + b) % 255) g e)

-- Sums that are shifted stay so over any bytes, and the second takes up the first one's shift once for each of them.
pub carried : (s : Sums) (e g : ℕ) (bs : List ℕ) → sums_from (shifted s e g) bs ≡ shifted (sums_from s bs) e (g + length bs * e)
unfolding sums_from
carried s e g [] = ap (shifted s e) (omega arith)
carried s e g (b ∷ bs) =
    ap (λ (t : Sums). sums_from t bs) (shifted_added s e g b) ∙ carried (added s b) e (g + e) bs
    ∙ ap (shifted (sums_from (added s b) bs) e) (rw (suc-mul (length bs) e) (omega arith))
