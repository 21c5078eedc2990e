-- The lays of the writer, one after another, are the frame laid at the front.
use Prim.Native.Nat.{ℕ, ◌+◌, ◌-◌, ◌≤◌}
use native.Mathlib.Omega.{arith}
use mathlib.Core.Path.{◌≡◌, refl, sym, ap, ◌∙◌}
use mathlib.Core.List.{List, [], ◌++◌, append_assoc}
use lib.ListN.{length, take, drop, length-append, length-drop, take-append-drop}
use lib.Seq.{paste, take_at, take-length, take-paste, drop-paste, drop-drop, drop-append-le, length-paste, length-take-le}
use Rattle.ground.specs.Bytes.{laid, fitting}
use Rattle.ground.proofs.Laid.{all_fit, laid_next}
use Rattle.ground.proofs.Runs.{part_behind}
use Rattle.fletcher.specs.declared.Sums.{Sums}
use Rattle.fletcher.specs.Joined.{closing}
use Rattle.frame.specs.Frame.{begun}

-- how long a payload is of which so many bytes stand there
pub begun_length : (m : ℕ) (o p : List ℕ) → m ≤ length o - 10 → length (begun m o ++ p) ≡ m + length p
begun_length m o p h = length-append (begun m o) p ∙ ap (λ (n : ℕ). n + length p) (length-take-le m (drop 10 o) (omega (arith, length-drop 10 o)))

-- the head, and the payload behind what of it stands there already
pub rest_laid : (a p o o₁ o₂ : List ℕ) (m : ℕ) → length a ≡ 10 → 10 + (m + length p) ≤ length o → o₁ ≡ paste o 0 a (fitting (length a) 0 (length o)) → o₂ ≡ paste o₁ (10 + m) p (fitting (length p) (10 + m) (length o₁)) → o₂ ≡ laid (a ++ (begun m o ++ p)) o
rest_laid a p o o₁ o₂ m ten room e₁ e₂ = laid_next (a ++ begun m o) p o o₁ o₂ (10 + m) (sym both) (omega (arith, both)) front e₂ ∙ ap (λ (x : List ℕ). laid x o) (append_assoc a (begun m o) p)
  where
    both : length (a ++ begun m o) ≡ 10 + m
    both = length-append a (begun m o) ∙ rw (ten, length-take-le m (drop 10 o) (omega (arith, length-drop 10 o))) refl

    front : o₁ ≡ laid (a ++ begun m o) o
    front =
        laid_next [] a o o o₁ 0 refl (omega arith) refl e₁
        ∙ ap (λ (k : ℕ). a ++ drop k o) ten
        ∙ ap (λ (x : List ℕ). a ++ x) (sym (take-append-drop m (drop 10 o)) ∙ ap (λ (x : List ℕ). begun m o ++ x) (drop-drop m 10 o))
        ∙ sym (append_assoc a (begun m o) (drop (10 + m) o))
        ∙ ap (λ (k : ℕ). (a ++ begun m o) ++ drop k o) (sym both)

-- what a first part leaves behind it: itself where a payload begins, and what stood there from its end on
module _ (f o u : List ℕ) (room : 10 + length f ≤ length o) (e : u ≡ paste o 10 f (fitting (length f) 10 (length o))) where
  all : u ≡ paste o 10 f (length f)
  all = e ∙ ap (paste o 10 f) (all_fit (length f) 10 (length o) room)

  pub begun_long : length u ≡ length o
  begun_long = ap length all ∙ length-paste o 10 f (length f) room (omega arith)

  pub begun_is : begun (length f) u ≡ f
  begun_is = part_behind u (take 10 o) f 10 (length f) (omega (arith, begun_long)) (ap (take (10 + length f)) all ∙ take-paste o 10 f (length f) (omega arith) (omega arith) ∙ ap (λ (x : List ℕ). take 10 o ++ x) (take-length f)) (length-take-le 10 o (omega arith))

  pub begun_past : (k : ℕ) → 10 + length f ≤ k → drop k u ≡ drop k o
  begun_past k h = ap (λ (x : ℕ). drop x u) split ∙ sym (drop-drop (k - (10 + length f)) (10 + length f) u) ∙ ap (drop (k - (10 + length f))) (ap (drop (10 + length f)) all ∙ drop-paste o 10 f (length f) (omega arith) (omega arith)) ∙ drop-drop (k - (10 + length f)) (10 + length f) o ∙ ap (λ (x : ℕ). drop x o) (sym split)
    where
      split : k ≡ 10 + length f + (k - (10 + length f))
      split = omega arith

module _ (a p o : List ℕ) (n : ℕ) (count : length p ≡ n) (ten : length a ≡ 10) (room : 12 + n ≤ length o) where
  whole : length (a ++ p) ≡ 10 + n
  whole = length-append a p ∙ rw (ten, count) refl

  -- what was laid so far, from a place on
  onward : (from : ℕ) → from ≤ 10 → take (10 + n - from) (drop from (laid (a ++ p) o)) ≡ drop from (a ++ p)
  onward from h =
      ap (take (10 + n - from)) (drop-append-le from (a ++ p) (drop (length (a ++ p)) o) (omega (arith, whole)))
      ∙ take_at (drop from (a ++ p)) (drop (length (a ++ p)) o) (10 + n - from) (length-drop from (a ++ p) ∙ ap (λ (k : ℕ). k - from) whole)

  -- and the check bytes, whichever sums over these they close
  pub check_laid : (from : ℕ) → from ≤ 10 → (over : List ℕ → Sums) (u v check : List ℕ) → u ≡ laid (a ++ p) o → check ≡ closing (over (take (10 + n - from) (drop from u))) → v ≡ paste u (10 + n) check (fitting (length check) (10 + n) (length u)) → v ≡ laid ((a ++ p) ++ closing (over (drop from (a ++ p)))) o
  check_laid from h over u v check front e e₃ =
      laid_next (a ++ p) check o u v (10 + n) (sym whole) (rw closed (omega (arith, whole))) front e₃ ∙ ap (λ (x : List ℕ). laid ((a ++ p) ++ x) o) closed
    where
      closed : check ≡ closing (over (drop from (a ++ p)))
      closed = e ∙ ap (λ (x : List ℕ). closing (over x)) (ap (λ (x : List ℕ). take (10 + n - from) (drop from x)) front ∙ onward from h)
