-- The part of a buffer that holds the list.
use Prim.Native.Nat.{ℕ, ◌≤◌}
use native.Mathlib.Omega.{arith}
use mathlib.Core.Path.{◌≡◌, refl, sym, ap, ◌∙◌}
use mathlib.Core.List.{List}
use Rattle.std.specs.Prelude.{Result, Ok, Err}
use lib.ListN.{length, take}
use borrow.Author.Tests.{le-ltb}
use Rattle.ground.specs.Bytes.{laid}
use Rattle.ground.proofs.Choices.{choose_no}
use Rattle.ground.proofs.Laid.{taken_laid}
use Rattle.board.specs.declared.Node.{Node}
use Rattle.refusal.specs.declared.Refusal.{Refusal}
use Rattle.refusal.proofs.Numbers.{same_counts}
use Rattle.nodelist.specs.List.{list_to, length_to, told, written_to, output_to}
use Rattle.nodelist.proofs.Bytes.{size_to}

-- the writer of the list refuses nothing where the buffer has 41 bytes, and counts the list's
pub list_counted : (top : ℕ) (before : List ℕ) {r : Result ℕ Refusal} → length before ≡ 41 → told r ≡ written_to top before → r ≡ Ok (length_to top)
list_counted top before {r} l e = same_counts r (Ok (length_to top)) (e ∙ sym (choose_no _ _ _ _ (le-ltb (length before) (length_to top) (omega arith)) refl))

-- so what it gave is that count, and it gave no refusal
pub count_given : (top : ℕ) (before : List ℕ) {r : Result ℕ Refusal} {n : ℕ} → length before ≡ 41 → told r ≡ written_to top before → r ≡ Ok n → n ≡ length_to top
count_given top before l e was = let counted = list_counted top before l e in cc

pub none_refused : {A : Type 0} (top : ℕ) (before : List ℕ) {r : Result ℕ Refusal} {q : Refusal} → length before ≡ 41 → told r ≡ written_to top before → r ≡ Err q → A
none_refused top before l e was = let counted = list_counted top before l e in absurd (let z : ⊥ = cc in z)

-- a list of at most 41 bytes fits a buffer of 41, and is the buffer's front afterwards
pub list_fits : (top : ℕ) {n : ℕ} → n ≡ length_to top → n ≤ 41
list_fits top e = omega arith

pub list_front : (top internal : ℕ) (t : List Node) (before after : List ℕ) {n : ℕ} → length before ≡ 41 → after ≡ output_to top internal t before → n ≡ length_to top → take n after ≡ list_to top internal t
list_front top internal t before after {n} l e q =
    ap (λ (m : ℕ). take m after) (q ∙ sym (size_to top internal t)) ∙ ap (take (length (list_to top internal t))) (e ∙ sym roomy) ∙ taken_laid (list_to top internal t) before
  where
    roomy : laid (list_to top internal t) before ≡ output_to top internal t before
    roomy = choose_no _ _ _ _ (le-ltb (length before) (length_to top) (omega arith)) refl
