-- What the library finds in a list, and how many, said of the numbers at which its elements stand.
use Rattle.std.proofs.Common.{◌≡◌, ℕ, zero, suc, ◌+◌, ◌-◌, ◌<◌, ◌≤◌, Bool, true, false, ◌||◌, nat_eq, List, [], ◌∷◌, length, get_or, take, drop, cond, Option, Some, unwrap_or, position, count_by, fold, find, refl, sym, ap, ◌∙◌, arith, add-one, length-drop}
use Rattle.std.specs.List.{position_from, range_with_len}
use Rattle.std.specs.Option.{option_map}
use Rattle.std.proofs.lemmas.Iterator.Adapters.{position_from-zero}
use Rattle.std.proofs.lemmas.List.Sums.{count_by_more_yes, count_by_more_no}
use Rattle.std.proofs.lemmas.List.{get_or-take, get_or-drop, length-take-le}
use borrow.Author.Tests.{eqb-true, eq-eqb}
use Rattle.ground.proofs.Choices.{or_none, alike}
use Rattle.ground.specs.Choose.{choose}
use Rattle.ground.specs.Below.{one, first_or, up_from, count, among}

-- a search that counts from another number finds the same element
from_there : (test : ℕ → Bool) (xs : List ℕ) (a n : ℕ) → option_map (λ i. a + i) (position_from test n xs) ≡ position_from test (a + n) xs
from_there test [] a n = refl
from_there test (x ∷ xs) a n = go (test x) (from_there test xs a (n + 1))
  where
    go : (b : Bool) → option_map (λ i. a + i) (position_from test (n + 1) xs) ≡ position_from test (a + (n + 1)) xs → option_map (λ i. a + i) (cond b (Some n) (position_from test (n + 1) xs)) ≡ cond b (Some (a + n)) (position_from test (a + n + 1) xs)
    go true h = refl
    go false h = h ∙ ap (λ (m : ℕ). position_from test m xs) (omega arith)

-- and finds the first number of a run, where the test of each number is that of the element there
run_found : (test p : ℕ → Bool) (xs : List ℕ) (a d : ℕ) → ((i : ℕ) → i < length xs → test (get_or xs i 0) ≡ p (a + i)) → unwrap_or (position_from test a xs) d ≡ first_or d p (up_from a (length xs))
unfolding first_or up_from choose
run_found test p [] a d h = refl
run_found test p (x ∷ xs) a d h = go (test x) (p a) (h 0 (omega arith) ∙ ap p (omega arith)) (run_found test p xs (a + 1) d (λ i l. h (suc i) (omega arith) ∙ ap p (omega arith)))
  where
    go : (b c : Bool) → b ≡ c → unwrap_or (position_from test (a + 1) xs) d ≡ first_or d p (up_from (a + 1) (length xs)) → unwrap_or (cond b (Some a) (position_from test (a + 1) xs)) d ≡ choose c a (first_or d p (up_from (a + 1) (length xs)))
    go true true e r = refl
    go true false e r = cc
    go false true e r = cc
    go false false e r = r

-- so the place of the first element that passes, counted from a, is the first number from a on that does
pub first_place : (test p : ℕ → Bool) (xs : List ℕ) (a d : ℕ) → ((i : ℕ) → i < length xs → test (get_or xs i 0) ≡ p (a + i)) → unwrap_or (option_map (λ i. a + i) (position test xs)) d ≡ first_or d p (up_from a (length xs))
first_place test p xs a d h = ap (λ (o : Option ℕ). unwrap_or (option_map (λ i. a + i) o) d) (position_from-zero test xs) ∙ ap (λ (o : Option ℕ). unwrap_or o d) (from_there test xs a 0 ∙ ap (λ (n : ℕ). position_from test n xs) (omega arith)) ∙ run_found test p xs a d h

-- of a part of a column, as code cuts it, of which element i is asked what number off + i is
pub first_in_part : (test p : ℕ → Bool) (column : List ℕ) (off from to a d : ℕ) → a ≡ off + from → from ≤ to → to ≤ length column → ((i : ℕ) → i < length column → test (get_or column i 0) ≡ p (off + i)) → unwrap_or (option_map (λ i. a + i) (position test (take (to - from) (drop from column)))) d ≡ first_or d p (up_from a (to - from))
first_in_part test p column off from to a d e h k each = first_place test p part a d here ∙ ap (λ (n : ℕ). first_or d p (up_from a n)) size
  where
    part : List ℕ
    part = take (to - from) (drop from column)

    size : length part ≡ to - from
    size = length-take-le (to - from) (drop from column) (omega (arith, length-drop from column))

    here : (i : ℕ) → i < length part → test (get_or part i 0) ≡ p (a + i)
    here i l = ap test (get_or-take (to - from) (drop from column) i 0 (omega (arith, size)) ∙ get_or-drop from column i 0) ∙ each (from + i) (omega (arith, size)) ∙ ap p (omega arith)

-- of a column of which element i is asked what number i + 1 is, and where 0 passes not, as many elements in front pass as numbers below
pub front_counted : (test p : ℕ → Bool) (column : List ℕ) → p 0 ≡ false → ((i : ℕ) → i < length column → test (get_or column i 0) ≡ p (suc i)) → (n : ℕ) → n ≤ length column → count_by test (take n column) ≡ count p (suc n)
unfolding count
front_counted test p column z each zero h = omega (arith, ap one z)
front_counted test p column z each (suc n) h = ap (λ (m : ℕ). count_by test (take m column)) (sym (add-one n)) ∙ go (test (get_or column n 0)) refl (front_counted test p column z each n (omega arith))
  where
    go : (b : Bool) → test (get_or column n 0) ≡ b → count_by test (take n column) ≡ count p (suc n) → count_by test (take (n + 1) column) ≡ count p (suc n) + one (p (suc n))
    go true e r = count_by_more_yes test column n 0 h e ∙ omega (arith, r, ap one (sym (each n h) ∙ e))
    go false e r = count_by_more_no test column n 0 h e ∙ omega (arith, r, ap one (sym (each n h) ∙ e))

-- a fold over the list says whether a value is one of it
pub fold_among : (x : ℕ) (b : Bool) (xs : List ℕ) → fold (λ met y. met || nat_eq y x) b xs ≡ (b || among x xs)
unfolding among
fold_among x b [] = sym (or_none b)
fold_among x b (y ∷ xs) = fold_among x (b || nat_eq y x) xs ∙ go b (nat_eq y x) (nat_eq x y) (among x xs) (alike _ _ (λ h. eq-eqb x y (sym (eqb-true y x h))) (λ h. eq-eqb y x (sym (eqb-true x y h))))
  where
    go : (a c d e : Bool) → c ≡ d → (a || c || e) ≡ (a || (d || e))
    go true c d e q = refl
    go false c d e q = ap (λ (z : Bool). z || e) q

-- what the library finds in a list is the first that passes, and a range has the numbers from its start on
pub found_first : (d : ℕ) (p : ℕ → Bool) (xs : List ℕ) → unwrap_or (find p xs) d ≡ first_or d p xs
unfolding first_or choose
found_first d p [] = refl
found_first d p (x ∷ xs) = go (p x) (found_first d p xs)
  where
    go : (b : Bool) → unwrap_or (find p xs) d ≡ first_or d p xs → unwrap_or (cond b (Some x) (find p xs)) d ≡ choose b x (first_or d p xs)
    go true h = refl
    go false h = h

pub range_run : (a n : ℕ) → range_with_len a n ≡ up_from a n
unfolding up_from
range_run a zero = refl
range_run a (suc n) = ap (λ (l : List ℕ). a ∷ l) (range_run (a + 1) n)
