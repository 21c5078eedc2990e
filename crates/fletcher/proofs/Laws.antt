-- The laws of the sums that everyone above cites.
use Prim.Native.Nat.{ℕ, suc, ◌+◌, ◌-◌, ◌%◌, ◌≤◌, ◌<◌}
use native.Mathlib.Omega.{arith}
use native.Mathlib.Numerals.{add-one}
use mathlib.Core.Path.{◌≡◌, refl, sym, ap, ◌∙◌}
use mathlib.Core.Bool.{true, ◌&&◌}
use mathlib.Core.List.{List, [], ◌∷◌, ◌++◌}
use lib.ListN.{length, get_or, take}
use lib.Seq.{take-suc, take-length}
use lib.Dec.{eqb}
use borrow.Author.Tests.{eq-eqb, ne_eqb, eqb-true}
use native.Mathlib.Decide.{ℕ_discrete}
use Rattle.ground.specs.Choose.{choose}
use Rattle.ground.proofs.Choices.{both, and_left, and_right}
use Rattle.fletcher.specs.declared.Sums.{Sums}
use Rattle.fletcher.specs.Fletcher.{seed, added, sums_from, reduced, sums, is_good, first_check, second_check, check_bytes, never_zero}

-- the sums over bytes put together continue from the sums over the first
pub sums_append : (s : Sums) (xs ys : List ℕ) → sums_from s (xs ++ ys) ≡ sums_from (sums_from s xs) ys
unfolding sums_from
sums_append s [] ys = refl
sums_append s (x ∷ xs) ys = sums_append (added s x) xs ys

-- both sums are below 255
pub record Small (s : Sums) : Type 0 where
  pub first : s.first < 255
  pub second : s.second < 255

pub seed_small : Small seed
seed_small = record { first = omega arith; second = omega arith }

pub added_small : (s : Sums) (b : ℕ) → Small (added s b)
added_small s b = record { first = omega arith; second = omega arith }

pub sums_small : (s : Sums) (bs : List ℕ) → Small s → Small (sums_from s bs)
unfolding sums_from
sums_small s [] h = h
sums_small s (b ∷ bs) h = sums_small (added s b) bs (added_small s b)

-- a check byte is 1 to 255
pub first_check_least : (s : Sums) → 1 ≤ first_check s
first_check_least s = omega arith

pub first_check_most : (s : Sums) → first_check s ≤ 255
first_check_most s = omega arith

pub second_check_least : (s : Sums) → 1 ≤ second_check s
second_check_least s = omega arith

pub second_check_most : (s : Sums) → second_check s ≤ 255
second_check_most s = omega arith

-- bytes with one remainder by 255 are alike to the sums: equal ones, and 0 and 255
alike_added : (s : Sums) (x y : ℕ) → x % 255 ≡ y % 255 → added s x ≡ added s y
alike_added s x y h = ap (λ (z : ℕ). record { first = z; second = (s.second + z) % 255 }) (let e : (s.first + x) % 255 ≡ (s.first + y) % 255 = omega arith in e)

pub alike : (s : Sums) → added s 0 ≡ added s 255
alike s = alike_added s 0 255 refl

alike_sums : (s : Sums) (xs ys : List ℕ) → length xs ≡ length ys → ((n : ℕ) → get_or xs n 0 % 255 ≡ get_or ys n 0 % 255) → sums_from s xs ≡ sums_from s ys
unfolding sums_from
alike_sums s [] [] q h = refl
alike_sums s [] (y ∷ ys) q h = absurd (let z : ⊥ = omega arith in z)
alike_sums s (x ∷ xs) [] q h = absurd (let z : ⊥ = omega arith in z)
alike_sums s (x ∷ xs) (y ∷ ys) q h = ap (λ (t : Sums). sums_from t xs) (alike_added s x y (h 0)) ∙ alike_sums (added s y) xs ys (omega arith) (λ n. h (suc n))

-- a good frame's sums are 0, and bytes whose sums are 0 are good
pub good_first : (bs : List ℕ) → is_good bs ≡ true → (sums bs).first ≡ 0
good_first bs g = eqb-true _ _ (and_left (eqb (sums bs).first 0) (eqb (sums bs).second 0) g)

pub good_second : (bs : List ℕ) → is_good bs ≡ true → (sums bs).second ≡ 0
good_second bs g = eqb-true _ _ (and_right (eqb (sums bs).first 0) (eqb (sums bs).second 0) g)

pub sums_good : (bs : List ℕ) → (sums bs).first ≡ 0 → (sums bs).second ≡ 0 → is_good bs ≡ true
sums_good bs f g = both (eqb (sums bs).first 0) (eqb (sums bs).second 0) (eq-eqb _ _ f) (eq-eqb _ _ g)

pub alike_good : (xs ys : List ℕ) → length xs ≡ length ys → ((n : ℕ) → get_or xs n 0 % 255 ≡ get_or ys n 0 % 255) → is_good xs ≡ is_good ys
alike_good xs ys q h = ap (λ (s : Sums). eqb s.first 0 && eqb s.second 0) (alike_sums seed xs ys q h)

-- bytes with their check bytes are good
closing_first : (s : Sums) → Small s → (added (added s (first_check s)) (second_check s)).first ≡ 0
closing_first s h = omega (arith, h.first, h.second)

after_first : (a b : ℕ) → a < 255 → b < 255 → (b + (a + (255 - (a + b) % 255)) % 255) % 255 ≡ 0
after_first a b h l = omega arith

closing_second : (s : Sums) → Small s → (added (added s (first_check s)) (second_check s)).second ≡ 0
closing_second s h = rw (closing_first s h) (rw (after_first s.first s.second h.first h.second) refl)

pub checked_good : (bs : List ℕ) → is_good (bs ++ check_bytes bs) ≡ true
unfolding sums_from
checked_good bs =
    sums_good (bs ++ check_bytes bs)
    (ap (λ (x : Sums). x.first) over ∙ closing_first (sums bs) (sums_small seed bs seed_small))
    (ap (λ (x : Sums). x.second) over ∙ closing_second (sums bs) (sums_small seed bs seed_small))
  where
    over : sums_from seed (bs ++ check_bytes bs) ≡ added (added (sums bs) (first_check (sums bs))) (second_check (sums bs))
    over = sums_append seed bs (check_bytes bs)

-- bytes c and d that close the sums are the check bytes, but for a 0 that is written 255
never_zero_case : (c x : ℕ) → (c ≡ 0 → x ≡ 255) → ((c ≡ 0 → ⊥) → x ≡ c) → x ≡ never_zero c
unfolding never_zero choose
never_zero_case c x at_zero other = go (ℕ_discrete c 0)
  where
    go : Dec (c ≡ 0) → x ≡ choose (eqb c 0) 255 c
    go (yes e) = rw (eq-eqb c 0 e) (at_zero e)
    go (no ne) = rw (ne_eqb c 0 ne) (other ne)

first_closes : (a b c : ℕ) → a < 255 → b < 255 → c < 256 → (b + (a + c) % 255) % 255 ≡ 0 → 255 - (a + b) % 255 ≡ never_zero c
first_closes a b c ha hb hc e = never_zero_case c (255 - (a + b) % 255) (λ z. omega arith) (λ n. omega arith)

second_closes : (x d : ℕ) → x < 255 → d < 256 → (x + d) % 255 ≡ 0 → 255 - x ≡ never_zero d
second_closes x d hx hd e = never_zero_case d (255 - x) (λ z. omega arith) (λ n. omega arith)

never_zero_alike : (a c : ℕ) → (a + never_zero c) % 255 ≡ (a + c) % 255
unfolding never_zero choose
never_zero_alike a c = go (ℕ_discrete c 0)
  where
    go : Dec (c ≡ 0) → (a + choose (eqb c 0) 255 c) % 255 ≡ (a + c) % 255
    go (yes e) = rw (eq-eqb c 0 e, e) (omega arith)
    go (no ne) = rw (ne_eqb c 0 ne) refl

module _ (s : Sums) (c d : ℕ) (small : Small s) (hc : c < 256) (hd : d < 256)
    (first : (added (added s c) d).first ≡ 0) (second : (added (added s c) d).second ≡ 0) where
  pub first_is : first_check s ≡ never_zero c
  first_is = first_closes s.first s.second c small.first small.second hc (omega (arith, first, second))

  pub second_is : second_check s ≡ never_zero d
  second_is = rw (first_is, never_zero_alike s.first c) (second_closes ((s.first + c) % 255) d (omega arith) hd first)

-- a good frame's last two bytes are the check bytes of those before, but for a 0 that is written 255
pub only_check : (bs : List ℕ) (c d : ℕ) → c < 256 → d < 256 → is_good (bs ++ c ∷ d ∷ []) ≡ true → check_bytes bs ≡ never_zero c ∷ never_zero d ∷ []
unfolding sums_from
only_check bs c d hc hd g = rw (second_is (sums bs) c d small hc hd one two, first_is (sums bs) c d small hc hd one two) refl
  where
    small : Small (sums bs)
    small = sums_small seed bs seed_small

    over : sums_from seed (bs ++ c ∷ d ∷ []) ≡ added (added (sums bs) c) d
    over = sums_append seed bs (c ∷ d ∷ [])

    one : (added (added (sums bs) c) d).first ≡ 0
    one = ap (λ (x : Sums). x.first) (sym over) ∙ good_first (bs ++ c ∷ d ∷ []) g

    two : (added (added (sums bs) c) d).second ≡ 0
    two = ap (λ (x : Sums). x.second) (sym over) ∙ good_second (bs ++ c ∷ d ∷ []) g

-- sums of which the remainders are still to be taken
reduced_added : (f g b : ℕ) → reduced (f + b) (g + (f + b)) ≡ added (reduced f g) b
reduced_added f g b = λ i. record { first = one i; second = two i }
  where
    one : (f + b) % 255 ≡ (f % 255 + b) % 255
    one = omega arith

    two : (g + (f + b)) % 255 ≡ (g % 255 + (f % 255 + b) % 255) % 255
    two = omega arith

-- sums below 255 are their own remainders
pub small_reduced : (s : Sums) → s.first < 255 → s.second < 255 → reduced s.first s.second ≡ s
small_reduced s h l = λ i. record { first = one i; second = two i }
  where
    one : s.first % 255 ≡ s.first
    one = omega arith

    two : s.second % 255 ≡ s.second
    two = omega arith

-- a loop that adds the bytes one by one and takes the remainders at its end: the first i are done
pub reduced_none : (s : Sums) → s.first < 255 → s.second < 255 → reduced s.first s.second ≡ sums_from s []
unfolding sums_from
reduced_none s h l = small_reduced s h l

pub reduced_step : (s : Sums) (bs : List ℕ) (i b f g : ℕ) → reduced f g ≡ sums_from s (take i bs) → i < length bs → b ≡ get_or bs i 0 → reduced (f + b) (g + (f + b)) ≡ sums_from s (take (i + 1) bs)
unfolding sums_from
reduced_step s bs i b f g h l e = rw (add-one, take-suc bs i 0 l, sums_append s (take i bs) (get_or bs i 0 ∷ []), ← h, ← e) (reduced_added f g b)

pub reduced_end : (s : Sums) (bs : List ℕ) (i f g : ℕ) → reduced f g ≡ sums_from s (take i bs) → i ≤ length bs → length bs ≤ i → reduced f g ≡ sums_from s bs
reduced_end s bs i f g h a b = h ∙ rw (let e : i ≡ length bs = omega arith in e) (rw (take-length bs) refl)

-- a loop that continues the sums over one part after another: from the sums over the part, those over the rest are those over both
pub sums_parts : (s : Sums) (part rest : List ℕ) → sums_from (sums_from s part) rest ≡ sums_from s (part ++ rest)
sums_parts s part rest = sym (sums_append s part rest)

pub sums_done : (s : Sums) (rest : List ℕ) → length rest ≡ 0 → sums_from s rest ≡ s
unfolding sums_from
sums_done s [] h = refl
sums_done s (x ∷ rest) h = absurd (let z : ⊥ = omega arith in z)

-- what closes such loops
pub ruleset summing = (reduced_none, reduced_step, reduced_end, sums_parts, sums_done)
