-- The numbers from a on: how many, and which stands where; and what a function makes of them. Parts of a list. One value again and again.
use Prim.Native.Nat.{ℕ, zero, suc, ◌+◌, ◌-◌, ◌≤◌, ◌<◌}
use native.Mathlib.Omega.{arith}
use native.Mathlib.Numerals.{add-one}
use mathlib.Core.Path.{◌≡◌, refl, sym, ap, ◌∙◌}
use mathlib.Core.List.{List, ◌∷◌, ◌++◌, map}
use lib.ListN.{length, get_or, take, drop, length-drop, replicate}
use lib.Seq.{take_all, take-add, drop-cons, drop_at, length-take-le}
use Rattle.ground.specs.Below.{up_from}

pub run_length : (a n : ℕ) → length (up_from a n) ≡ n
unfolding up_from
run_length a zero = refl
run_length a (suc n) = ap suc (run_length (a + 1) n)

pub run_at : (a n i d : ℕ) → i < n → get_or (up_from a n) i d ≡ a + i
unfolding up_from
run_at a zero i d h = absurd (let z : ⊥ = omega arith in z)
run_at a (suc n) zero d h = omega arith
run_at a (suc n) (suc i) d h = run_at (a + 1) n i d (omega arith) ∙ omega arith

pub run_map_at {ℓ} : {A : Type ℓ} (f : ℕ → A) (a n i : ℕ) (d : A) → i < n → get_or (map f (up_from a n)) i d ≡ f (a + i)
unfolding up_from
run_map_at f a zero i d h = absurd (let z : ⊥ = omega arith in z)
run_map_at f a (suc n) zero d h = ap f (let e : a ≡ a + 0 = omega arith in e)
run_map_at f a (suc n) (suc i) d h = run_map_at f (a + 1) n i d (omega arith) ∙ ap f (let e : a + 1 + i ≡ a + suc i = omega arith in e)

-- two functions that agree on each number make the same of them
run_map_same {ℓ} : {A : Type ℓ} (f g : ℕ → A) (a n : ℕ) → ((i : ℕ) → a ≤ i → i < a + n → f i ≡ g i) → map f (up_from a n) ≡ map g (up_from a n)
unfolding up_from
run_map_same f g a zero h = refl
run_map_same f g a (suc n) h = rw (h a (omega arith) (omega arith), run_map_same f g (a + 1) n (λ i l u. h i (omega arith) (omega arith))) refl

-- the part from a place to the end, as code cuts it, is all that comes after that place
pub rest_is : (l : List ℕ) (a : ℕ) → take (length l - a) (drop a l) ≡ drop a l
rest_is l a = take_all (length l - a) (drop a l) (simp length-drop (omega arith))

-- where a list begins with one run and then another, the second is the part behind the first
pub part_behind : (l a p : List ℕ) (k n : ℕ) → k + n ≤ length l → take (k + n) l ≡ a ++ p → length a ≡ k → take n (drop k l) ≡ p
part_behind l a p k n h e m = sym (drop_at (take k l) (take n (drop k l)) k (length-take-le k l (omega arith))) ∙ ap (drop k) (sym (take-add k n l) ∙ e) ∙ drop_at a p k m

-- a part of a list, read number by number
pub run_read : (l : List ℕ) (a n : ℕ) → a + n ≤ length l → take n (drop a l) ≡ map (λ i. get_or l i 0) (up_from a n)
unfolding up_from
run_read l a zero h = refl
run_read l a (suc n) h = rw (drop-cons l a 0 (omega arith)) (ap (λ (r : List ℕ). get_or l a 0 ∷ r) (rw (← (add-one a)) (run_read l (a + 1) n (omega arith))))

-- two parts at one place are the same where their bytes are
pub run_alike : (l m : List ℕ) (a n : ℕ) → a + n ≤ length l → a + n ≤ length m → ((i : ℕ) → a ≤ i → i < a + n → get_or l i 0 ≡ get_or m i 0) → take n (drop a l) ≡ take n (drop a m)
run_alike l m a n hl hm same =
    run_read l a n hl ∙ run_map_same (λ i. get_or l i 0) (λ i. get_or m i 0) a n same ∙ sym (run_read m a n hm)

-- a list of one value has it everywhere, and so has what is past its end
pub run_same {ℓ} : {A : Type ℓ} (a : A) (n i : ℕ) → get_or (replicate n a) i a ≡ a
run_same a zero i = refl
run_same a (suc n) zero = refl
run_same a (suc n) (suc i) = run_same a n i
