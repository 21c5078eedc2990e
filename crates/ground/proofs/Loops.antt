-- The laws of the tests over numbers below a bound, at the code's `i + 1`, and what closes each need of a loop that folds one.
use Prim.Native.Nat.{ℕ, zero, suc, ◌+◌, ◌≤◌, ◌<◌}
use native.Mathlib.Numerals.{add-one}
use native.Mathlib.Omega.{arith}
use native.Mathlib.Decide.{ℕ_discrete}
use mathlib.Core.Path.{◌≡◌, refl, ap, ◌∙◌, sym}
use mathlib.Core.Bool.{Bool, true, false, ◌&&◌, ◌||◌, false≢true}
use mathlib.Core.Logic.{◌⊎◌, inl, inr}
use borrow.Author.Rules.{rules}
use Rattle.ground.specs.Below.{one, all, some, count}
use Rattle.ground.proofs.Choices.{and_left, and_right, both, or_left, or_right, either, never}

pub all_more : (p : ℕ → Bool) (i : ℕ) → all p (i + 1) ≡ (all p i && p i)
unfolding all
all_more p i = rw add-one

pub count_more : (p : ℕ → Bool) (i : ℕ) → count p (i + 1) ≡ count p i + one (p i)
unfolding count
count_more p i = rw add-one

pub one_le : (b : Bool) → one b ≤ 1
one_le true = omega arith
one_le false = omega arith

pub count_le : (p : ℕ → Bool) (i : ℕ) → count p i ≤ i
unfolding count
count_le p zero = omega arith
count_le p (suc i) = omega (arith, count_le p i, one_le (p i))

pub all_step : (p : ℕ → Bool) (i : ℕ) {b r : Bool} → b ≡ all p i → r ≡ p i → (b && r) ≡ all p (i + 1)
all_step p i hb hr = rw (all_more, ← hb, ← hr)

pub count_step : (p : ℕ → Bool) (i : ℕ) {n r : ℕ} → n ≡ count p i → r ≡ one (p i) → n + r ≡ count p (i + 1)
count_step p i hn hr = rw (count_more, ← hn, ← hr)

pub all_none : (p : ℕ → Bool) → true ≡ all p 0
unfolding all
all_none p = refl

pub count_none : (p : ℕ → Bool) → 0 ≡ count p 0
unfolding count
count_none p = refl

-- what an invariant says at i, where the loop has come to its end
pub at_end {ℓ} : {A : Type ℓ} (f : ℕ → A) {x : A} {i n : ℕ} → x ≡ f i → i ≤ n → n ≤ i → x ≡ f n
at_end f {x} {i} {n} h a b = h ∙ ap f (let e : i ≡ n = omega arith in e)

pub all_end : (p : ℕ → Bool) (i n : ℕ) {b : Bool} → b ≡ all p i → i ≤ n → n ≤ i → b ≡ all p n
all_end p i n h a b = at_end (all p) h a b

pub count_end : (p : ℕ → Bool) (i n : ℕ) {b : ℕ} → b ≡ count p i → i ≤ n → n ≤ i → b ≡ count p n
count_end p i n h a b = at_end (count p) h a b

-- what closes each need of a loop that folds one of the tests
pub ruleset loops = (rules, all_none, count_none, all_step, count_step, all_end, count_end)

-- what a test of all says at each number
pub all_at : (p : ℕ → Bool) (n i : ℕ) → all p n ≡ true → i < n → p i ≡ true
unfolding all
all_at p zero i h l = absurd (let z : ⊥ = omega arith in z)
all_at p (suc n) i h l = go (λ m. all_at p n i (and_left (all p n) (p n) h) m) (ℕ_discrete i n)
  where
    go : (i < n → p i ≡ true) → Dec (i ≡ n) → p i ≡ true
    go r (yes e) = ap p e ∙ and_right (all p n) (p n) h
    go r (no ne) = r (omega arith)

-- what holds at each number makes a test of all
pub all_of : (p : ℕ → Bool) (n : ℕ) → ((i : ℕ) → i < n → p i ≡ true) → all p n ≡ true
unfolding all
all_of p zero h = refl
all_of p (suc n) h = both (all p n) (p n) (all_of p n (λ i l. h i (omega arith))) (h n (omega arith))

-- numbers that all pass do not change a test of all
pub all_past : (p : ℕ → Bool) (m n : ℕ) → m ≤ n → ((i : ℕ) → m ≤ i → i < n → p i ≡ true) → all p m ≡ all p n
unfolding all
all_past p m zero l h = ap (all p) (let e : m ≡ 0 = omega arith in e)
all_past p m (suc n) l h = go (λ l'. all_past p m n l' (λ i a b. h i a (omega arith))) (ℕ_discrete m (suc n))
  where
    kept : (b : Bool) → b ≡ (b && true)
    kept true = refl
    kept false = refl

    go : (m ≤ n → all p m ≡ all p n) → Dec (m ≡ suc n) → all p m ≡ (all p n && p n)
    go r (yes e) = ap (all p) e
    go r (no ne) = r (omega arith) ∙ rw (h n (omega arith) (omega arith)) (kept (all p n))

-- two tests of each number below a bound
pub all_both : (p q : ℕ → Bool) (n : ℕ) → all (λ i. p i && q i) n ≡ (all p n && all q n)
unfolding all
all_both p q zero = refl
all_both p q (suc n) = ap (λ (b : Bool). b && (p n && q n)) (all_both p q n) ∙ four (all p n) (all q n) (p n) (q n)
  where
    four : (a b c d : Bool) → (a && b && (c && d)) ≡ (a && c && (b && d))
    four true true c d = refl
    four true false true d = refl
    four true false false d = refl
    four false b c d = refl

-- what holds at one number makes a test of some
pub some_of : (p : ℕ → Bool) (n i : ℕ) → i < n → p i ≡ true → some p n ≡ true
unfolding some
some_of p zero i l h = absurd (let z : ⊥ = omega arith in z)
some_of p (suc n) i l h = go (λ m. some_of p n i m h) (ℕ_discrete i n)
  where
    go : (i < n → some p n ≡ true) → Dec (i ≡ n) → (some p n || p n) ≡ true
    go r (yes e) = or_right (some p n) (p n) (ap p (sym e) ∙ h)
    go r (no ne) = or_left (some p n) (p n) (r (omega arith))

-- a test of some that holds holds at a number
pub some_at : (p : ℕ → Bool) (n : ℕ) → some p n ≡ true → (i : ℕ) × (i < n) × (p i ≡ true)
unfolding some
some_at p zero h = absurd (false≢true h)
some_at p (suc n) h = go (some_at p n) (either (some p n) (p n) h)
  where
    go : (some p n ≡ true → (i : ℕ) × (i < n) × (p i ≡ true)) → (some p n ≡ true) ⊎ (p n ≡ true) → (i : ℕ) × (i < suc n) × (p i ≡ true)
    go r (inl below) = ((r below).0, omega (arith, (r below).1), (r below).2)
    go r (inr last) = (n, omega arith, last)

-- a test of some that fails fails at each number
pub none_of : (p : ℕ → Bool) (n i : ℕ) → some p n ≡ false → i < n → p i ≡ false
none_of p n i h l = never (p i) (λ e. false≢true (sym h ∙ some_of p n i l e))

-- a test that fails at each number fails of some
pub some_no : (p : ℕ → Bool) (n : ℕ) → ((i : ℕ) → i < n → p i ≡ false) → some p n ≡ false
unfolding some
some_no p zero h = refl
some_no p (suc n) h = rw (some_no p n (λ i l. h i (omega arith)), h n (omega arith)) refl

-- a test that fails at each number counts none
pub count_no : (p : ℕ → Bool) (n : ℕ) → ((i : ℕ) → i < n → p i ≡ false) → count p n ≡ 0
unfolding count
count_no p zero h = refl
count_no p (suc n) h = rw (count_no p n (λ i l. h i (omega arith)), h n (omega arith)) refl

-- two tests that agree below n give one count
pub count_same : (p q : ℕ → Bool) (n : ℕ) → ((i : ℕ) → i < n → p i ≡ q i) → count p n ≡ count q n
unfolding count
count_same p q zero h = refl
count_same p q (suc n) h = rw (count_same p q n (λ i l. h i (omega arith)), h n (omega arith)) refl

-- a count up to a higher bound is at least as large, and larger where the test holds at the lower bound
pub count_grows : (p : ℕ → Bool) (m n : ℕ) → m ≤ n → count p m ≤ count p n
unfolding count
count_grows p m zero h = rw (let e : m ≡ 0 = omega arith in e) (omega arith)
count_grows p m (suc n) h = go (λ l. count_grows p m n l) (ℕ_discrete m (suc n))
  where
    go : (m ≤ n → count p m ≤ count p n) → Dec (m ≡ suc n) → count p m ≤ count p n + one (p n)
    go r (yes e) = rw e (omega arith)
    go r (no ne) = omega (arith, r (omega arith))

pub count_past : (p : ℕ → Bool) (m n : ℕ) → m < n → p m ≡ true → count p m < count p n
count_past p m n h e = omega (arith, count_grows p (m + 1) n (omega arith), counted)
  where
    counted : count p (m + 1) ≡ count p m + 1
    counted = count_more p m ∙ rw e refl
