-- Tests over numbers: of all below a bound, of some, of how many; the first of a list that passes.
use Rattle.std.specs.Prelude.{ℕ, zero, suc, ◌+◌, List, [], ◌∷◌, Bool, true, false, ◌&&◌, ◌||◌, eqb}
use Rattle.ground.specs.Choose.{choose}

-- what a test adds to a count
abbrev pub one : Bool → ℕ
one true = 1
one false = 0

-- the test holds of each number below n
unfoldable pub all : (ℕ → Bool) → ℕ → Bool
all p zero = true
all p (suc n) = all p n && p n

-- the test holds of some number below n
unfoldable pub some : (ℕ → Bool) → ℕ → Bool
some p zero = false
some p (suc n) = some p n || p n

-- of how many numbers below n the test holds
unfoldable pub count : (ℕ → Bool) → ℕ → ℕ
count p zero = 0
count p (suc n) = count p n + one (p n)

-- the numbers from a on, n of them
unfoldable pub up_from : ℕ → ℕ → List ℕ
up_from a zero = []
up_from a (suc n) = a ∷ up_from (a + 1) n

-- the first number of the list of which the test holds, or d where it holds of none
unfoldable pub first_or : ℕ → (ℕ → Bool) → List ℕ → ℕ
first_or d p [] = d
first_or d p (x ∷ xs) = choose (p x) x (first_or d p xs)

-- a number is one of the list
unfoldable pub among : ℕ → List ℕ → Bool
among x [] = false
among x (y ∷ ys) = eqb x y || among x ys

-- the highest number from 1 to n of which the test holds, or 0 where it holds of none
unfoldable pub highest : (ℕ → Bool) → ℕ → ℕ
highest p zero = 0
highest p (suc n) = choose (p (suc n)) (suc n) (highest p n)
