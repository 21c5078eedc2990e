-- A board's index among the boards of its kind.
use Prim.Native.Nat.{ℕ, ◌≤◌, ◌<◌}
use native.Mathlib.Omega.{arith}
use mathlib.Core.Path.{◌≡◌, refl, sym, ap}
use mathlib.Core.List.{List}
use mathlib.Core.Bool.{Bool, true, false, not, ◌&&◌}
use lib.ListN.{length}
use lib.Dec.{eqb, ltb}
use borrow.Author.Tests.{eq-eqb, ltb-true, ltb-false}
use Rattle.ground.proofs.Choices.{both}
use Rattle.ground.proofs.Loops.{count_le, count_no, count_past}
use Rattle.board.specs.declared.Node.{Node}
use Rattle.board.specs.declared.Wanted.TheVariants.{Kind}
use Rattle.board.specs.Table.{at, listed_at}
use Rattle.board.specs.Wanted.{wants, wanted_at, of_kind_below, index_of}
use Rattle.board.proofs.Positions.{at_past, listed_within}

-- no listed board is of kind 0
pub wants_none : (n : Node) → wants (Kind 0) n ≡ false
wants_none n = never (eqb n.kind 0)
  where
    never : (b : Bool) → (not b && b) ≡ false
    never true = refl
    never false = refl

pub of_kind_none : (t : List Node) (p : ℕ) → of_kind_below t 0 p ≡ 0
of_kind_none t p = count_no _ p (λ i l. wants_none (at t i))

-- where no board is listed the index is 0
pub index_nobody : (t : List Node) (p : ℕ) → (at t p).kind ≡ 0 → 0 ≡ index_of t p
unfolding index_of
index_nobody t p e = rw e (sym (of_kind_none t p))

-- in a table of forty records an index is at most 40, so that it fits a byte
pub index_within : (t : List Node) (p : ℕ) → length t ≡ 40 → index_of t p ≤ 40
unfolding index_of
index_within t p e = go (ltb 40 p) refl
  where
    go : (b : Bool) → ltb 40 p ≡ b → of_kind_below t (at t p).kind p ≤ 40
    go true l = omega (arith, index_nobody t p (ap (λ (n : Node). n.kind) (at_past t p 40 e (ltb-true 40 p l))))
    go false l = omega (arith, count_le (wanted_at (Kind (at t p).kind) t) p, ltb-false 40 p l)

-- a listed board is one of its own kind
own_kind : (t : List Node) (p : ℕ) → listed_at t p ≡ true → wanted_at (Kind (at t p).kind) t p ≡ true
own_kind t p h = both (listed_at t p) _ h (eq-eqb (at t p).kind _ refl)

-- a board's index is below the number of listed boards of its kind
pub index_below : (t : List Node) (p : ℕ) → length t ≡ 40 → listed_at t p ≡ true → index_of t p < of_kind_below t (at t p).kind 41
unfolding index_of
index_below t p e h = count_past _ p 41 (omega (arith, (listed_within t p e h).1)) (own_kind t p h)

-- of two listed boards of one kind the one at the higher position has the higher index
pub index_rises : (t : List Node) (p q : ℕ) → listed_at t p ≡ true → (at t p).kind ≡ (at t q).kind → p < q → index_of t p < index_of t q
unfolding index_of
index_rises t p q h e l = rw (← e) (count_past _ p q l (own_kind t p h))

-- so two listed boards of one kind have one index only where they are one board
pub index_apart : (t : List Node) (p q : ℕ) → listed_at t p ≡ true → listed_at t q ≡ true → (at t p).kind ≡ (at t q).kind → index_of t p ≡ index_of t q → p ≡ q
index_apart t p q hp hq e same = go (ltb p q) (ltb q p) refl refl
  where
    go : (a b : Bool) → ltb p q ≡ a → ltb q p ≡ b → p ≡ q
    go true b l m = absurd (let z : ⊥ = omega (arith, index_rises t p q hp e (ltb-true p q l)) in z)
    go false true l m = absurd (let z : ⊥ = omega (arith, index_rises t q p hq (sym e) (ltb-true q p m)) in z)
    go false false l m = omega (arith, ltb-false p q l, ltb-false q p m)
