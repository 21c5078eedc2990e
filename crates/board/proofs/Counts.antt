-- How many positions are wanted, and how a change of the table changes that.
use Prim.Native.Nat.{ℕ, ◌+◌, ◌≤◌}
use native.Mathlib.Omega.{arith}
use mathlib.Core.Path.{◌≡◌, refl, ap, ◌∙◌}
use mathlib.Core.Bool.{Bool, true, false}
use mathlib.Core.List.{List}
use lib.Dec.{eqb, leb, ltb}
use lib.ListN.{length}
use borrow.Author.Tests.{ltb-true, ltb-false, leb-true, leb-false}
use Rattle.ground.specs.Below.{one, count}
use Rattle.ground.proofs.Choices.{and_left}
use Rattle.ground.proofs.Loops.{one_le, count_same, count_past}
use Rattle.ground.proofs.Counts.{count_change, count_less, count_some}
use Rattle.board.specs.declared.Node.{Node}
use Rattle.board.specs.declared.Wanted.{Wanted}
use Rattle.board.specs.declared.Wanted.TheVariants.{Listed, Owed}
use Rattle.board.specs.Table.{at, put, listed_at}
use Rattle.board.specs.Wanted.{wants, wanted_at, count_of, some_listed}
use Rattle.board.specs.Change.{owe_all}
use Rattle.board.proofs.Positions.{put_zero, put_past, listed_within}
use Rattle.board.proofs.Changes.{at_put, at_put_other, owe_all_listed}

-- a record put at a position changes the count as it differs from the one that was there
pub count_put : (w : Wanted) (t : List Node) (p : ℕ) (n : Node) → length t ≡ 40 → 1 ≤ p → p ≤ 40 → count_of w (put t p n) + one (wants w (at t p)) ≡ count_of w t + one (wants w n)
unfolding count_of
count_put w t p n e h l = count_change (wanted_at w (put t p n)) (wanted_at w t) 41 p (omega arith) (λ i ne. ap (wants w) (at_put_other t p i n ne)) ∙ ap (λ (m : Node). count (wanted_at w t) 41 + one (wants w m)) (at_put t p n h (omega arith))

-- the same boards listed are as many
pub count_listed : (t u : List Node) → ((p : ℕ) → listed_at t p ≡ listed_at u p) → count_of Listed t ≡ count_of Listed u
unfolding count_of
count_listed t u h = count_same (listed_at t) (listed_at u) 41 (λ p l. h p)

pub count_owe_all : (t : List Node) → count_of Listed (owe_all t) ≡ count_of Listed t
count_owe_all t = count_listed (owe_all t) t (owe_all_listed t)

-- the list is owed to listed boards only
pub owed_listed : (t : List Node) → count_of Owed t ≤ count_of Listed t
unfolding count_of
owed_listed t = count_less (wanted_at Owed t) (listed_at t) 41 (λ p h. and_left (listed_at t p) (eqb (at t p).owed 1) h)

-- a listed board counts, and where one counts somebody is listed
pub listed_counts : (t : List Node) (p : ℕ) → length t ≡ 40 → listed_at t p ≡ true → 1 ≤ count_of Listed t
unfolding count_of
listed_counts t p e h = omega (arith, count_past (listed_at t) p 41 (omega (arith, (listed_within t p e h).1)) h)

pub counted_listed : (t : List Node) → 1 ≤ count_of Listed t → some_listed t ≡ true
unfolding count_of some_listed
counted_listed t h = count_some (listed_at t) 41 h

-- a record that is wanted as much as the one that was there keeps the count
pub count_kept : (w : Wanted) (t : List Node) (p : ℕ) (n : Node) → length t ≡ 40 → 1 ≤ p → p ≤ 40 → wants w n ≡ wants w (at t p) → count_of w (put t p n) ≡ count_of w t
count_kept w t p n e h l same = omega (arith, count_put w t p n e h l, ap one same)

-- whatever is put, at most one more is wanted
pub count_put_most : (w : Wanted) (t : List Node) (p : ℕ) (n : Node) → length t ≡ 40 → count_of w (put t p n) ≤ count_of w t + 1
count_put_most w t p n e = go (ltb 0 p) refl (leb p 40) refl
  where
    go : (a : Bool) → ltb 0 p ≡ a → (b : Bool) → leb p 40 ≡ b → count_of w (put t p n) ≤ count_of w t + 1
    go false a b l = omega (arith, ap (count_of w) (put_zero t p n (ltb-false 0 p a)))
    go true a false l = omega (arith, ap (count_of w) (put_past t p n 40 e (leb-false p 40 l)))
    go true a true l = omega (arith, count_put w t p n e (ltb-true 0 p a) (leb-true p 40 l), one_le (wants w n))
