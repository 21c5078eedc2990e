-- Going round the positions (01, "Turn": "the first listed position after the last one offered, going round from k to 1").
use Rattle.std.specs.Prelude.{ℕ, zero, suc, ◌+◌, ◌-◌, min, List, ◌++◌, ltb}
use Rattle.ground.specs.Choose.{choose}
use Rattle.ground.specs.Below.{up_from, first_or}
use Rattle.board.specs.declared.Node.{Node}
use Rattle.board.specs.Table.{listed_at}

-- the positions after a, going round from k to 1: a + 1 to k, then 1 to a
unfoldable pub round : ℕ → ℕ → List ℕ
round k a = up_from (a + 1) (k - a) ++ up_from 1 (min a k)

-- the first listed position after a, going round from k to 1, with k at most forty; 0 where nobody is listed (01, "Turn")
unfoldable pub next_listed : List Node → ℕ → ℕ → ℕ
next_listed t k a = first_or 0 (listed_at t) (round (min k 40) a)

-- how far position p is after a, going round from k to 1
unfoldable pub distance : ℕ → ℕ → ℕ → ℕ
distance k a p = choose (ltb a p) (p - a) (k - a + p)

-- the position that is reached from a by n steps to the next listed position
unfoldable pub reached : List Node → ℕ → ℕ → ℕ → ℕ
reached t k zero a = a
reached t k (suc n) a = reached t k n (next_listed t k a)
