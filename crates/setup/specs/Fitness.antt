-- What fit means, as plain facts (01, "Fit"). The tests of Setup.antt and Fit.antt decide them: proofs/Pools.antt and proofs/Tables.antt.
use Rattle.std.specs.Prelude.{ℕ, ◌≤◌, ◌<◌, ◌^◌, ◌≡◌, ◌⊎◌, List, get_or, length}
use Rattle.board.specs.declared.Node.{Node}
use Rattle.board.specs.Node.{none}
use Rattle.board.specs.Table.{at}
use Rattle.board.specs.Index.{Numbered}
use Rattle.board.specs.Types.{FewTypes}
use Rattle.setup.specs.declared.Setup.{Setup}

-- the first k of a list are a pool (01, "a pool of k addresses, k from 1 to 40, strictly rising, each 1 to 254")
pub record Pool (k : ℕ) (addresses : List ℕ) : Type 0 where
  pub from : 1 ≤ k
  pub up_to : k ≤ 40
  pub rising : (i j : ℕ) → i < j → j < k → get_or addresses i 0 < get_or addresses j 0
  pub low : (i : ℕ) → i < k → 1 ≤ get_or addresses i 0
  pub high : (i : ℕ) → i < k → get_or addresses i 0 ≤ 254

-- a MAC is a number from 1 to 2^56 - 1 (001, 6.1)
pub record Mac (m : ℕ) : Type 0 where
  pub from : 1 ≤ m
  pub below : m < 2 ^ 56

-- pool and own MAC as the rules say (01, "Fit")
pub record FitSetup (s : Setup) : Type 0 where
  pub pool : Pool s.k s.pool
  pub mac : Mac s.mac

-- p is one of the positions 1 to k (01, "Position i, from 1 to k")
pub record Position (k p : ℕ) : Type 0 where
  pub from : 1 ≤ p
  pub up_to : p ≤ k

-- a board is listed at position p (01, "An unlisted record has type 0")
abbrev pub Listed : List Node → ℕ → Type 0
Listed t p = (at t p).kind ≡ 0 → ⊥

-- the ranges of a listed record (01, "Boards and positions"): a type that is neither 0 nor 165, a MAC, misses 0 to 2, the mark 0 or 1; version 1 or 2 (02, C-15)
pub record InRanges (n : Node) : Type 0 where
  pub listed : n.kind ≡ 0 → ⊥
  pub kind : n.kind ≡ 165 → ⊥
  pub mac : Mac n.mac
  pub misses : n.misses ≤ 2
  pub owed : n.owed ≤ 1
  pub version : (n.version ≡ 1) ⊎ (n.version ≡ 2)

-- the boards of the table are fit among k positions (01, "Fit": "forty records, listed records within 1 to k and the ranges, with different MACs, others all zeros")
pub record FitBoards (k : ℕ) (t : List Node) : Type 0 where
  pub forty : length t ≡ 40
  pub within : (p : ℕ) → Listed t p → Position k p
  pub ranges : (p : ℕ) → Listed t p → InRanges (at t p)
  pub apart : (p q : ℕ) → Listed t p → Listed t q → (p ≡ q → ⊥) → (at t p).mac ≡ (at t q).mac → ⊥
  pub blank : (p : ℕ) → (at t p).kind ≡ 0 → at t p ≡ none

-- and the table is fit where their stored indexes are the counted ones too (02, C-13: "A lent table with another index is not fit"), and the rule on the types is kept (02, C-15)
pub record FitTable (k : ℕ) (t : List Node) : Type 0 where
  pub boards : FitBoards k t
  pub numbered : Numbered t
  pub types : FewTypes t
