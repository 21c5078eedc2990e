-- `board::index_of` meets its contract: counted below a listed position, and 0 where nobody is listed.
use Rattle.std.proofs.Common.{◌≡◌, ℕ, ◌<◌, ◌≤◌, true, false, nat_eq, List, sym, arith}
use Rattle.std.proofs.lemmas.Bool.{not-false}
use borrow.Author.Tests.{eqb-true}
use Rattle.board.specs.Wanted.{index_of}
use Rattle.board.specs.declared.Node.{Node}
use Rattle.board.specs.Table.{at, listed_at}
use Rattle.board.specs.Columns.{typed}
use Rattle.board.proofs.Positions.{listed_within}
use Rattle.board.proofs.Index.{index_nobody}
use Rattle.board.proofs.Column.{typed_length, index_here}
use Rattle.board.proofs.index_of.Goals as goal

nobody : (t : List Node) (p : ℕ) → false ≡ listed_at t p → 0 ≡ index_of t p
nobody t p h = index_nobody t p (eqb-true (at t p).kind 0 (not-false (nat_eq (at t p).kind 0) (sym h)))

within : (kinds : List ℕ) (p : ℕ) → true ≡ listed_at (typed kinds) p → (0 < p) × (p ≤ 40)
within kinds p h = listed_within (typed kinds) p (typed_length kinds) (sym h)

pub returns-then-not-listed_at : goal.returns-then-not-listed_at
returns-then-not-listed_at c = nobody _ _ c.if-not-listed_at.ensures

pub overflow_sub-position : goal.overflow_sub-position
overflow_sub-position c = (within _ _ c.if-not-listed_at.ensures).0

pub bounds-kinds-position : goal.bounds-kinds-position
bounds-kinds-position c = omega (arith, within _ _ c.if-not-listed_at.ensures)

pub kind_below-requires : goal.kind_below-requires
kind_below-requires c = within _ _ c.if-not-listed_at.ensures

pub returns : goal.returns
returns c = let h = within c.args.kinds.now c.args.position c.if-not-listed_at.ensures in index_here _ _ _ c.kind_below.ensures h.0 h.1
