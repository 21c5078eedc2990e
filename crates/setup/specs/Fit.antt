-- The part of "fit" that speaks of the table (01, "Fit"). Index i, from 0, is position i + 1.
use Rattle.std.specs.Prelude.{ℕ, ◌+◌, Bool, ◌&&◌, ◌||◌, not, List, get_or, set, length, eqb, ltb}
use Rattle.ground.specs.Choose.{choose}
use Rattle.ground.specs.Below.{all}
use Rattle.board.specs.declared.Node.{Node}
use Rattle.board.specs.Node.{none, is_blank, in_range}
use Rattle.board.specs.Wanted.{index_of}
use Rattle.board.specs.Columns.{kinds_of, macs_of, stored_indexes, versions_of, typed}
use Rattle.board.specs.Types.{too_many_types}

-- a record is listed within 1 to k and its ranges, or all zeros (01, "listed records within 1 to k and the ranges, others all zeros")
unfoldable pub record_fits : ℕ → ℕ → Node → Bool
record_fits k i n = ltb i k && in_range n || is_blank n

-- so is each of the forty
abbrev pub records_fit : ℕ → List Node → Bool
records_fit k t = all (λ i. record_fits k i (get_or t i none)) 40

-- the i-th MAC is 0, which is nobody's, or differs from each before it
abbrev pub apart_from : List ℕ → ℕ → Bool
apart_from macs i = all (λ j. eqb (get_or macs i 0) 0 || not (eqb (get_or macs i 0) (get_or macs j 0))) i

-- no MAC but 0 stands twice: each pair is compared once (01, "with different MACs")
unfoldable pub are_apart : List ℕ → Bool
are_apart macs = all (apart_from macs) (length macs)

-- the i-th of these indexes is the one that is counted in the table (02, C-13)
abbrev pub numbered_at : List ℕ → List Node → ℕ → Bool
numbered_at indexes t i = eqb (get_or indexes i 0) (index_of t (i + 1))

-- every stored index is the counted one (02, C-13: "A lent table with another index is not fit")
unfoldable pub are_numbered : List Node → Bool
are_numbered t = all (numbered_at (stored_indexes t) t) 40

-- the i-th board has a MAC of its own, and its index is the counted one, over columns of types, indexes and MACs (house)
abbrev pub board_fits : List ℕ → List ℕ → List ℕ → ℕ → Bool
board_fits kinds indexes macs i = apart_from macs i && numbered_at indexes (typed kinds) i

-- a tally of types with one more of this type; 0 is nobody's (house)
abbrev pub tallied_one : List ℕ → ℕ → List ℕ
tallied_one tally kind = choose (eqb kind 0) tally (set tally kind (get_or tally kind 0 + 1))

-- forty records, listed ones within 1 to k and the ranges, with different MACs, others all zeros (01, "Fit"), their indexes as they are counted (02, C-13), and the rule on the types (02, C-15: "Fit now includes the rule on 15 types")
unfoldable pub table_fits : ℕ → List Node → Bool
table_fits k t = records_fit k t && (are_apart (macs_of t) && are_numbered t && not (too_many_types (kinds_of t) (versions_of t)))
