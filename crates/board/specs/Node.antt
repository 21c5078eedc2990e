-- One board's record (01, "Boards and positions").
use Rattle.std.specs.Prelude.{ℕ, ◌^◌, Bool, ◌&&◌, ◌||◌, not, eqb, leb, ltb}
use Rattle.ground.specs.Choose.{choose}
use Rattle.board.specs.declared.Node.{Node}

-- an unlisted record is all zeros (01, "Boards and positions")
abbrev pub none : Node
none = record { kind = 0; mac = 0; session = 0; misses = 0; owed = 0; index = 0; version = 0 }

-- a record is listed where its type is not 0 (01, "An unlisted record has type 0")
abbrev pub is_listed : Node → Bool
is_listed n = not (eqb n.kind 0)

-- all zeros
abbrev pub is_blank : Node → Bool
is_blank n = eqb n.kind 0 && eqb n.mac 0 && eqb n.session 0 && eqb n.misses 0 && eqb n.owed 0 && eqb n.index 0 && eqb n.version 0

-- a MAC is a number from 1 to 2^56 - 1 (001, 6.1)
abbrev pub is_mac : ℕ → Bool
is_mac m = ltb 0 m && ltb m (2 ^ 56)

-- a board's type is neither 0 nor the coordinator's 165
abbrev pub is_kind : ℕ → Bool
is_kind k = not (eqb k 0) && not (eqb k 165)

-- a 1.0 board (02, C-15)
abbrev pub is_old : ℕ → Bool
is_old version = eqb version 1

-- the version of a record by the one that a join gives: 1 is 1.0, and every other counts as 2 (02, C-15; 003, 4.3)
abbrev pub version_of : ℕ → ℕ
version_of version = choose (is_old version) 1 2

-- a record's version is 1 or 2 (02, C-15)
abbrev pub is_version : ℕ → Bool
is_version version = is_old version || eqb version 2

-- a listed record within its ranges: type, MAC, misses 0 to 2, the mark 0 or 1, version 1 or 2
abbrev pub in_range : Node → Bool
in_range n = is_kind n.kind && is_mac n.mac && leb n.misses 2 && leb n.owed 1 && is_version n.version
