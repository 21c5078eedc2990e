-- What a step asks of all records is asked of their columns: the types, the stored indexes, the versions, the MACs of positions 1 to 40 (01, "Boards and positions").
use Rattle.std.specs.Prelude.{ℕ, ◌-◌, min, ◌&&◌, List, ◌∷◌, map, get_or, set, eqb, leb, ltb}
use Rattle.ground.specs.Choose.{choose}
use Rattle.ground.specs.Below.{up_from, first_or}
use Rattle.board.specs.declared.Node.{Node}

-- the types of the records
abbrev pub kind_of : Node → ℕ
kind_of n = n.kind

abbrev pub kinds_of : List Node → List ℕ
kinds_of t = map kind_of t

-- their stored indexes
abbrev pub stored_index : Node → ℕ
stored_index n = n.index

abbrev pub stored_indexes : List Node → List ℕ
stored_indexes t = map stored_index t

-- their versions
abbrev pub stored_version : Node → ℕ
stored_version n = n.version

abbrev pub versions_of : List Node → List ℕ
versions_of t = map stored_version t

-- their MACs
abbrev pub mac_of : Node → ℕ
mac_of n = n.mac

abbrev pub macs_of : List Node → List ℕ
macs_of t = map mac_of t

-- what a column holds at position p; 0 at position 0 and past its end
unfoldable pub in_column : List ℕ → ℕ → ℕ
in_column column p = get_or (0 ∷ column) p 0

-- what a column of forty holds at position p
unfoldable pub column_at : List ℕ → ℕ → ℕ
column_at column p = choose (leb p 40) (in_column column p) 0

-- the first forty of a column, 0 past its end (house)
unfoldable pub forty : List ℕ → List ℕ
forty column = map (λ i. get_or column i 0) (up_from 0 40)

-- a column of forty with another value at position p; as it was where p is 0 or past the forty (house)
abbrev pub column_with : List ℕ → ℕ → ℕ → List ℕ
column_with column p value = choose (ltb 0 p && leb p 40) (set column (p - 1) value) column

-- a record of which the type is known, and nothing else
abbrev pub typed_as : ℕ → Node
typed_as kind = record { kind = kind; mac = 0; session = 0; misses = 0; owed = 0; index = 0; version = 0 }

-- the forty records of a column of types
unfoldable pub typed : List ℕ → List Node
typed kinds = map (λ p. typed_as (in_column kinds p)) (up_from 1 40)

-- the lowest position from 1 to the limit at which a column holds a value, 0 for none
unfoldable pub lowest_in : List ℕ → ℕ → ℕ → ℕ
lowest_in column value limit = first_or 0 (λ p. eqb (in_column column p) value) (up_from 1 (min limit 40))
