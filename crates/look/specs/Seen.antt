-- What a step sees of coordinator and records, and when that is fit (01, "Fit"); it decides by this alone (house).
use Rattle.std.specs.Prelude.{ℕ, min, ◌≡◌, Bool, true, ◌&&◌, ◌||◌, not, List, length, eqb, leb, ltb}
use Rattle.ground.specs.Below.{all}
use Rattle.board.specs.declared.Node.{Node}
use Rattle.board.specs.declared.Columns.{Columns}
use Rattle.board.specs.declared.Wanted.TheVariants.{Owed}
use Rattle.board.specs.Wanted.{highest_listed, lowest_of}
use Rattle.board.specs.Columns.{kinds_of, stored_indexes, versions_of, macs_of, typed, forty}
use Rattle.board.specs.Types.{too_many_types}
use Rattle.setup.specs.Setup.{setup_fits}
use Rattle.setup.specs.Fit.{board_fits, records_fit}
use Rattle.coordinator.specs.declared.Coordinator.{Coordinator}
use Rattle.coordinator.specs.Phase.{phase_of}
use Rattle.coordinator.specs.Fit.{phase_fits, seek_fits, fits}
use Rattle.coordinator.specs.State.{state_of, bare}
use Rattle.look.specs.declared.Seen.{Seen}

-- coordinator and records are fit, as far as it can be seen: the test of 01, "Fit", over the columns; no MAC is above the highest listed position, and no index; and the rule on the types (02, C-15)
unfoldable pub fits_seen : Seen → Columns → Bool
fits_seen s columns =
    setup_fits s.setup &&
    ((s.ok && (all (board_fits columns.kinds columns.indexes columns.macs) (min s.top 40) && not (too_many_types (forty columns.kinds) (forty columns.versions)))) &&
    (phase_fits (phase_of s.state.stand) (typed columns.kinds) (bare s.state.head) &&
    (seek_fits (phase_of s.state.stand) s.setup.k s.state.found &&
    (leb s.state.searched 1 && ((eqb s.state.held 0 || (eqb s.state.held 1 && ltb 0 s.top)) && leb s.state.last s.setup.k)))))

-- the columns are those of the records, and the highest listed position and the lowest that is owed the list are theirs
pub record Columned (s : Seen) (columns : Columns) (t : List Node) : Type 0 where
  pub kinds : columns.kinds ≡ kinds_of t
  pub indexes : columns.indexes ≡ stored_indexes t
  pub versions : columns.versions ≡ versions_of t
  pub macs : columns.macs ≡ macs_of t
  pub top : s.top ≡ highest_listed t
  pub owed : s.owed ≡ lowest_of t Owed 40

-- this was seen of a coordinator and forty records; of records that are not fit the columns need not be told
pub record Sees (s : Seen) (columns : Columns) (c : Coordinator) (t : List Node) : Type 0 where
  pub forty : length t ≡ 40
  pub setup : s.setup ≡ c.setup
  pub state : s.state ≡ state_of c
  pub each : s.ok ≡ records_fit c.setup.k t
  pub columned : s.ok ≡ true → Columned s columns t

-- this was seen of a coordinator and records that are fit
pub record Saw (s : Seen) (c : Coordinator) (t : List Node) : Type 0 where
  pub fit : fits c t ≡ true
  pub setup : s.setup ≡ c.setup
  pub state : s.state ≡ state_of c
  pub top : s.top ≡ highest_listed t
  pub owed : s.owed ≡ lowest_of t Owed c.setup.k

-- and these are the columns of the records: of their types, of their stored indexes, of their versions
abbrev pub OfTypes : List ℕ → Coordinator → List Node → Type 0
OfTypes kinds c t = kinds ≡ kinds_of t

abbrev pub OfIndexes : List ℕ → Coordinator → List Node → Type 0
OfIndexes indexes c t = indexes ≡ stored_indexes t

abbrev pub OfVersions : List ℕ → Coordinator → List Node → Type 0
OfVersions versions c t = versions ≡ versions_of t

-- by which a transmission is written: types, stored indexes and versions
abbrev pub OfSent : Columns → Coordinator → List Node → Type 0
OfSent s c t = OfTypes s.kinds c t × OfIndexes s.indexes c t × OfVersions s.versions c t

-- by which it is told who may join, and what a frame is: types, versions and MACs
abbrev pub OfBoards : Columns → Coordinator → List Node → Type 0
OfBoards s c t = (s.kinds ≡ kinds_of t) × (s.versions ≡ versions_of t) × (s.macs ≡ macs_of t)

-- all four
abbrev pub OfColumns : Columns → Coordinator → List Node → Type 0
OfColumns s c t = (s.kinds ≡ kinds_of t) × (s.indexes ≡ stored_indexes t) × (s.versions ≡ versions_of t) × (s.macs ≡ macs_of t)
