-- Join (01, "Join").
use Rattle.std.specs.Prelude.{ℕ, Bool, true, false, ◌||◌, not, List, [], ◌∷◌, eqb, ltb}
use Rattle.ground.specs.Choose.{choose}
use Rattle.refusal.specs.Refusal.{ruled}
use Rattle.refusal.specs.declared.Refusal.{Refusal}
use Rattle.refusal.specs.declared.Refusal.TheVariants.{StateUnfit, BadType, BadMac, Busy, Held, TooManyTypes, Full}
use Rattle.board.specs.declared.Node.{Node}
use Rattle.board.specs.declared.Wanted.TheVariants.{Owed, Mac, Free}
use Rattle.board.specs.Node.{none, is_kind, is_mac, version_of}
use Rattle.board.specs.Table.{put}
use Rattle.board.specs.Columns.{kinds_of, versions_of}
use Rattle.board.specs.Types.{too_many_types}
use Rattle.board.specs.Wanted.{lowest_of}
use Rattle.board.specs.Change.{joined_node, relisted}
use Rattle.coordinator.specs.declared.Coordinator.{Coordinator}
use Rattle.coordinator.specs.declared.Phase.{Phase}
use Rattle.coordinator.specs.declared.Phase.TheVariants.{Resting, Awaiting, ForwardDue, ReturnDue, Seeking, Unknown}
use Rattle.coordinator.specs.Phase.{phase_of}
use Rattle.coordinator.specs.Fit.{fits}
use Rattle.coordinator.specs.Change.{holding}
use Rattle.steps.specs.After.{After, refused, rests}

-- no wait, no forward or return due, no exchange by which a board joins (02, C-11: "While an exchange runs any other join gets 14")
abbrev pub is_resting : Phase → Bool
is_resting Resting = true
is_resting (Awaiting board exchange requester acked) = false
is_resting (ForwardDue board requester) = false
is_resting (ReturnDue board) = false
is_resting (Seeking position part) = false
is_resting Unknown = false

-- the position of a listed MAC, 0 for a new one
abbrev pub known : List Node → ℕ → ℕ → ℕ
known t k mac = lowest_of t (Mac mac) k

-- a listed MAC has its address again; a new MAC gets the lowest free position, 0 where there is none (01, "Join")
abbrev pub chosen : List Node → ℕ → ℕ → ℕ
chosen t k mac = choose (ltb 0 (known t k mac)) (known t k mac) (lowest_of t Free k)

-- a wait, a forward, return or list due, or an exchange by which a board joins (01, number 14; 02, C-11)
abbrev pub is_busy : Coordinator → List Node → Bool
is_busy c t = not (is_resting (phase_of c.stand)) || ltb 0 (lowest_of t Owed c.setup.k)

-- the joiner, as the join gives it, among the other listed boards: its own record, at position own, is left out, and whether there is room does not matter. A 1.0 board is listed with more than 15 types (02, C-15)
abbrev pub too_many_with : List Node → ℕ → ℕ → ℕ → Bool
too_many_with t own kind version = too_many_types (kind ∷ kinds_of (put t own none)) (version_of version ∷ versions_of (put t own none))

-- when a join is refused: 22, then 12 to 15, 25 and 16 (01, "Numbers" and "Order"; 02, C-15 and C-23)
abbrev pub join_rules : Coordinator → List Node → ℕ → ℕ → ℕ → List (Bool × Refusal)
join_rules c t kind mac version =
    (not (fits c t), StateUnfit) ∷
    (not (is_kind kind), BadType) ∷
    (not (is_mac mac), BadMac) ∷
    (is_busy c t, Busy) ∷
    (eqb c.held 1, Held) ∷
    (too_many_with t (known t c.setup.k mac) kind version, TooManyTypes) ∷
    (eqb (chosen t c.setup.k mac) 0, Full) ∷ []

-- its record is that of its last join, its type and version too, whether it was listed or not (02, C-12 and C-15); either way every index is counted anew (02, C-13), the list is owed to every listed board, and further joins are held (01, "Join")
abbrev pub joined_as : Coordinator → List Node → ℕ → ℕ → ℕ → ℕ → After
joined_as c t kind mac session version =
    record {
      coordinator = holding c true;
      nodes = relisted (put t (chosen t c.setup.k mac) (joined_node kind mac session version));
      says = rests;
      bytes = [];
      joined = chosen t c.setup.k mac;
      dropped = 0;
    }

unfoldable pub join_of : Coordinator → List Node → ℕ → ℕ → ℕ → ℕ → After
join_of c t kind mac session version = ruled (join_rules c t kind mac version) (refused c t) (joined_as c t kind mac session version)
