-- The parts of the step: what its functions give, by what was seen.
use Rattle.std.specs.Prelude.{ℕ, ◌≡◌, Bool, true, ◌||◌, not, List, [], drop, ltb, Result}
use Rattle.ground.specs.Choose.{choose}
use Rattle.refusal.specs.Refusal.{ruled, refuses, gives}
use Rattle.board.specs.declared.Node.{Node}
use Rattle.board.specs.declared.Wanted.TheVariants.{Free}
use Rattle.board.specs.Node.{is_mac}
use Rattle.board.specs.Wanted.{lowest_of}
use Rattle.board.specs.Columns.{typed}
use Rattle.refusal.specs.declared.Refusal.{Refusal}
use Rattle.setup.specs.Setup.{told_of}
use Rattle.coordinator.specs.declared.State.{State}
use Rattle.coordinator.specs.declared.Coordinator.{Coordinator}
use Rattle.coordinator.specs.Phase.{phase_of}
use Rattle.look.specs.declared.Seen.{Seen}
use Rattle.look.specs.Seen.{Saw}
use Rattle.steps.specs.Join.{is_resting, known, chosen, too_many_with, join_rules}

-- a wait, a forward, return or list due, or an exchange by which a board joins, by the state and the lowest position owed the list (01, number 14; 02, C-11)
abbrev pub busy_in : State → ℕ → Bool
busy_in s owed = not (is_resting (phase_of s.stand)) || ltb 0 owed

-- the position for a MAC, by its own and the types: its own, or the lowest free one (01, "Join")
abbrev pub chosen_in : List ℕ → ℕ → ℕ → ℕ
chosen_in kinds own k = choose (ltb 0 own) own (lowest_of (typed kinds) Free k)

-- a verdict is that of the rules on a join past the first, for whatever fit coordinator and records this was seen of, where the position is that for the MAC, and many says that there would be too many types (01, "Order"; 02, C-15)
abbrev pub Judges : Seen → ℕ → ℕ → ℕ → Bool → ℕ → Result (Unit {0}) Refusal → Type 0
Judges s kind mac version many position r =
    (c : Coordinator) (t : List Node) → Saw s c t → (is_mac mac ≡ true → many ≡ too_many_with t (known t c.setup.k mac) kind version) → (is_mac mac ≡ true → position ≡ chosen t c.setup.k mac)
    → told_of r ≡ ruled (drop 1 (join_rules c t kind mac version)) refuses (gives [])
