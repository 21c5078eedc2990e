-- Discover: boards without an address are looked for (02, C-11; 000, 11.11, step 1; 003, 6.6).
use Rattle.std.specs.Prelude.{ℕ, Bool, ◌&&◌, ◌||◌, not, List, [], ◌∷◌, eqb, ltb}
use Rattle.refusal.specs.Refusal.{ruled}
use Rattle.refusal.specs.declared.Refusal.{Refusal}
use Rattle.refusal.specs.declared.Refusal.TheVariants.{StateUnfit, Busy, Held, Full, NoRoom}
use Rattle.frame.specs.Frame.{frame_of}
use Rattle.board.specs.declared.Node.{Node}
use Rattle.board.specs.declared.Wanted.TheVariants.{Free}
use Rattle.board.specs.Wanted.{lowest_of, some_listed}
use Rattle.message.specs.Message.{discovery_header, every_kind}
use Rattle.coordinator.specs.declared.Coordinator.{Coordinator}
use Rattle.coordinator.specs.Fit.{fits}
use Rattle.coordinator.specs.Change.{searching}
use Rattle.steps.specs.declared.Seek.TheVariants.{Search as ToSearch}
use Rattle.steps.specs.After.{After, refused, accepted, seeks}
use Rattle.steps.specs.Join.{is_busy}

-- the position whose address is at stake in search: the lowest free one, 0 where there is none (02, C-11)
abbrev pub free_place : Coordinator → List Node → ℕ
free_place c t = lowest_of t Free c.setup.k

-- joins are held; or a discovery was started since the last offer, and someone is listed (02, C-11: "while anyone is listed at most once between two offers")
abbrev pub is_held_back : Coordinator → List Node → Bool
is_held_back c t = eqb c.held 1 || (eqb c.searched 1 && some_listed t)

-- when a discovery is refused: 22, then as the join of a new MAC would be, 14, 15, 16, then 11; its frame takes 13 bytes (02, C-11: "Discovery starts only where a new MAC would be taken")
abbrev pub discover_rules : Coordinator → List Node → ℕ → List (Bool × Refusal)
discover_rules c t room =
    (not (fits c t), StateUnfit) ∷
    (is_busy c t, Busy) ∷ (is_held_back c t, Held) ∷ (eqb (free_place c t) 0, Full) ∷ (ltb room 13, NoRoom) ∷ []

-- else Node Discovery is written, and the panel waits for whoever has no address (02, C-11)
abbrev pub searched : Coordinator → List Node → After
searched c t = accepted (searching c (free_place c t)) t (seeks (free_place c t) ToSearch) (frame_of discovery_header every_kind)

unfoldable pub discover_of : Coordinator → List Node → ℕ → After
discover_of c t room = ruled (discover_rules c t room) (refused c t) (searched c t)
