-- The phases, and the numbers by which a lent record holds them.
use Rattle.std.specs.Prelude.{ℕ, true, false, eqb}
use Rattle.ground.specs.Choose.{choose}
use Rattle.coordinator.specs.declared.Exchange.TheVariants.{Offer, List as Listing, Forward, Return}
use Rattle.coordinator.specs.declared.Part.{Part}
use Rattle.coordinator.specs.declared.Part.TheVariants.{Search, IdentifyDue, Identify, Present, AssignDue, Assign}
use Rattle.coordinator.specs.declared.Phase.{Phase}
use Rattle.coordinator.specs.declared.Phase.TheVariants.{Resting, Awaiting, ForwardDue, ReturnDue, Seeking, Unknown}
use Rattle.coordinator.specs.declared.Stand.{Stand}

-- the phase that a number stands for, with the positions it names (house)
abbrev pub phase_at : ℕ → ℕ → ℕ → Phase
phase_at stage board requester =
    choose (eqb stage 0) Resting
    (choose (eqb stage 1) (Awaiting board Offer 0 false)
    (choose (eqb stage 2) (Awaiting board Listing 0 false)
    (choose (eqb stage 3) (Awaiting board Forward requester false)
    (choose (eqb stage 4) (Awaiting board Forward requester true)
    (choose (eqb stage 5) (Awaiting board Return 0 false)
    (choose (eqb stage 6) (ForwardDue board requester)
    (choose (eqb stage 7) (ReturnDue board)
    (choose (eqb stage 8) (Seeking board Search)
    (choose (eqb stage 9) (Seeking board IdentifyDue)
    (choose (eqb stage 10) (Seeking board Identify)
    (choose (eqb stage 11) (Seeking board Present)
    (choose (eqb stage 12) (Seeking board AssignDue)
    (choose (eqb stage 13) (Seeking board Assign) Unknown)))))))))))))

unfoldable pub phase_of : Stand → Phase
phase_of s = phase_at s.stage s.board s.requester

-- numbers by their names
abbrev pub stand : ℕ → ℕ → ℕ → Stand
stand stage board requester = record { stage = stage; board = board; requester = requester }

-- the numbers of the parts of the exchange by which a board joins, after those of the other phases (house)
abbrev pub stage_of : Part → ℕ
stage_of Search = 8
stage_of IdentifyDue = 9
stage_of Identify = 10
stage_of Present = 11
stage_of AssignDue = 12
stage_of Assign = 13

-- the numbers of a phase; a position that a phase does not name is 0 (house)
unfoldable pub stand_of : Phase → Stand
stand_of Resting = stand 0 0 0
stand_of (Awaiting board Offer requester acked) = stand 1 board 0
stand_of (Awaiting board Listing requester acked) = stand 2 board 0
stand_of (Awaiting board Forward requester false) = stand 3 board requester
stand_of (Awaiting board Forward requester true) = stand 4 board requester
stand_of (Awaiting board Return requester acked) = stand 5 board 0
stand_of (ForwardDue board requester) = stand 6 board requester
stand_of (ReturnDue board) = stand 7 board 0
stand_of (Seeking position part) = stand (stage_of part) position 0
stand_of Unknown = stand 14 0 0
