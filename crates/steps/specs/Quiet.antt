-- Quiet (01, "Quiet").
use Rattle.std.specs.Prelude.{ℕ, Bool, false, not, List, [], ◌∷◌, ltb}
use Rattle.ground.specs.Choose.{choose}
use Rattle.refusal.specs.Refusal.{ruled}
use Rattle.refusal.specs.declared.Refusal.{Refusal}
use Rattle.refusal.specs.declared.Refusal.TheVariants.{StateUnfit, NotWaiting}
use Rattle.board.specs.declared.Node.{Node}
use Rattle.board.specs.Node.{none}
use Rattle.board.specs.Table.{at, put}
use Rattle.board.specs.Wanted.{some_listed}
use Rattle.board.specs.Change.{missed, relisted}
use Rattle.coordinator.specs.declared.Coordinator.{Coordinator}
use Rattle.coordinator.specs.declared.Phase.{Phase}
use Rattle.coordinator.specs.declared.Phase.TheVariants.{Resting, Awaiting, ForwardDue, ReturnDue, Seeking, Unknown}
use Rattle.coordinator.specs.Phase.{phase_of}
use Rattle.coordinator.specs.Fit.{fits}
use Rattle.coordinator.specs.Change.{with_phase, holding}
use Rattle.steps.specs.After.{After, refused, accepted, rests}
use Rattle.steps.specs.Seek.{quiet_in_seek}
use Rattle.steps.specs.Turn.{is_awaiting}

-- joins are held no more where nobody is listed (01, "Join": "until an offer is made or nobody is listed")
abbrev pub still_held : Coordinator → List Node → Coordinator
still_held c t = choose (some_listed t) c (holding c false)

-- the third miss drops the board: record cleared, list owed to all who remain (01, "Quiet"), and their indexes counted anew (02, C-13)
abbrev pub dropped_at : Coordinator → List Node → ℕ → After
dropped_at c t board =
    record {
      coordinator = still_held (with_phase c Resting) (put t board none);
      nodes = relisted (put t board none);
      says = rests;
      bytes = [];
      joined = 0;
      dropped = board;
    }

-- the board has one miss more; the third drops it (01, "Quiet")
abbrev pub missed_at : Coordinator → List Node → ℕ → After
missed_at c t board =
    choose (ltb (at t board).misses 2)
    (accepted (with_phase c Resting) (put t board (missed (at t board))) rests [])
    (dropped_at c t board)

-- what quiet does in a wait: no miss where the ACK came but no response; the exchange ends (01, "Quiet")
abbrev pub quiet_value : Phase → Coordinator → List Node → After
quiet_value Resting c t = refused c t NotWaiting
quiet_value (Awaiting board exchange requester acked) c t = choose acked (accepted (with_phase c Resting) t rests []) (missed_at c t board)
quiet_value (ForwardDue board requester) c t = refused c t NotWaiting
quiet_value (ReturnDue board) c t = refused c t NotWaiting
quiet_value (Seeking position part) c t = quiet_in_seek part position c t
quiet_value Unknown c t = refused c t NotWaiting

-- quiet is refused 22, then 20 without a wait (01, "Numbers")
abbrev pub quiet_rules : Phase → Coordinator → List Node → List (Bool × Refusal)
quiet_rules phase c t = (not (fits c t), StateUnfit) ∷ (not (is_awaiting phase), NotWaiting) ∷ []

unfoldable pub quiet_in : Phase → Coordinator → List Node → After
quiet_in phase c t = ruled (quiet_rules phase c t) (refused c t) (quiet_value phase c t)

abbrev pub quiet_of : Coordinator → List Node → After
quiet_of c t = quiet_in (phase_of c.stand) c t
