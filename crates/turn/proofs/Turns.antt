-- What a turn of fit coordinator and records is, by the tests in their order.
use Prim.Native.Nat.{ℕ}
use mathlib.Core.Path.{◌≡◌, refl}
use mathlib.Core.Bool.{Bool, true, false, ◌&&◌, not}
use mathlib.Core.List.{List}
use Rattle.ground.specs.Choose.{choose}
use Rattle.refusal.specs.declared.Refusal.TheVariants.{AwaitingReply, NobodyListed}
use Rattle.board.specs.declared.Node.{Node}
use Rattle.board.specs.Wanted.{some_listed}
use Rattle.coordinator.specs.declared.Coordinator.{Coordinator}
use Rattle.coordinator.specs.declared.Phase.{Phase}
use Rattle.coordinator.specs.Phase.{phase_of}
use Rattle.coordinator.specs.Fit.{fits}
use Rattle.steps.specs.After.{refused}
use Rattle.steps.specs.Turn.{due_in, is_awaiting, is_due, turn_in, turn_of}
use Rattle.turn.specs.Sending.{sending}

module _ (c : Coordinator) (t : List Node) (room : ℕ) (fit : fits c t ≡ true) {p : Phase} {a : Bool} (phase : p ≡ phase_of c.stand) (awaiting : a ≡ is_awaiting p) where
  pub turn_awaiting : a ≡ true → turn_of c t room ≡ refused c t AwaitingReply
  unfolding turn_in choose
  turn_awaiting h = rw (← phase, fit, ← awaiting, h) refl

  module _ (idle : a ≡ false) {s q : Bool} (nobody : s ≡ not (some_listed t)) (due : q ≡ is_due p) where
    pub turn_nobody : (s && not q) ≡ true → turn_of c t room ≡ refused c t NobodyListed
    unfolding turn_in choose
    turn_nobody h = rw (← phase, fit, ← awaiting, idle, ← nobody, ← due, h) refl

    pub turn_sends : (s && not q) ≡ false → turn_of c t room ≡ sending (due_in p c t) c t room
    unfolding turn_in choose sending
    turn_sends h = rw (← phase, fit, ← awaiting, idle, ← nobody, ← due, h) refl
