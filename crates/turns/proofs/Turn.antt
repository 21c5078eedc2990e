-- What a turn is: a refusal, an offer to the next listed board, or work.
use Prim.Native.Nat.{ℕ, ◌+◌}
use native.Mathlib.Omega.{arith}
use mathlib.Core.Path.{◌≡◌, refl, sym, ap}
use mathlib.Core.Bool.{Bool, true, false, false≢true}
use mathlib.Core.List.{List}
use lib.Dec.{eqb, ltb}
use borrow.Author.Tests.{ltb-true}
use Rattle.ground.specs.Choose.{choose}
use Rattle.ground.specs.Below.{one}
use Rattle.ground.proofs.Choices.{and_left, not_right}
use Rattle.refusal.proofs.Rules.{Passed}
use Rattle.board.specs.declared.Node.{Node}
use Rattle.board.specs.declared.Wanted.TheVariants.{Listed, Owed}
use Rattle.board.specs.Table.{at, put, listed_at}
use Rattle.board.specs.Wanted.{wanted_at, count_of}
use Rattle.board.specs.Change.{unmarked}
use Rattle.board.specs.Round.{next_listed}
use Rattle.board.proofs.LowestWanted.{lowest_wanted}
use Rattle.board.proofs.Counts.{count_put}
use Rattle.coordinator.specs.declared.Coordinator.{Coordinator}
use Rattle.coordinator.specs.declared.Exchange.TheVariants.{List as Listing, Forward, Return}
use Rattle.coordinator.specs.declared.Phase.{Phase}
use Rattle.coordinator.specs.declared.Phase.TheVariants.{Resting, Awaiting, ForwardDue, ReturnDue, Seeking, Unknown}
use Rattle.coordinator.specs.Phase.{phase_of}
use Rattle.coordinator.specs.Fit.{fits}
use Rattle.coordinator.proofs.Phases.{listing, forwarding, returning}
use Rattle.coordinator.proofs.Fitting.{Board, fits_forty, fits_known, board_listed}
use Rattle.steps.specs.After.{waits}
use Rattle.steps.specs.Turn.{due_list, due_offer, due_in, owed_to, sent, turn_rules, turn_in, turn_of}
use Rattle.turns.specs.Potential.{under_way}
use Rattle.turns.proofs.Moves.{Moves, offers, guarded, plain_list, plain_forward, plain_return, put_keeps, moved}
use Rattle.turns.proofs.Seek.{seek_due_moves}

module _ (c : Coordinator) (t : List Node) (h : fits c t ≡ true) where
  -- a list to the lowest position owed: it is owed there no more
  module _ (l : ltb 0 (owed_to c t) ≡ true) where
    pub owed_there : wanted_at Owed t (owed_to c t) ≡ true
    owed_there = (lowest_wanted t Owed c.setup.k (ltb-true 0 (owed_to c t) l)).passes

    pub owed_board : Board c t (owed_to c t)
    owed_board = board_listed c t h (owed_to c t) (and_left (listed_at t (owed_to c t)) (eqb (at t (owed_to c t)).owed 1) owed_there)

    one_owed_less : count_of Owed (put t (owed_to c t) (unmarked (at t (owed_to c t)))) + 1 ≡ count_of Owed t
    one_owed_less = omega (arith, count_put Owed t (owed_to c t) (unmarked (at t (owed_to c t))) (fits_forty c t h) owed_board.from (omega (arith, owed_board.up_to, owed_board.few)), ap one owed_there, ap one (not_right (listed_at t (owed_to c t)) (eqb 0 1) refl))

    list_moves : phase_of c.stand ≡ Resting → Moves c t (sent (due_list c t (owed_to c t)))
    unfolding under_way
    list_moves w = moved c t h c.kept (put t (owed_to c t) (unmarked (at t (owed_to c t)))) (waits (owed_to c t) Listing) _ (listing (owed_to c t)) (plain_list (owed_to c t)) (put_keeps c t h Listed (unmarked (at t (owed_to c t))) owed_board refl) (rw w (omega (arith, one_owed_less)))

  own_moves : phase_of c.stand ≡ Resting → (s : Bool) → ltb 0 (owed_to c t) ≡ s → Moves c t (sent (choose s (due_list c t (owed_to c t)) (due_offer c t (next_listed t c.setup.k c.last))))
  unfolding choose
  own_moves w true l = list_moves l w
  own_moves w false l = offers (record { said = refl; board = refl; last = refl })

  value_moves : (room : ℕ) (p : Phase) → phase_of c.stand ≡ p → Passed (turn_rules p c t room) → Moves c t (sent (due_in p c t))
  unfolding under_way
  value_moves room Resting w passed = own_moves w (ltb 0 (owed_to c t)) refl
  value_moves room (Awaiting b e q a) w passed = absurd (false≢true (sym passed.1.0))
  value_moves room (ForwardDue b q) w passed = moved c t h c.kept t (waits b Forward) _ (forwarding b q false) (plain_forward b) refl (rw w (omega arith))
  value_moves room (ReturnDue b) w passed = moved c t h c.kept t (waits b Return) _ (returning b) (plain_return b) refl (rw w (omega arith))
  value_moves room (Seeking position part) w passed = seek_due_moves c t h position part passed.1.0 w
  value_moves room Unknown w passed = absurd (fits_known c t h w)

  pub turn_moves : (room : ℕ) → Moves c t (turn_of c t room)
  unfolding turn_in
  turn_moves room = guarded c t (turn_rules (phase_of c.stand) c t room) (sent (due_in (phase_of c.stand) c t)) (value_moves room (phase_of c.stand) refl)
