-- "While anyone is listed, the panel, lent room for a frame, can make its next transmission or end its wait" (00, demand 3).
use Prim.Native.Nat.{ℕ, ◌+◌, ◌≤◌}
use native.Mathlib.Omega.{arith}
use mathlib.Core.Path.{◌≡◌, refl}
use mathlib.Core.Logic.{◌⊎◌, inl, inr}
use mathlib.Core.Bool.{Bool, true, false, not}
use mathlib.Core.List.{List}
use lib.ListN.{length}
use borrow.Author.Tests.{le-ltb}
use Rattle.ground.specs.Choose.{choose}
use Rattle.ground.proofs.Choices.{not_left, not_no}
use Rattle.refusal.specs.Refusal.{refuses}
use Rattle.refusal.specs.declared.Refusal.TheVariants.{NotWaiting}
use Rattle.refusal.proofs.Rules.{passed}
use Rattle.frame.proofs.RoundTrip.{long}
use Rattle.board.specs.declared.Node.{Node}
use Rattle.board.specs.Wanted.{some_listed}
use Rattle.coordinator.specs.declared.Coordinator.{Coordinator}
use Rattle.coordinator.specs.declared.Phase.{Phase}
use Rattle.coordinator.specs.Phase.{phase_of}
use Rattle.coordinator.specs.Fit.{fits}
use Rattle.steps.specs.After.{refused}
use Rattle.steps.specs.Turn.{due_in, is_awaiting, is_due, sent, turn_rules, turn_in}
use Rattle.steps.specs.Quiet.{quiet_value, quiet_rules, quiet_in, quiet_of}
use Rattle.series.specs.Series.{World, after, waited_for}
use Rattle.series.specs.Demand.{Transmits, EndsWait, NeverStuck, quiet_with}
use Rattle.series.specs.Ours.{ours}
use Rattle.lasting.proofs.Keeping.{is_fit, step_fit}
use Rattle.lasting.proofs.Series.{lasting}
use Rattle.turns.proofs.Sendable.{Sendable, due_sendable}
use Rattle.turns.proofs.Ends.{Over, wait_ends}

module _ (c : Coordinator) (t : List Node) (h : fits c t ≡ true) (s : some_listed t ≡ true) where
  -- no rule refuses a turn that is lent room for a frame, where no wait is on
  turn_passes : (p : Phase) (room : ℕ) → 252 ≤ room → is_awaiting p ≡ false → Sendable (due_in p c t) → turn_in p c t room ≡ sent (due_in p c t)
  unfolding turn_in
  turn_passes p room l n d = passed (turn_rules p c t room) (refused c t) (sent (due_in p c t)) (not_no (fits c t) h, (n, (not_left (not (some_listed t)) (not (is_due p)) (not_no (some_listed t) s), (le-ltb room (12 + length (due_in p c t).payload) (omega (arith, d.small)), tt))))

  -- nor a quiet in a wait
  quiet_passes : (p : Phase) → is_awaiting p ≡ true → quiet_in p c t ≡ quiet_value p c t
  unfolding quiet_in
  quiet_passes p n = passed (quiet_rules p c t) (refused c t) (quiet_value p c t) (not_no (fits c t) h, (not_no (is_awaiting p) n, tt))

  transmits : (room : ℕ) → 252 ≤ room → (p : Phase) → phase_of c.stand ≡ p → is_awaiting p ≡ false → (12 ≤ length (turn_in p c t room).bytes) × (1 ≤ waited_for (turn_in p c t room).says)
  unfolding choose
  transmits room l p w n = rw (turn_passes p room l n (due_sendable c t h s p w n)) (omega (arith, long (due_in p c t).header (due_in p c t).payload), (due_sendable c t h s p w n).somebody)

-- a quiet where nothing is waited for is refused 20
quiet_over : (c : Coordinator) (t : List Node) → fits c t ≡ true → is_awaiting (phase_of c.stand) ≡ false → (quiet_of c t).says ≡ refuses NotWaiting
unfolding quiet_in choose
quiet_over c t h e = rw (e, h) refl

module _ (w : World) (h : is_fit w ≡ true) (s : some_listed w.nodes ≡ true) where
  unstuck : (room : ℕ) → 252 ≤ room → (b : Bool) → is_awaiting (phase_of w.coordinator.stand) ≡ b → Transmits ours w room ⊎ EndsWait ours w room
  unstuck room l false n = inl (transmits w.coordinator w.nodes h s room l (phase_of w.coordinator.stand) refl n)
  unstuck room l true n =
      inr (
        rw taken over.0,
        quiet_over _ _ (step_fit w (quiet_with room) h) (rw taken over.1),
      )
    where
      taken : quiet_in (phase_of w.coordinator.stand) w.coordinator w.nodes ≡ quiet_value (phase_of w.coordinator.stand) w.coordinator w.nodes
      taken = quiet_passes w.coordinator w.nodes h s (phase_of w.coordinator.stand) n

      over : Over (quiet_value (phase_of w.coordinator.stand) w.coordinator w.nodes)
      over = wait_ends w.coordinator w.nodes (phase_of w.coordinator.stand) n

pub never_stuck : NeverStuck ours
never_stuck k w f is room l s = unstuck (after ours w is) (lasting f is).fit s room l (is_awaiting (phase_of (after ours w is).coordinator.stand)) refl
