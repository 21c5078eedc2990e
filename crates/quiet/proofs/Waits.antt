-- What quiet does, case by case, of fit coordinator and records.
use Prim.Native.Nat.{ℕ, ◌≤◌, ◌<◌}
use mathlib.Core.Path.{◌≡◌, refl, sym, ap, ◌∙◌}
use mathlib.Core.Bool.{Bool, true, false, not}
use mathlib.Core.List.{List, [], ◌∷◌}
use types.Run.{OneOf, miss}
use denote.Enum.Declared.{tag_of}
use lib.Dec.{ltb}
use borrow.Author.Tests.{lt-ltb, le-ltb}
use Rattle.ground.specs.Choose.{choose}
use Rattle.ground.proofs.Choices.{choose_yes, choose_no, not_yes, not_no}
use Rattle.refusal.specs.declared.Refusal.TheVariants.{NotWaiting}
use Rattle.board.specs.declared.Node.{Node}
use Rattle.board.specs.Table.{at, put}
use Rattle.board.specs.Change.{missed}
use Rattle.coordinator.specs.declared.Coordinator.{Coordinator}
use Rattle.coordinator.specs.declared.Exchange.{Exchange}
use Rattle.coordinator.specs.declared.Part.{Part}
use Rattle.coordinator.specs.declared.Part.TheVariants.{Search, IdentifyDue, Identify, Present, AssignDue, Assign}
use Rattle.coordinator.specs.declared.Phase.{Phase}
use Rattle.coordinator.specs.declared.Phase.TheVariants.{Resting, Awaiting, ForwardDue, ReturnDue, Seeking, Unknown}
use Rattle.coordinator.specs.contracts.Phase.{the_type}
use Rattle.coordinator.specs.Phase.{phase_of}
use Rattle.coordinator.specs.Fit.{fits}
use Rattle.coordinator.specs.Change.{with_phase}
use Rattle.steps.specs.After.{refused, resting}
use Rattle.steps.specs.Seek.{is_waiting, quiet_in_seek}
use Rattle.steps.specs.Turn.{is_awaiting}
use Rattle.steps.specs.Quiet.{dropped_at, missed_at, quiet_value, quiet_in, quiet_of}

-- the variants but the second and the fifth, the wait and the exchange by which a board joins: what the other arm of a match on the phase is told
pub no_wait : (p : Phase) → OneOf (0 ∷ 2 ∷ 3 ∷ 5 ∷ []) (tag_of the_type p) → is_awaiting p ≡ false
no_wait Resting h = refl
no_wait (Awaiting b e q a) h = absurd (miss (0 ∷ 2 ∷ 3 ∷ 5 ∷ []) 1 tt h)
no_wait (ForwardDue b q) h = refl
no_wait (ReturnDue b) h = refl
no_wait (Seeking position part) h = absurd (miss (0 ∷ 2 ∷ 3 ∷ 5 ∷ []) 4 tt h)
no_wait Unknown h = refl

module _ (c : Coordinator) (t : List Node) where
  -- with at most one miss so far, there is one more
  pub miss_noted : (b : ℕ) {n : Node} → n ≡ at t b → n.misses < 2 → missed_at c t b ≡ resting (with_phase c Resting) (put t b (missed (at t b))) 0 0
  miss_noted b {n} e h = sym (choose_yes _ _ _ _ (ap (λ (m : Node). ltb m.misses 2) (sym e) ∙ lt-ltb n.misses 2 h) refl)

  -- with two, the third drops the board
  pub third_drops : (b : ℕ) {n : Node} → n ≡ at t b → 2 ≤ n.misses → missed_at c t b ≡ dropped_at c t b
  third_drops b {n} e h = sym (choose_no _ _ _ _ (ap (λ (m : Node). ltb m.misses 2) (sym e) ∙ le-ltb n.misses 2 h) refl)

  module _ (h : fits c t ≡ true) where
    pub not_waiting : is_awaiting (phase_of c.stand) ≡ false → quiet_of c t ≡ refused c t NotWaiting
    unfolding quiet_in
    not_waiting w = sym (choose_no _ _ _ _ (not_no (fits c t) h) (choose_yes _ _ _ _ (not_yes (is_awaiting (phase_of c.stand)) w) refl))

    -- quiet in a wait
    module _ {b : ℕ} {e : Exchange} {q : ℕ} {a : Bool} (w : phase_of c.stand ≡ Awaiting b e q a) where
      waited : quiet_of c t ≡ quiet_value (Awaiting b e q a) c t
      unfolding quiet_in
      waited = ap (λ (p : Phase). quiet_in p c t) w ∙ sym (choose_no _ _ _ _ (not_no (fits c t) h) (choose_no _ _ _ _ refl refl))

      pub after_ack : a ≡ true → quiet_of c t ≡ resting (with_phase c Resting) t 0 0
      after_ack k = waited ∙ sym (choose_yes _ _ _ _ k refl)

      pub unanswered : a ≡ false → quiet_of c t ≡ missed_at c t b
      unanswered k = waited ∙ sym (choose_no _ _ _ _ k refl)

    -- quiet in the exchange by which a board joins; where a transmission of it is due nothing is waited for, and the rules and the exchange both give 20
    pub in_exchange : {position : ℕ} {part : Part} → phase_of c.stand ≡ Seeking position part → quiet_of c t ≡ quiet_in_seek part position c t
    unfolding quiet_in choose
    in_exchange {position} {part} w = ap (λ (p : Phase). quiet_in p c t) w ∙ sym (choose_no _ _ _ _ (not_no (fits c t) h) (either_way part))
      where
        either_way : (p : Part) → quiet_in_seek p position c t ≡ choose (not (is_waiting p)) (refused c t NotWaiting) (quiet_in_seek p position c t)
        either_way Search = refl
        either_way IdentifyDue = refl
        either_way Identify = refl
        either_way Present = refl
        either_way AssignDue = refl
        either_way Assign = refl
