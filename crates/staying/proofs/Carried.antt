-- What a turn sends of the records: the node list, and the stored index of the position that is waited for.
use Prim.Native.Nat.{ℕ}
use native.Mathlib.Omega.{arith}
use mathlib.Core.Path.{◌≡◌, refl, sym, ◌∙◌}
use mathlib.Core.Bool.{true, false, false≢true}
use mathlib.Core.List.{List}
use lib.Dec.{ltb}
use Rattle.ground.specs.Choose.{choose}
use Rattle.refusal.specs.declared.Refusal.{Refusal}
use Rattle.frame.specs.Frame.{header_of, payload_of, frame_of}
use Rattle.frame.proofs.RoundTrip.{reads_back_own}
use Rattle.board.specs.declared.Node.{Node}
use Rattle.board.specs.Table.{at, listed_at}
use Rattle.board.specs.Round.{next_listed}
use Rattle.nodelist.specs.List.{list_for}
use Rattle.message.specs.Message.{own_header}
use Rattle.message.proofs.Messages.{list_small}
use Rattle.coordinator.specs.declared.Coordinator.{Coordinator}
use Rattle.coordinator.specs.declared.Part.{Part}
use Rattle.coordinator.specs.declared.Part.TheVariants.{Search, IdentifyDue, Identify, Present, AssignDue, Assign}
use Rattle.coordinator.specs.declared.Phase.{Phase}
use Rattle.coordinator.specs.declared.Phase.TheVariants.{Resting, Awaiting, ForwardDue, ReturnDue, Seeking, Unknown}
use Rattle.coordinator.specs.Phase.{phase_of}
use Rattle.steps.specs.After.{After, refused}
use Rattle.steps.specs.Turn.{owed_to, due_list, due_offer, due_own, due_seek, due_in, turn_rules, sent, turn_in, turn_of}
use Rattle.series.specs.Series.{waited_for, waits_in}
use Rattle.series.specs.StoredIndex.{carries_index}
use Rattle.lasting.proofs.Turn.{owed_listed}
use Rattle.lasting.proofs.Taken.{no_wait, by_refusals, by_choice}

module _ (c : Coordinator) (t : List Node) where
  -- what goes out is the list of these records, to a board of theirs and in the form of its version, or carries the index that is stored in them, where the answer says so
  pub record Carries (a : After) : Type 0 where
    pub list : waits_in a.says ≡ 2 → payload_of (header_of a.bytes).subnet a.bytes ≡ list_for (at t (waited_for a.says)).version c.setup.internal t
    pub board : waits_in a.says ≡ 2 → listed_at t (waited_for a.says) ≡ true
    pub index : carries_index a.says ≡ true → (header_of a.bytes).parameter2 ≡ (at t (waited_for a.says)).index

  -- what is no list has none; what is neither carries no index
  unlisted : (a : After) → (waits_in a.says ≡ 2 → ⊥) → (carries_index a.says ≡ true → (header_of a.bytes).parameter2 ≡ (at t (waited_for a.says)).index) → Carries a
  unlisted a n index = record { list = λ e. absurd (n e); board = λ e. absurd (n e); index = index }

  other_carries : (a : After) → (waits_in a.says ≡ 2 → ⊥) → carries_index a.says ≡ false → Carries a
  other_carries a n e = unlisted a n (λ f. absurd (false≢true (sym e ∙ f)))

  refused_carries : (r : Refusal) → Carries (refused c t r)
  unfolding choose
  refused_carries r = other_carries (refused c t r) (λ e. omega (arith, no_wait r, e)) (rw (no_wait r) refl)

  -- the list and an offer
  own_carries : Carries (sent (due_own c t))
  unfolding choose own_header frame_of
  own_carries =
      by_choice (λ d. Carries (sent d)) (ltb 0 (owed_to c t)) (due_list c t (owed_to c t)) (due_offer c t (next_listed t c.setup.k c.last))
      (λ e. record { list = λ _. (reads_back_own _ (list_for (at t (owed_to c t)).version c.setup.internal t) (list_small (at t (owed_to c t)).version c.setup.internal t)).1; board = λ _. owed_listed c t e; index = λ _. refl })
      (λ _. unlisted _ (λ e. omega (arith, e)) (λ _. refl))

  -- Get Node ID and Set Address
  part_carries : (part : Part) (p : ℕ) → Carries (sent (due_seek part c t p))
  unfolding choose own_header frame_of
  part_carries Search p = own_carries
  part_carries IdentifyDue p = unlisted _ (λ e. omega (arith, e)) (λ _. refl)
  part_carries Identify p = own_carries
  part_carries Present p = own_carries
  part_carries AssignDue p = other_carries _ (λ e. omega (arith, e)) refl
  part_carries Assign p = own_carries

  -- a forward and a return are none of these
  due_carries : (phase : Phase) → Carries (sent (due_in phase c t))
  unfolding choose
  due_carries Resting = own_carries
  due_carries (Awaiting b x q a) = own_carries
  due_carries (ForwardDue b q) = other_carries _ (λ e. omega (arith, e)) refl
  due_carries (ReturnDue b) = other_carries _ (λ e. omega (arith, e)) refl
  due_carries (Seeking p part) = part_carries part p
  due_carries Unknown = own_carries

  pub turn_carries : (room : ℕ) → Carries (turn_of c t room)
  unfolding turn_in
  turn_carries room = by_refusals c t Carries (turn_rules (phase_of c.stand) c t room) (sent (due_in (phase_of c.stand) c t)) refused_carries (λ _. due_carries (phase_of c.stand))
