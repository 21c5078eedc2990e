-- Another system's frames are answered with what the reader says of them, and are to the panel as if they had never come.
use Prim.Native.Nat.{ℕ}
use mathlib.Core.Path.{◌≡◌, refl, sym, ap, ◌∙◌}
use mathlib.Core.Bool.{Bool, true, false, false≢true}
use mathlib.Core.List.{List, [], ◌∷◌, ◌++◌}
use borrow.Author.Tests.{eqb-true, eqb-false, not-true}
use Rattle.ground.specs.Choose.{choose}
use Rattle.ground.proofs.Choices.{choose_no, and_left, and_right, not_no, neither, never}
use Rattle.refusal.specs.Refusal.{Told, refuses, gives, ruled}
use Rattle.refusal.specs.declared.Refusal.TheVariants.{OtherSubnet}
use Rattle.refusal.proofs.Numbers.{not_zero}
use Rattle.refusal.proofs.Rules.{Passed, stopped, unrefused, ruled_through}
use Rattle.frame.specs.Frame.{fields, header_of, length_byte, takes_subnet, read_rules, reading, ReadsWell}
use Rattle.frame.proofs.Told.{passed_read, read_whole}
use Rattle.frame.proofs.Subnets.{other_exactly}
use Rattle.setup.specs.declared.Setup.{Setup}
use Rattle.setup.specs.Setup.{old_subnet}
use Rattle.steps.specs.declared.Event.{Event}
use Rattle.steps.specs.declared.Event.TheVariants.{Join, Turn, Frame, Quiet, Discover}
use Rattle.steps.specs.After.{After, refused}
use Rattle.steps.specs.Receive.{payload, taken_in, hears_old, read_in, listen_rules, receive_in, receive_of}
use Rattle.steps.proofs.ReadBy.{read_elsewhere}
use Rattle.coordinator.specs.Phase.{phase_of}
use Rattle.steps.specs.Step.{step_of}
use Rattle.series.specs.Series.{Input, World, left, after, is_accepted}
use Rattle.series.specs.Observed.{Seen, nothing, saw, seen}
use Rattle.series.specs.Others.{is_frame, is_others, without_others, only_says, OthersUnheard}
use Rattle.series.specs.Ours.{ours}
use Rattle.lasting.proofs.Keeping.{is_fit, step_fit, step_setup}
use Rattle.lasting.proofs.Starting.{started}
use Rattle.lasting.proofs.Series.{lasting}

-- the reader does not take such bytes
others_subnet : (s : Setup) (i : Input) → is_others s i ≡ true → takes_subnet s.subnet (header_of i.received).subnet ≡ false
others_subnet s i h = (neither (takes_subnet s.subnet (header_of i.received).subnet) _ (not-true _ (and_right (is_frame i.event) _ h))).0

-- and they are not of the subnet of 1.0 boards
others_old : (s : Setup) (i : Input) → is_others s i ≡ true → (header_of i.received).subnet ≡ old_subnet → ⊥
others_old s i h = eqb-false _ old_subnet (neither (takes_subnet s.subnet (header_of i.received).subnet) _ (not-true _ (and_right (is_frame i.event) _ h))).1

others_stopped : (w : World) (i : Input) → is_others w.coordinator.setup i ≡ true → Passed (read_rules w.coordinator.setup.subnet i.received) → ⊥
others_stopped w i h p = false≢true (sym (others_subnet w.coordinator.setup i h) ∙ (passed_read _ _ p).taken)

-- what the reader does not take it does not accept
unaccepted : (subnet : ℕ) (b : List ℕ) → (Passed (read_rules subnet b) → ⊥) → is_accepted (reading subnet b) ≡ false
unfolding reading
unaccepted subnet b h = never _ (λ e. h (unrefused (λ (t : Told). is_accepted t ≡ true) (read_rules subnet b) refuses _ (λ q a. not_zero q (eqb-true _ _ a)) e))

module _ (w : World) (fit : is_fit w ≡ true) where
  abbrev our_subnet : ℕ
  our_subnet = w.coordinator.setup.subnet

  -- bytes that are read in our subnet and that the reader refuses get its refusal: 22 comes first, and the panel is fit
  pub unread : (b : List ℕ) (room : ℕ) → read_in (phase_of w.coordinator.stand) w.coordinator w.nodes b ≡ our_subnet → (Passed (read_rules our_subnet b) → ⊥) → receive_of w.coordinator w.nodes b room ≡ only_says (reading our_subnet b) w
  unfolding receive_in reading
  unread b room same h =
      sym (choose_no _ _ _ _ (not_no _ fit) refl)
      ∙ ap (λ (n : ℕ). ruled (read_rules n b ++ listen_rules (phase_of w.coordinator.stand) w.coordinator (header_of b)) (refused w.coordinator w.nodes) (taken_in (phase_of w.coordinator.stand) w.coordinator w.nodes (header_of b) (payload b) room)) same
      ∙ stopped (read_rules our_subnet b) (listen_rules (phase_of w.coordinator.stand) w.coordinator (header_of b)) (refused w.coordinator w.nodes) (taken_in (phase_of w.coordinator.stand) w.coordinator w.nodes (header_of b) (payload b) room) (only_says (gives (fields (header_of b) ++ length_byte b ∷ [])) w) h
      ∙ sym (ruled_through (λ (says : Told). only_says says w) (read_rules our_subnet b) refuses _)

  -- and so do those of another system
  others_refused : (i : Input) → is_others w.coordinator.setup i ≡ true → ours.step w i ≡ only_says (reading w.coordinator.setup.subnet i.received) w
  others_refused i h = go i.event (and_left (is_frame i.event) _ h)
    where
      go : (e : Event) → is_frame e ≡ true → step_of w.coordinator w.nodes e i.received i.room ≡ only_says (reading w.coordinator.setup.subnet i.received) w
      go (Join kind mac session version) n = absurd (false≢true n)
      go Turn n = absurd (false≢true n)
      go Frame n = unread i.received i.room (read_elsewhere (hears_old (phase_of w.coordinator.stand) w.coordinator w.nodes) our_subnet i.received (others_old w.coordinator.setup i h)) (others_stopped w i h)
      go Quiet n = absurd (false≢true n)
      go Discover n = absurd (false≢true n)

  -- by 24, where they are a frame
  others_number : (i : Input) → is_others w.coordinator.setup i ≡ true → ReadsWell (header_of i.received).subnet i.received → (ours.step w i).says ≡ refuses OtherSubnet
  others_number i h e = ap (λ (a : After). a.says) (others_refused i h) ∙ (other_exactly w.coordinator.setup.subnet i.received).1 ((read_whole (header_of i.received).subnet i.received _ e).bytes, others_subnet w.coordinator.setup i h)

  -- which leaves the world as it was
  others_left : (i : Input) → is_others w.coordinator.setup i ≡ true → left (ours.step w i) ≡ w
  others_left i h = ap left (others_refused i h)

  -- and shows an observer nothing
  others_unseen : (i : Input) → is_others w.coordinator.setup i ≡ true → (s : Seen) → saw i (ours.step w i) s ≡ s
  others_unseen i h s = sym (choose_no _ _ _ _ (ap (λ (a : After). is_accepted a.says) (others_refused i h) ∙ unaccepted w.coordinator.setup.subnet i.received (others_stopped w i h)) refl)

-- so a series has what it has without them: whatever goes by the world and by what is seen, step after step
module _ {A : Type 0} (at : World → Seen → List Input → A) (at_next : (w : World) (s : Seen) (i : Input) (is : List Input) → at w s (i ∷ is) ≡ at (left (ours.step w i)) (saw i (ours.step w i) s) is) (setup : Setup) where
  without : (w : World) → is_fit w ≡ true → w.coordinator.setup ≡ setup → (s : Seen) (is : List Input) → at w s is ≡ at w s (without_others setup is)
  unfolding without_others choose
  without w fit e s [] = refl
  without w fit e s (i ∷ is) = at_next w s i is ∙ go (without w fit e s is) (without (left (ours.step w i)) (step_fit w i fit) (step_setup w i ∙ e) (saw i (ours.step w i) s) is) (is_others setup i) refl
    where
      go : at w s is ≡ at w s (without_others setup is) → at (left (ours.step w i)) (saw i (ours.step w i) s) is ≡ at (left (ours.step w i)) (saw i (ours.step w i) s) (without_others setup is) → (b : Bool) → is_others setup i ≡ b → at (left (ours.step w i)) (saw i (ours.step w i) s) is ≡ at w s (choose b (without_others setup is) (i ∷ without_others setup is))
      go here next true h = let others = ap (λ (x : Setup). is_others x i) e ∙ h in (λ j. at (others_left w fit i others j) (others_unseen w fit i others s j) is) ∙ here
      go here next false h = next ∙ sym (at_next w s i (without_others setup is))

pub others_unheard : OthersUnheard ours
unfolding after seen
others_unheard =
    record {
      refused = λ k w f is i. others_refused (after ours w is) (lasting f is).fit i;
      number = λ k w f is i. others_number (after ours w is) (lasting f is).fit i;
      same = λ k w f is. without (λ w s is. after ours w is) (λ w s i is. refl) w.coordinator.setup w (started f).fit refl nothing is;
      sees = λ k w f is. without (λ w s is. seen ours w s is) (λ w s i is. refl) w.coordinator.setup w (started f).fit refl nothing is;
    }
