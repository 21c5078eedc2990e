-- Boards that speak 1.0: beside one at most 15 types are listed, every list tells the listed types and no other, and their subnet is heard only where one may answer.
use Prim.Native.Nat.{ℕ, ◌≤◌}
use native.Mathlib.Omega.{arith}
use mathlib.Core.Path.{◌≡◌, refl, sym, ap, ◌∙◌}
use mathlib.Core.Bool.{Bool, true, false, ◌||◌, false≢true}
use mathlib.Core.List.{List}
use lib.ListN.{drop}
use lib.Dec.{eqb, ltb}
use borrow.Author.Tests.{eqb-true, eq-eqb, lt-ltb, le-ltb, not-false}
use Rattle.ground.specs.Below.{among}
use Rattle.ground.proofs.Choices.{choose_yes, choose_no, or_left, neither}
use Rattle.refusal.specs.Refusal.{Told, refuses}
use Rattle.refusal.specs.declared.Refusal.TheVariants.{OtherSubnet}
use Rattle.refusal.proofs.Rules.{Passed}
use Rattle.frame.specs.Frame.{header_of, takes_subnet, read_rules, reading}
use Rattle.frame.proofs.Told.{passed_read}
use Rattle.board.specs.Node.{is_old}
use Rattle.board.specs.Columns.{kinds_of}
use Rattle.board.specs.Types.{type_count}
use Rattle.setup.specs.Setup.{old_subnet}
use Rattle.nodelist.proofs.Theorems.{types_told}
use Rattle.coordinator.specs.declared.Found.{Found}
use Rattle.coordinator.specs.declared.Part.{Part}
use Rattle.coordinator.specs.declared.Part.TheVariants.{Search, IdentifyDue, Identify, Present, AssignDue, Assign}
use Rattle.coordinator.specs.declared.Phase.{Phase}
use Rattle.coordinator.specs.declared.Phase.TheVariants.{Resting, Awaiting, ForwardDue, ReturnDue, Seeking, Unknown}
use Rattle.coordinator.specs.Phase.{phase_of}
use Rattle.coordinator.proofs.Fitting.{awaited}
use Rattle.steps.specs.Receive.{seeks_old, hears_old, receive_of}
use Rattle.steps.specs.Seek.{is_waiting}
use Rattle.steps.specs.Turn.{is_awaiting}
use Rattle.steps.specs.Quiet.{quiet_rules, quiet_in, quiet_of}
use Rattle.steps.proofs.ReadBy.{read_later}
use Rattle.series.specs.Series.{Input, World, Fresh, after, is_accepted}
use Rattle.series.specs.Observed.{Seen, nothing, seen}
use Rattle.series.specs.AsJoined.{noted}
use Rattle.series.specs.Others.{only_says}
use Rattle.series.specs.OldBoards.{may_answer, OldBoards, OldHeard}
use Rattle.series.specs.Ours.{ours}
use Rattle.lasting.proofs.Series.{lasting_fit}
use Rattle.lasting.proofs.Taken.{by_accepted}
use Rattle.staying.proofs.Agreement.{InPart}
use Rattle.staying.proofs.WhoStays.{Holds, holds}
use Rattle.staying.proofs.Noted.{noted_size, told_version_lem, told_kind_column}
use Rattle.staying.proofs.Carried.{turn_carries}
use Rattle.staying.proofs.AsJoined.{told_list}
use Rattle.staying.proofs.OldHeard.{heard_old}
use Rattle.staying.proofs.Others.{unread}

-- where by what the joins told a 1.0 board is listed, there are at most 15 types
few_told : (k : ℕ) (w : World) → Fresh ours k w → (is : List Input) (p : ℕ) → (seen ours w nothing is).listed p ≡ true → is_old ((seen ours w nothing is).who p).version ≡ true → type_count (kinds_of (noted (seen ours w nothing is))) ≤ 15
few_told k w f is p l old =
    let g = holds k w f is in
    let there = sym (g.agrees.listed p) ∙ l in
    omega (arith, (lasting_fit f is).table.types p (sym (told_version_lem g p there) ∙ eqb-true _ 1 old), ap type_count (told_kind_column g))

module _ {s : Seen} {w : World} (g : Holds s w) where
  abbrev found : Found
  found = w.coordinator.found

  -- in the exchange by which a board joins no message to a board is waited for
  may_seek : s.awaited ≡ 0 → may_answer s ≡ (eqb s.wait 5 || is_old s.found.version)
  may_seek z = sym (choose_no (ltb 0 s.awaited) _ _ _ (le-ltb 0 s.awaited (omega (arith, z))) refl)

  may_found : {n : ℕ} → s.wait ≡ n → eqb n 5 ≡ false → s.awaited ≡ 0 → s.found ≡ found → may_answer s ≡ is_old found.version
  may_found e other z same = may_seek z ∙ ap (λ (x : ℕ). eqb x 5 || is_old s.found.version) e ∙ ap (λ (b : Bool). b || is_old s.found.version) other ∙ ap (λ (x : Found). is_old x.version) same

  -- in a wait an observer knows whether a 1.0 board may answer
  may_part : (part : Part) → is_waiting part ≡ true → InPart s found part → may_answer s ≡ seeks_old part found
  may_part Search on i = may_seek i.1 ∙ or_left (eqb s.wait 5) _ (eq-eqb s.wait 5 i.0)
  may_part IdentifyDue on i = absurd (false≢true on)
  may_part Identify on i = may_found i.0.0 refl i.0.1 i.1
  may_part Present on i = may_found i.0.0 refl i.0.1 i.1
  may_part AssignDue on i = absurd (false≢true on)
  may_part Assign on i = may_found i.0.0 refl i.0.1 i.1

  may_wait : (phase : Phase) → phase_of w.coordinator.stand ≡ phase → is_awaiting phase ≡ true → may_answer s ≡ hears_old phase w.coordinator w.nodes
  may_wait Resting e on = absurd (false≢true on)
  may_wait (Awaiting b x q a) e on =
      let here = (rw e at g.agrees.wait).0 in
      let board = awaited w.coordinator w.nodes g.fit e in
      sym (choose_yes (ltb 0 s.awaited) _ _ _ (lt-ltb 0 s.awaited (omega (arith, here, board.from))) refl) ∙ ap (λ (p : ℕ). is_old (s.who p).version) here ∙ ap is_old (told_version_lem g b board.listed)
  may_wait (ForwardDue b q) e on = absurd (false≢true on)
  may_wait (ReturnDue b) e on = absurd (false≢true on)
  may_wait (Seeking p part) e on = may_part part on (rw e at g.agrees.wait)
  may_wait Unknown e on = absurd (false≢true on)

  -- so there it is heard
  heard : (room : ℕ) → is_accepted (quiet_of w.coordinator w.nodes).says ≡ true → may_answer s ≡ true → (received : List ℕ) → (header_of received).subnet ≡ old_subnet → (receive_of w.coordinator w.nodes received room).says ≡ refuses OtherSubnet → ⊥
  unfolding quiet_in
  heard room quiet may received old says = heard_old w.coordinator w.nodes (phase_of w.coordinator.stand) received (sym (may_wait (phase_of w.coordinator.stand) refl on) ∙ may) old room (ap (λ (x : Told). x.number) says)
    where
      on : is_awaiting (phase_of w.coordinator.stand) ≡ true
      on = by_accepted w.coordinator w.nodes (λ _. is_awaiting (phase_of w.coordinator.stand) ≡ true) (quiet_rules (phase_of w.coordinator.stand) w.coordinator w.nodes) _ (λ passed _. not-false _ passed.1.0) quiet

  -- and where none may answer none is, whether a wait is on or a message due
  module _ (none : may_answer s ≡ false) where
    due_deaf : s.found ≡ found → s.awaited ≡ 0 → is_old found.version ≡ false
    due_deaf same z = ap (λ (x : Found). is_old x.version) (sym same) ∙ (neither (eqb s.wait 5) _ (sym (may_seek z) ∙ none)).1

    part_deaf : (part : Part) → InPart s found part → seeks_old part found ≡ false
    part_deaf Search i = sym (may_part Search refl i) ∙ none
    part_deaf IdentifyDue i = due_deaf i.0 i.1
    part_deaf Identify i = sym (may_part Identify refl i) ∙ none
    part_deaf Present i = sym (may_part Present refl i) ∙ none
    part_deaf AssignDue i = due_deaf i.0 i.1
    part_deaf Assign i = sym (may_part Assign refl i) ∙ none

    deaf : (phase : Phase) → phase_of w.coordinator.stand ≡ phase → hears_old phase w.coordinator w.nodes ≡ false
    deaf Resting e = refl
    deaf (Awaiting b x q a) e = sym (may_wait (Awaiting b x q a) e refl) ∙ none
    deaf (ForwardDue b q) e = refl
    deaf (ReturnDue b) e = refl
    deaf (Seeking p part) e = part_deaf part (rw e at g.agrees.wait)
    deaf Unknown e = refl

    -- and bytes of their subnet that are not ours get what the reader says of them
    unheard : (received : List ℕ) (room : ℕ) → (header_of received).subnet ≡ old_subnet → takes_subnet w.coordinator.setup.subnet old_subnet ≡ false → receive_of w.coordinator w.nodes received room ≡ only_says (reading w.coordinator.setup.subnet received) w
    unheard received room old other = unread w g.fit received room (read_later _ _ received (deaf (phase_of w.coordinator.stand) refl)) stopped
      where
        stopped : Passed (read_rules w.coordinator.setup.subnet received) → ⊥
        stopped p = false≢true (sym other ∙ ap (takes_subnet w.coordinator.setup.subnet) (sym old) ∙ (passed_read _ _ p).taken)

pub old_boards : OldBoards ours
old_boards =
    record {
      few = few_told;
      types = λ k w f is room e kind l. ap (λ (b : List ℕ). among kind (drop 1 b)) (told_list k w f is room e) ∙ types_told _ (after ours w is).coordinator.setup.internal (noted (seen ours w nothing is)) (noted_size (seen ours w nothing is)) (λ old. few_told k w f is _ ((holds k w f is).agrees.listed _ ∙ (turn_carries (after ours w is).coordinator (after ours w is).nodes room).board e) old) kind l;
      unheard = λ k w f is none received room. unheard (holds k w f is) none received room;
    }

pub old_heard : OldHeard ours
old_heard = record { heard = λ k w f is room quiet may received. heard (holds k w f is) room quiet may received }
