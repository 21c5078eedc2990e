-- Demand 2 over every step: whatever a step writes reads back in its own subnet as a good frame from 255, to a listed board's address in the subnet of its version, or in the exchange by which a board joins
-- to the address at stake in the subnet of what was discovered, or to 0 in subnet 0 (02, C-15).
use Prim.Native.Nat.{ℕ}
use native.Mathlib.Omega.{arith}
use mathlib.Core.Path.{◌≡◌, refl, sym, ap, subst, ◌∙◌}
use mathlib.Core.Logic.{◌⊎◌, inl, inr}
use mathlib.Core.List.{List, [], ◌∷◌, ◌++◌}
use lib.ListN.{get_or}
use Rattle.refusal.specs.Refusal.{gives}
use Rattle.refusal.specs.declared.Refusal.{Refusal}
use Rattle.refusal.proofs.Rules.{each, by_rules}
use Rattle.frame.specs.Frame.{fields, header_of, length_byte}
use Rattle.frame.proofs.Told.{read_values}
use Rattle.board.specs.declared.Node.{Node}
use Rattle.board.specs.Table.{at}
use Rattle.setup.specs.Setup.{address, subnet_of}
use Rattle.setup.specs.Fitness.{FitSetup, Position}
use Rattle.setup.proofs.Apart.{address_from, address_up_to}
use Rattle.message.specs.Message.{every_kind}
use Rattle.coordinator.specs.declared.Coordinator.{Coordinator}
use Rattle.coordinator.specs.declared.Part.{Part}
use Rattle.coordinator.specs.declared.Part.TheVariants.{IdentifyDue}
use Rattle.coordinator.specs.declared.Exchange.{Exchange}
use Rattle.coordinator.specs.declared.Phase.{Phase}
use Rattle.coordinator.specs.declared.Phase.TheVariants.{Seeking}
use Rattle.coordinator.specs.Phase.{phase_of}
use Rattle.coordinator.proofs.Fitting.{Board, awaited, fit_told, fits_stake}
use Rattle.steps.specs.declared.Event.{Event}
use Rattle.steps.specs.declared.Event.TheVariants.{Join, Turn, Frame, Quiet, Discover}
use Rattle.steps.specs.declared.Seek.{Seek as Seeks}
use Rattle.steps.specs.declared.Seek.TheVariants.{Search as ToSearch, Identify as ToIdentify, Assign as ToAssign}
use Rattle.steps.specs.After.{After, refused, waits, seeks}
use Rattle.steps.specs.Turn.{turn_of}
use Rattle.steps.specs.Receive.{receive_of}
use Rattle.steps.specs.Discover.{discover_rules, searched, discover_of}
use Rattle.steps.specs.Step.{step_of}
use Rattle.steps.proofs.Refusals.{Plain, plain_step}
use Rattle.turn.proofs.Transmissions.{Reaches, Goes, Broadcast, Asks, frame_broadcast, turn_waits, turn_goes, turn_asks}
use Rattle.receive.proofs.Heard.{Taken, Sought, taken_of, AckTo, Answers, AnswersIn, written_is_ack}
use Rattle.stepping.proofs.Silent.{join_silent, quiet_silent}

-- nothing is written; or it goes to a listed board; or, in the exchange by which a board joins, to the address at stake in the subnet of what was discovered, or to whoever has no address
pub data Written (c : Coordinator) (t : List Node) (bytes : List ℕ) : Type 0 where
  nothing : bytes ≡ [] → Written c t bytes
  to_board_lem : (board : ℕ) → Goes c t board bytes → Written c t bytes
  to_stake : (position : ℕ) (part : Part) → phase_of c.stand ≡ Seeking position part → Reaches c c.found.version position bytes → Written c t bytes
  to_all : Broadcast bytes → Written c t bytes

-- an ACK to a position of the pool reaches it
ack_reaches : (c : Coordinator) (t : List Node) (position version source : ℕ) (bytes : List ℕ) → FitSetup c.setup → Position c.setup.k position → AckTo c t position version source bytes → Reaches c version position bytes
ack_reaches c t position version source bytes fit here ack =
    record {
      good = ack.reads ∙ ap gives (sym are);
      destination = there;
      from = rw there (address_from c.setup fit position here);
      up_to = rw there (address_up_to c.setup fit position here);
      source = ap (λ (l : List ℕ). get_or l 1 0) are;
      subnet = ap (λ (l : List ℕ). get_or l 2 0) are;
    }
  where
    are : fields (header_of bytes) ++ length_byte bytes ∷ [] ≡ source ∷ 255 ∷ subnet_of c.setup version ∷ 0 ∷ 0 ∷ (at t position).index ∷ 165 ∷ 0 ∷ 128 ∷ 17 ∷ []
    are = read_values (subnet_of c.setup version) bytes _ ack.reads

    there : (header_of bytes).destination ≡ address c.setup position
    there = ap (λ (l : List ℕ). get_or l 0 0) are ∙ ack.sender

module _ (c : Coordinator) (t : List Node) where
  turn_written : (room : ℕ) → Written c t (turn_of c t room).bytes
  turn_written room = go (plain_step c t Turn [] room)
    where
      asked : (p : ℕ) (s : Seeks) → Asks c t s p (turn_of c t room).bytes → Written c t (turn_of c t room).bytes
      asked p ToSearch h = absurd h
      asked p ToIdentify h = to_stake p IdentifyDue h.0 h.1
      asked p ToAssign h = to_all h.1

      waiting : ((b : ℕ) × (e : Exchange) × ((turn_of c t room).says ≡ waits b e)) ⊎ ((p : ℕ) × (s : Seeks) × ((turn_of c t room).says ≡ seeks p s)) → Written c t (turn_of c t room).bytes
      waiting (inl (b, e, w)) = to_board_lem b (turn_goes c t room b e w)
      waiting (inr (p, s, w)) = asked p s (turn_asks c t room p s w)

      go : Plain c t (turn_of c t room) → Written c t (turn_of c t room).bytes
      go (inr (r, e)) = nothing (ap (λ (a : After). a.bytes) e)
      go (inl e) = waiting (turn_waits c t room e)

  module _ (b : List ℕ) (room : ℕ) where
    abbrev a : After
    a = receive_of c t b room

    -- the ACK to a frame that was taken goes to the board that was waited for
    in_wait_lem : (k : Taken c t b room) → Answers c t k.board (at t k.board).version (header_of b).source a → Written c t a.bytes
    in_wait_lem k (inl silent) = nothing silent.0
    in_wait_lem k (inr (ack, q)) = to_board_lem k.board (record { listed = here.listed; reaches = ack_reaches c t k.board (at t k.board).version (header_of b).source a.bytes (fit_told c t k.fit).setup (record { from = here.from; up_to = here.up_to }) ack })
      where
        here : Board c t k.board
        here = awaited c t k.fit k.waited

    -- and to one in the exchange by which a board joins, to the address at stake
    in_exchange : (k : Sought c t b room) → Answers c a.nodes k.position c.found.version (header_of b).source a → Written c t a.bytes
    in_exchange k (inl silent) = nothing silent.0
    in_exchange k (inr (ack, q)) = to_stake k.position k.part k.seeking (ack_reaches c a.nodes k.position c.found.version (header_of b).source a.bytes (fit_told c t k.fit).setup (fits_stake c t k.fit k.seeking).0 ack)

    frame_written : Written c t (receive_of c t b room).bytes
    frame_written = go (plain_step c t Frame b room)
      where
        answered : (w : Phase) → phase_of c.stand ≡ w → AnswersIn w c t (header_of b).source a
        answered w e = subst (λ (x : Phase). AnswersIn x c t (header_of b).source a) e (written_is_ack c t b room)

        taken : Taken c t b room ⊎ Sought c t b room → Written c t a.bytes
        taken (inl k) = in_wait_lem k (answered _ k.waited)
        taken (inr k) = in_exchange k (answered _ k.seeking)

        go : Plain c t a → Written c t a.bytes
        go (inr (r, e)) = nothing (ap (λ (x : After). x.bytes) e)
        go (inl e) = taken (taken_of c t b room e)

  -- a discovery goes to whoever has no address
  discover_written : (room : ℕ) → Written c t (discover_of c t room).bytes
  unfolding discover_of
  discover_written room = by_rules (λ (x : After). Written c t x.bytes) (discover_rules c t room) (refused c t) (searched c t) (each {Q = λ (r : Refusal). Written c t (refused c t r).bytes} (λ r. nothing refl) (discover_rules c t room)) (λ ok. to_all (frame_broadcast 121 32 every_kind (omega arith)))

  -- whatever a step writes goes where it should; what it says besides is in turn's `turn_says` and `turn_asks`
  pub step_written : (event : Event) (b : List ℕ) (room : ℕ) → Written c t (step_of c t event b room).bytes
  step_written (Join kind mac session version) b room = nothing (join_silent c t kind mac session version)
  step_written Turn b room = turn_written room
  step_written Frame b room = frame_written b room
  step_written Quiet b room = nothing (quiet_silent c t)
  step_written Discover b room = discover_written room
