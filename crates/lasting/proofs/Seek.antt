-- The exchange by which a board joins keeps fit, in a turn, a frame and a quiet.
use Prim.Native.Nat.{ℕ, ◌/◌, ◌%◌}
use mathlib.Core.Path.{◌≡◌, refl, sym}
use mathlib.Core.Bool.{Bool, true, false, false≢true}
use mathlib.Core.List.{List, []}
use lib.Dec.{eqb, ltb}
use borrow.Author.Tests.{ltb-true}
use Rattle.std.specs.Prelude.{Result, Ok, Err}
use Rattle.ground.specs.Choose.{choose}
use Rattle.ground.proofs.Choices.{both}
use Rattle.refusal.specs.declared.Refusal.TheVariants.{NotAwaited, NotWaiting, UnexpectedType, BadEcho, NoRoom}
use Rattle.frame.specs.declared.Header.{Header}
use Rattle.board.specs.declared.Node.{Node}
use Rattle.board.specs.Node.{is_kind, is_mac, is_version}
use Rattle.board.proofs.Versions.{version_is, version_passes}
use Rattle.refusal.specs.declared.Refusal.{Refusal}
use Rattle.accept.specs.declared.Reply.{Reply}
use Rattle.accept.specs.declared.Reply.TheVariants.{Present as AckCame}
use Rattle.accept.specs.Replies.{mac_after, heard_in_identify}
use Rattle.accept.proofs.Replied.{search_replied, identify_replied, assign_replied}
use Rattle.coordinator.specs.declared.Part.{Part}
use Rattle.coordinator.specs.declared.Part.TheVariants.{Search, IdentifyDue, Identify, Present, AssignDue, Assign}
use Rattle.coordinator.specs.declared.Phase.TheVariants.{Seeking}
use Rattle.coordinator.specs.declared.Found.{Found}
use Rattle.coordinator.specs.declared.Coordinator.{Coordinator}
use Rattle.coordinator.specs.Phase.{phase_of}
use Rattle.coordinator.specs.Fit.{phase_fits, seek_fits, fits}
use Rattle.coordinator.specs.Change.{with_phase, finding, ended}
use Rattle.coordinator.proofs.Phases.{resting as at_rest, seeking}
use Rattle.coordinator.proofs.Fitting.{fits_seek}
use Rattle.coordinator.proofs.Changing.{with_phase_fits, finding_fits, ended_fits}
use Rattle.steps.specs.After.{accepted, resting, rests, refused}
use Rattle.steps.specs.Hear.{hear_mac}
use Rattle.steps.specs.Seek.{is_waiting, discovered, identified, join_found, answered, acknowledged, outcome, settled, replied_as, sought_in, quiet_in_seek}
use Rattle.steps.specs.Turn.{due_seek, sent}
use Rattle.lasting.proofs.Keeps.{Keeps, accepted_keeps, refused_keeps, Stays, phase_keeps}
use Rattle.lasting.proofs.Join.{Joined, join_keeps, join_taken}
use Rattle.lasting.proofs.Hear.{hear_mac_stays}

module _ (c : Coordinator) (t : List Node) (h : fits c t ≡ true) where
  -- the exchange is over: the same boards are listed
  over : (u : List Node) → Stays c.setup.k t u → fits (ended c) u ≡ true
  unfolding phase_fits
  over u s = phase_keeps (ended c) t (ended_fits c t h) u s c.kept at_rest refl refl

  -- what was found goes on where its join would be taken
  answered_keeps : (f : Found) → is_version f.version ≡ true → Keeps c t (answered c t f)
  unfolding choose
  answered_keeps f told = go (ltb 0 (join_found c t f).joined) refl
    where
      found : Joined (ended c) f.kind f.mac (join_found c t f).joined → fits (finding c f (join_found c t f).joined) t ≡ true
      found j = finding_fits c t h f (join_found c t f).joined j.place (both _ _ (both (is_kind f.kind) (is_mac f.mac) j.is_one j.has_mac) told)

      go : (b : Bool) → ltb 0 (join_found c t f).joined ≡ b → Keeps c t (choose b (accepted (finding c f (join_found c t f).joined) t rests []) (accepted (ended c) t rests []))
      go true e = accepted_keeps c t _ (found (join_taken (ended c) t f.kind f.mac f.session f.version (ltb-true 0 (join_found c t f).joined e))) refl refl
      go false e = accepted_keeps c t _ (ended_fits c t h) refl refl

  -- a response ends the exchange, with a join or without
  outcome_keeps : (position : ℕ) (f : Found) → Keeps c t (acknowledged c.setup position f.version (outcome c t position f))
  unfolding choose
  outcome_keeps position f = go (eqb (join_found c t f).joined position)
    where
      joins : Keeps (ended c) t (join_found c t f)
      joins = join_keeps (ended c) t f.kind f.mac f.session f.version

      go : (b : Bool) → Keeps c t (acknowledged c.setup position f.version (choose b (join_found c t f) (resting (ended c) (hear_mac t position f.mac) 0 0)))
      go true = accepted_keeps c t _ (joins.fit (ended_fits c t h)) joins.setup refl
      go false = accepted_keeps c t _ (over (hear_mac t position f.mac) (hear_mac_stays c t h position f.mac)) refl refl

  -- where its ACK has room
  settled_keeps : (position : ℕ) (f : Found) (room : ℕ) → Keeps c t (settled c t position f room)
  unfolding choose
  settled_keeps position f room = go (ltb room 29)
    where
      go : (b : Bool) → Keeps c t (choose b (refused c t NoRoom) (acknowledged c.setup position f.version (outcome c t position f)))
      go true = refused_keeps c t NoRoom refl
      go false = outcome_keeps position f

  -- a position at stake with what was discovered
  abbrev Stake : ℕ → Type 0
  Stake position = seek_fits (Seeking position Identify) c.setup.k c.found ≡ true

  -- goes on to another part of the exchange
  goes_on : (position : ℕ) (part : Part) → seek_fits (Seeking position part) c.setup.k c.found ≡ true → fits (with_phase c (Seeking position part)) t ≡ true
  unfolding phase_fits
  goes_on position part s = with_phase_fits c t h (seeking position part) refl s

  -- what a frame does in each wait
  module _ (position : ℕ) (hd : Header) (p : List ℕ) (room : ℕ) where
    abbrev Replied : Result Reply Refusal → Type 0
    Replied r = Keeps c t (replied_as r position c t hd.packet p room)

    -- 7
    unexpected : Replied (Err UnexpectedType)
    unexpected = refused_keeps c t UnexpectedType refl

    -- an ACK from the address at stake
    present_keeps : Stake position → Replied (Ok AckCame)
    unfolding phase_fits
    present_keeps s = accepted_keeps c t _ (phase_keeps c t h (hear_mac t position (mac_after p)) (hear_mac_stays c t h position (mac_after p)) c.kept (seeking position Present) refl s) refl refl

    -- an ACK, or who has the address
    in_identify_lem : (acked : Bool) → Stake position → Replied (heard_in_identify hd.message p acked)
    in_identify_lem acked s = identify_replied Replied unexpected hd.message p acked (λ first type size code. present_keeps s) (λ type size. settled_keeps position (identified c.found.version p) room)

    -- by the parts
    pub sought_keeps : (part : Part) → phase_of c.stand ≡ Seeking position part → Keeps c t (sought_in part position c t hd p room)
    sought_keeps Search e = search_replied Replied unexpected hd.message p (λ type size. answered_keeps (discovered hd.packet p) (version_passes _ (version_is (hd.packet / 32 % 2))))
    sought_keeps IdentifyDue e = refused_keeps c t NotAwaited refl
    sought_keeps Identify e = in_identify_lem false (rw e at (fits_seek c t h))
    sought_keeps Present e = in_identify_lem true (rw e at (fits_seek c t h))
    sought_keeps AssignDue e = refused_keeps c t NotAwaited refl
    sought_keeps Assign e = assign_replied Replied unexpected hd.message _ (refused_keeps c t BadEcho refl) (λ same type. settled_keeps position c.found room)

  -- what is due in the exchange
  pub seek_due_keeps : (position : ℕ) (part : Part) → is_waiting part ≡ false → phase_of c.stand ≡ Seeking position part → Keeps c t (sent (due_seek part c t position))
  seek_due_keeps position Search n e = absurd (false≢true (sym n))
  seek_due_keeps position IdentifyDue n e = accepted_keeps c t _ (goes_on position Identify (rw e at (fits_seek c t h))) refl refl
  seek_due_keeps position Identify n e = absurd (false≢true (sym n))
  seek_due_keeps position Present n e = absurd (false≢true (sym n))
  seek_due_keeps position AssignDue n e = accepted_keeps c t _ (goes_on position Assign (rw e at (fits_seek c t h))) refl refl
  seek_due_keeps position Assign n e = absurd (false≢true (sym n))

  -- a quiet ends the wait
  pub seek_quiet_keeps : (position : ℕ) (part : Part) → phase_of c.stand ≡ Seeking position part → Keeps c t (quiet_in_seek part position c t)
  seek_quiet_keeps position Search e = accepted_keeps c t _ (ended_fits c t h) refl refl
  seek_quiet_keeps position IdentifyDue e = refused_keeps c t NotWaiting refl
  seek_quiet_keeps position Identify e = accepted_keeps c t _ (goes_on position AssignDue (rw e at (fits_seek c t h))) refl refl
  seek_quiet_keeps position Present e = accepted_keeps c t _ (ended_fits c t h) refl refl
  seek_quiet_keeps position AssignDue e = refused_keeps c t NotWaiting refl
  seek_quiet_keeps position Assign e = accepted_keeps c t _ (ended_fits c t h) refl refl
