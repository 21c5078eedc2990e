-- What a turn, a frame and a quiet are in the exchange by which a board joins: a refusal, or work.
use Prim.Native.Nat.{ℕ, ◌<◌}
use native.Mathlib.Omega.{arith}
use mathlib.Core.Path.{◌≡◌, refl, sym}
use mathlib.Core.Bool.{Bool, true, false, false≢true}
use mathlib.Core.List.{List, []}
use lib.Dec.{eqb, ltb}
use Rattle.std.specs.Prelude.{Result, Err}
use Rattle.ground.specs.Choose.{choose}
use Rattle.ground.proofs.Choices.{and_left}
use Rattle.refusal.specs.Refusal.{Told}
use Rattle.refusal.specs.declared.Refusal.TheVariants.{NotAwaited, NotWaiting, UnexpectedType, BadEcho, NoRoom}
use Rattle.frame.specs.declared.Header.{Header}
use Rattle.board.specs.declared.Node.{Node}
use Rattle.board.specs.declared.Wanted.{Wanted}
use Rattle.board.specs.declared.Wanted.TheVariants.{Listed, Owed, Mac}
use Rattle.board.specs.Table.{at, listed_at}
use Rattle.board.specs.Wanted.{wants, wanted_at, count_of}
use Rattle.board.specs.Change.{heard}
use Rattle.refusal.specs.declared.Refusal.{Refusal}
use Rattle.accept.specs.declared.Reply.{Reply}
use Rattle.accept.specs.Replies.{mac_after}
use Rattle.accept.proofs.Replied.{search_replied, identify_replied, assign_replied}
use Rattle.coordinator.specs.declared.Coordinator.{Coordinator}
use Rattle.coordinator.specs.declared.Found.{Found}
use Rattle.coordinator.specs.declared.Part.{Part}
use Rattle.coordinator.specs.declared.Part.TheVariants.{Search, IdentifyDue, Identify, Present, AssignDue, Assign}
use Rattle.coordinator.specs.declared.Phase.TheVariants.{Seeking}
use Rattle.coordinator.specs.Phase.{phase_of}
use Rattle.coordinator.specs.Fit.{fits}
use Rattle.coordinator.specs.Fresh.{blank_found}
use Rattle.coordinator.specs.Change.{with_phase, finding, ended}
use Rattle.coordinator.proofs.Phases.{resting as at_rest, seeking, phase_back}
use Rattle.coordinator.proofs.Fitting.{board_listed}
use Rattle.coordinator.proofs.Changing.{ended_fits}
use Rattle.steps.specs.declared.Seek.TheVariants.{Identify as ToIdentify, Assign as ToAssign}
use Rattle.steps.specs.After.{refused, accepted, resting, seeks, transmits, rests}
use Rattle.steps.specs.Hear.{hear, hear_mac}
use Rattle.steps.specs.Seek.{is_waiting, discovered, identified, join_found, answered, present, acknowledged, outcome, settled, replied_as, sought_in, quiet_in_seek}
use Rattle.steps.specs.Turn.{due_seek, sent}
use Rattle.turns.specs.Potential.{left_of, under_way, potential}
use Rattle.turns.proofs.Numbers.{left_least}
use Rattle.turns.proofs.Moves.{Moves, works, refusing, Plain, plain_rests, plain_transmits, plain_seeks, put_keeps, moved, moved_with}
use Rattle.turns.proofs.Join.{Lowers, join_lowers}

module _ (c : Coordinator) (t : List Node) (h : fits c t ≡ true) where
  -- who is heard at the address at stake is listed, and owed the list, as before
  heard_keeps : (w : Wanted) → ((n : Node) → wants w (heard n) ≡ wants w n) → (p mac : ℕ) → count_of w (hear_mac t p mac) ≡ count_of w t
  unfolding choose
  heard_keeps w same p mac = go (wanted_at (Mac mac) t p) refl
    where
      go : (b : Bool) → wanted_at (Mac mac) t p ≡ b → count_of w (choose b (hear t p) t) ≡ count_of w t
      go true e = put_keeps c t h w (heard (at t p)) (board_listed c t h p (and_left (listed_at t p) (eqb (at t p).mac mac) e)) (same (at t p))
      go false e = refl

  module _ (position : ℕ) {part : Part} (w : phase_of c.stand ≡ Seeking position part) where
    -- another part of it, with fewer steps left
    goes_on : (next : Part) → left_of next < left_of part → (says : Told) (bytes : List ℕ) → Plain says → Moves c t (accepted (with_phase c (Seeking position next)) t says bytes)
    unfolding under_way
    goes_on next less says bytes plain = moved c t h c.kept t says bytes (seeking position next) plain refl (rw w (omega arith))

    -- it is over
    over : (u : List Node) (says : Told) (bytes : List ℕ) → Plain says → count_of Listed u ≡ count_of Listed t → count_of Owed u ≡ count_of Owed t → Moves c t (accepted (ended c) u says bytes)
    unfolding under_way
    over u says bytes plain listed owed = moved_with c t h c.kept blank_found u says bytes at_rest plain listed (rw w (omega (arith, left_least part)))

    -- and the potential is lower then
    ended_falls : potential (ended c) t < potential c t
    unfolding potential under_way
    ended_falls = rw (phase_back at_rest, w) (omega (arith, left_least part))

    -- a response ends it, with a join or without: what the join makes of the potential is no higher
    settles : (f : Found) (b : Bool) → Moves c t (acknowledged c.setup position f.version (choose b (join_found c t f) (resting (ended c) (hear_mac t position f.mac) 0 0)))
    unfolding choose
    settles f true = works (record { said = refl; nobody = plain_transmits.1; last = joins.last; falls = λ g n m. omega (arith, joins.most g n m, ended_falls) })
      where
        joins : Lowers (ended c) t (join_found c t f)
        joins = join_lowers (ended c) t (ended_fits c t h) f.kind f.mac f.session f.version
    settles f false = over (hear_mac t position f.mac) transmits _ plain_transmits (heard_keeps Listed (λ n. refl) position f.mac) (heard_keeps Owed (λ n. refl) position f.mac)

    -- where its ACK has room
    settled_moves : (f : Found) (room : ℕ) → Moves c t (settled c t position f room)
    unfolding choose
    settled_moves f room = go (ltb room 29)
      where
        go : (b : Bool) → Moves c t (choose b (refused c t NoRoom) (acknowledged c.setup position f.version (outcome c t position f)))
        go true = refusing c t NoRoom
        go false = settles f (eqb (join_found c t f).joined position)

  -- what was found goes on, or it is over
  answered_moves : {position : ℕ} → phase_of c.stand ≡ Seeking position Search → (f : Found) → Moves c t (answered c t f)
  unfolding choose under_way
  answered_moves {position} w f = go (ltb 0 (join_found c t f).joined)
    where
      go : (b : Bool) → Moves c t (choose b (accepted (finding c f (join_found c t f).joined) t rests []) (accepted (ended c) t rests []))
      go true = moved_with c t h c.kept f t rests [] (seeking (join_found c t f).joined IdentifyDue) plain_rests refl (rw w (omega arith))
      go false = over position w t rests [] plain_rests refl refl

  -- an ACK, once
  present_moves : {position : ℕ} → phase_of c.stand ≡ Seeking position Identify → (mac : ℕ) → Moves c t (present c t position mac)
  unfolding under_way
  present_moves {position} w mac = moved c t h c.kept (hear_mac t position mac) (seeks position ToIdentify) [] (seeking position Present) (plain_seeks position ToIdentify) (heard_keeps Listed (λ n. refl) position mac) (rw (w, heard_keeps Owed (λ n. refl) position mac) (omega arith))

  -- what a frame is in each part
  module _ (position : ℕ) (hd : Header) (p : List ℕ) (room : ℕ) where
    abbrev Replied : Result Reply Refusal → Type 0
    Replied r = Moves c t (replied_as r position c t hd.packet p room)

    unexpected : Replied (Err UnexpectedType)
    unexpected = refusing c t UnexpectedType

    pub sought_moves : (part : Part) → phase_of c.stand ≡ Seeking position part → Moves c t (sought_in part position c t hd p room)
    sought_moves Search w = search_replied Replied unexpected hd.message p (λ type size. answered_moves w (discovered hd.packet p))
    sought_moves IdentifyDue w = refusing c t NotAwaited
    sought_moves Identify w = identify_replied Replied unexpected hd.message p false (λ first type size code. present_moves w (mac_after p)) (λ type size. settled_moves position w (identified c.found.version p) room)
    sought_moves Present w = identify_replied Replied unexpected hd.message p true (λ first type size code. absurd (false≢true (sym first))) (λ type size. settled_moves position w (identified c.found.version p) room)
    sought_moves AssignDue w = refusing c t NotAwaited
    sought_moves Assign w = assign_replied Replied unexpected hd.message _ (refusing c t BadEcho) (λ same type. settled_moves position w c.found room)

  -- what is due goes out
  pub seek_due_moves : (position : ℕ) (part : Part) → is_waiting part ≡ false → phase_of c.stand ≡ Seeking position part → Moves c t (sent (due_seek part c t position))
  seek_due_moves position Search n w = absurd (false≢true (sym n))
  seek_due_moves position IdentifyDue n w = goes_on position w Identify (omega arith) (seeks position ToIdentify) _ (plain_seeks position ToIdentify)
  seek_due_moves position Identify n w = absurd (false≢true (sym n))
  seek_due_moves position Present n w = absurd (false≢true (sym n))
  seek_due_moves position AssignDue n w = goes_on position w Assign (omega arith) (seeks position ToAssign) _ (plain_seeks position ToAssign)
  seek_due_moves position Assign n w = absurd (false≢true (sym n))

  -- a quiet ends the wait
  pub seek_quiet_moves : (position : ℕ) (part : Part) → phase_of c.stand ≡ Seeking position part → Moves c t (quiet_in_seek part position c t)
  seek_quiet_moves position Search w = over position w t rests [] plain_rests refl refl
  seek_quiet_moves position IdentifyDue w = refusing c t NotWaiting
  seek_quiet_moves position Identify w = goes_on position w AssignDue (omega arith) rests [] plain_rests
  seek_quiet_moves position Present w = over position w t rests [] plain_rests refl refl
  seek_quiet_moves position AssignDue w = refusing c t NotWaiting
  seek_quiet_moves position Assign w = over position w t rests [] plain_rests refl refl
