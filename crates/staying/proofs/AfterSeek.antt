-- A frame in the exchange by which a board joins: it may list a board, whose run begins anew; a listed board is heard by its own MAC only.
use Prim.Native.Nat.{ℕ, ◌≤◌}
use native.Mathlib.Omega.{arith}
use native.Mathlib.Decide.{ℕ_discrete}
use mathlib.Core.Path.{◌≡◌, refl, sym, ap, subst, ◌∙◌}
use mathlib.Core.Bool.{Bool, true, false, ◌&&◌, not, false≢true}
use mathlib.Core.List.{List, []}
use lib.Dec.{eqb, ltb}
use borrow.Author.Tests.{eq-eqb, ne_eqb, eqb-true, not-false}
use Rattle.ground.specs.Choose.{choose}
use Rattle.ground.proofs.Choices.{choose_yes, choose_no, and_left}
use Rattle.refusal.specs.declared.Refusal.{Refusal}
use Rattle.refusal.specs.declared.Refusal.TheVariants.{UnexpectedType, BadEcho, NoRoom}
use Rattle.refusal.proofs.Rules.{Passed, each, by_rules}
use Rattle.frame.specs.Frame.{header_of}
use Rattle.board.specs.declared.Node.{Node}
use Rattle.board.specs.declared.Wanted.TheVariants.{Mac}
use Rattle.board.specs.Node.{is_kind}
use Rattle.board.specs.Table.{at, listed_at}
use Rattle.board.specs.Wanted.{wanted_at}
use Rattle.board.specs.Change.{heard}
use Rattle.setup.specs.Setup.{address}
use Rattle.setup.specs.Fitness.{Position}
use Rattle.setup.proofs.Pools.{setup_told}
use Rattle.accept.specs.Replies.{heard_in_identify, heard_in_assign}
use Rattle.accept.proofs.Replied.{search_replied, identify_replied, assign_replied}
use Rattle.coordinator.specs.declared.Coordinator.{Coordinator}
use Rattle.coordinator.specs.declared.Found.{Found}
use Rattle.coordinator.specs.declared.Part.{Part}
use Rattle.coordinator.specs.declared.Part.TheVariants.{Search, IdentifyDue, Identify, Present, AssignDue, Assign}
use Rattle.coordinator.specs.declared.Phase.TheVariants.{Seeking}
use Rattle.coordinator.specs.Phase.{phase_of}
use Rattle.coordinator.specs.Fit.{fits}
use Rattle.coordinator.specs.Change.{finding, ended}
use Rattle.coordinator.proofs.Phases.{resting, seeking, phase_back}
use Rattle.coordinator.proofs.Fitting.{Board, board_listed, fits_setup, fits_stake}
use Rattle.coordinator.proofs.Changing.{ended_fits}
use Rattle.steps.specs.declared.Event.TheVariants.{Frame}
use Rattle.steps.specs.After.{After, refused, accepted, resting as rested, rests}
use Rattle.steps.specs.Hear.{hear, hear_mac}
use Rattle.steps.specs.Join.{chosen, join_rules, joined_as, join_of}
use Rattle.steps.specs.Seek.{discovered, identified, join_found, answered, outcome, acknowledged, settled, replied_as, sought_in}
use Rattle.steps.specs.Receive.{payload, awaits}
use Rattle.series.specs.Series.{is_seek}
use Rattle.series.specs.Observed.{recorded, given, Seen, changed, joined_to, teller, heard_there, saw_reply, saw_board}
use Rattle.staying.proofs.Agreement.{Waits, Agrees, Tells, Told, changed_none, put_changes, inside, listed_tells, still_tells, seen_tells, refused_tells}
use Rattle.staying.proofs.Addresses.{same_address}
use Rattle.staying.proofs.AfterJoin.{joined_changes}

-- nobody joined, or somebody did
module _ {ℓ} {A : Type ℓ} (f : ℕ → A) (v : A) where
  joined_none : {j : ℕ} → j ≡ 0 → (p : ℕ) → joined_to f j v p ≡ f p
  joined_none {j} e p = ap (λ (x : ℕ → A). x p) (sym (choose_yes (eqb j 0) f f (changed f j v) (eq-eqb j 0 e) refl))

  joined_one : {j : ℕ} → 1 ≤ j → (p : ℕ) → joined_to f j v p ≡ changed f j v p
  joined_one {j} l p = ap (λ (x : ℕ → A). x p) (sym (choose_no (eqb j 0) (changed f j v) f (changed f j v) (ne_eqb j 0 (λ e. omega arith)) refl))

module _ (s : Seen) (c : Coordinator) (t : List Node) (h : fits c t ≡ true) (g : Agrees s c t) (received : List ℕ) (seeks : is_seek s.wait ≡ true) where
  -- such a frame is seen as one of the exchange
  reply_tells : {a : After} → a.says.number ≡ 0 → Tells s (saw_reply received a s) t a → Told s t Frame received a
  reply_tells {a} e tells = seen_tells Frame received e (subst (λ (s' : Seen). Tells s s' t a) (choose_yes (is_seek s.wait) (saw_reply received a s) (saw_reply received a s) (saw_board received a s) seeks refl) tells)

  -- a step that lists nobody and hears nobody
  silent_tells : {a : After} → a.says.number ≡ 0 → a.joined ≡ 0 → a.nodes ≡ t → ((p : ℕ) → heard_there received a s p ≡ false) → Waits (saw_reply received a s) a.coordinator.found (phase_of a.coordinator.stand) → Told s t Frame received a
  silent_tells {a} e none same unheard wait =
      reply_tells e (still_tells g (λ p. ap (λ (u : List Node). listed_at u p) same) (λ p. ap (λ (u : List Node). (at u p).misses) same) (λ p. ap (λ (u : List Node). recorded (at u p)) same) (joined_none s.listed true none) (λ p. joined_none (λ q. choose (heard_there received a s q) 0 (s.run q)) 0 none p ∙ sym (choose_no (heard_there received a s p) (s.run p) 0 (s.run p) (unheard p) refl)) (joined_none s.who (given (teller received s)) none) wait)

  -- from the address at stake, in identify or assign
  module _ (b : ℕ) (here : Position c.setup.k b) (from : (header_of received).source ≡ address c.setup b) (later : eqb s.wait 5 ≡ false) (f : Found) (who : teller received s ≡ f) where
    -- the board there is heard where it is listed and the MAC is its own, and nobody else is
    heard_other : (a : After) → a.coordinator.setup ≡ c.setup → (p : ℕ) → (p ≡ b → ⊥) → heard_there received a s p ≡ false
    heard_other a same p ne = rw (same, from, same_address c.setup (setup_told c.setup (fits_setup c t h)) b p here.from here.up_to, ne_eqb p b ne) (none (not (eqb s.wait 5)) (s.listed p))
      where
        none : (x y : Bool) → (x && (y && false)) ≡ false
        none true true = refl
        none true false = refl
        none false y = refl

    heard_here : (a : After) → a.coordinator.setup ≡ c.setup → heard_there received a s b ≡ wanted_at (Mac f.mac) t b
    heard_here a same = rw (same, from, same_address c.setup (setup_told c.setup (fits_setup c t h)) b b here.from here.up_to, eq-eqb b b refl, later, who, g.listed b) (go (listed_at t b) refl)
      where
        go : (l : Bool) → listed_at t b ≡ l → (l && eqb (s.who b).mac f.mac) ≡ (l && eqb (at t b).mac f.mac)
        go true l = rw (g.who b l) refl
        go false l = refl

    -- a step that lists nobody, after which the board at stake is heard by its own MAC only
    hears_tells : {a : After} → a.says.number ≡ 0 → a.joined ≡ 0 → a.coordinator.setup ≡ c.setup → a.nodes ≡ hear_mac t b f.mac → Waits (saw_reply received a s) a.coordinator.found (phase_of a.coordinator.stand) → Told s t Frame received a
    unfolding choose
    hears_tells {a} e none same nodes wait = go (wanted_at (Mac f.mac) t b) refl nodes
      where
        -- what is seen of the run there
        ran : (p : ℕ) → (saw_reply received a s).run p ≡ choose (heard_there received a s p) 0 (s.run p)
        ran = joined_none (λ q. choose (heard_there received a s q) 0 (s.run q)) 0 none

        go : (x : Bool) → wanted_at (Mac f.mac) t b ≡ x → a.nodes ≡ choose x (hear t b) t → Told s t Frame received a
        go true w n = reply_tells e (subst (λ (u : List Node). Tells s (saw_reply received a s) t (record { coordinator = a.coordinator; nodes = u; says = a.says; bytes = a.bytes; joined = a.joined; dropped = a.dropped })) (sym n) (listed_tells g (put_changes t b (heard (at t b)) board.from (inside c t h board) board.listed refl) refl (g.who b board.listed) (λ two three. omega arith) (record { listed = λ p. joined_none s.listed true none p ∙ changed_none s.listed b true (g.listed b ∙ board.listed) p; run = λ p. ran p ∙ run p (ℕ_discrete p b); who = λ p. joined_none s.who (given (teller received s)) none p ∙ changed_none s.who b (s.who b) refl p }) wait))
          where
            board : Board c t b
            board = board_listed c t h b (and_left (listed_at t b) (eqb (at t b).mac f.mac) w)

            run : (p : ℕ) → Dec (p ≡ b) → choose (heard_there received a s p) 0 (s.run p) ≡ changed s.run b 0 p
            run p (yes q) = rw (q, heard_here a same, w, eq-eqb b b refl) refl
            run p (no ne) = rw (heard_other a same p ne, ne_eqb p b ne) refl
        go false w n = silent_tells e none n (λ p. unheard p (ℕ_discrete p b)) wait
          where
            unheard : (p : ℕ) → Dec (p ≡ b) → heard_there received a s p ≡ false
            unheard p (yes q) = rw q (heard_here a same ∙ w)
            unheard p (no ne) = heard_other a same p ne

    -- a step that lists whoever answered, at the position at stake
    lists_tells : is_kind f.kind ≡ true → chosen t c.setup.k f.mac ≡ b → Told s t Frame received (acknowledged c.setup b f.version (joined_as (ended c) t f.kind f.mac f.session f.version))
    unfolding choose
    lists_tells one place = reply_tells refl (listed_tells g (joined_changes (ended c) t fit f.kind f.mac f.session f.version one found) refl refl (λ two three. omega arith) (record { listed = joined_one s.listed true least; run = λ p. joined_one (λ q. choose (heard_there received a s q) 0 (s.run q)) 0 least p ∙ run p (ℕ_discrete p j); who = λ p. joined_one s.who (given (teller received s)) least p ∙ ap (λ (x : Found). changed s.who j (given x) p) who }) (rw (phase_back resting) tt))
      where
        a : After
        a = acknowledged c.setup b f.version (joined_as (ended c) t f.kind f.mac f.session f.version)

        j : ℕ
        j = chosen t c.setup.k f.mac

        least : 1 ≤ j
        least = omega (arith, place, here.from)

        found : j ≡ 0 → ⊥
        found z = omega (arith, least)

        fit : fits (ended c) t ≡ true
        fit = ended_fits c t h

        run : (p : ℕ) → Dec (p ≡ j) → changed (λ q. choose (heard_there received a s q) 0 (s.run q)) j 0 p ≡ changed s.run j 0 p
        run p (yes e) = rw (eq-eqb p j e) refl
        run p (no ne) = rw (ne_eqb p j ne, heard_other a refl p (λ e. ne (e ∙ sym place))) refl

    -- where nobody is listed the exchange breaks off, with its ACK
    breaks_tells : Told s t Frame received (acknowledged c.setup b f.version (rested (ended c) (hear_mac t b f.mac) 0 0))
    breaks_tells = hears_tells refl refl refl refl (rw (phase_back resting) tt)

    -- whoever answered joins where his join is accepted and takes the position at stake
    settled_tells : (room : ℕ) → Told s t Frame received (settled c t b f room)
    unfolding choose join_of
    settled_tells room = by_room (ltb room 29)
      where
        Ends : After → Type 0
        Ends x = Told s t Frame received (acknowledged c.setup b f.version (choose (eqb x.joined b) x (rested (ended c) (hear_mac t b f.mac) 0 0)))

        refuses : (r : Refusal) → Ends (refused (ended c) t r)
        refuses r = rw (ne_eqb 0 b (λ e. omega (arith, here.from))) breaks_tells

        joins : Passed (join_rules (ended c) t f.kind f.mac f.version) → Ends (joined_as (ended c) t f.kind f.mac f.session f.version)
        joins passed = go (eqb (chosen t c.setup.k f.mac) b) refl
          where
            go : (x : Bool) → eqb (chosen t c.setup.k f.mac) b ≡ x → Told s t Frame received (acknowledged c.setup b f.version (choose x (joined_as (ended c) t f.kind f.mac f.session f.version) (rested (ended c) (hear_mac t b f.mac) 0 0)))
            go true e = lists_tells (not-false (is_kind f.kind) passed.1.0) (eqb-true _ b e)
            go false e = breaks_tells

        by_room : (x : Bool) → Told s t Frame received (choose x (refused c t NoRoom) (acknowledged c.setup b f.version (outcome c t b f)))
        by_room true = refused_tells s c t Frame received g NoRoom
        by_room false = by_rules Ends (join_rules (ended c) t f.kind f.mac f.version) (refused (ended c) t) (joined_as (ended c) t f.kind f.mac f.session f.version) (each refuses (join_rules (ended c) t f.kind f.mac f.version)) joins

-- each part, by what the frame is to it

module _ (s : Seen) (c : Coordinator) (t : List Node) (h : fits c t ≡ true) (g : Agrees s c t) (received : List ℕ) (p : ℕ) where
  -- a discovery's response: who answered is remembered, or the exchange breaks off
  answered_tells : s.wait ≡ 5 → Told s t Frame received (answered c t (discovered (header_of received).packet (payload received)))
  unfolding choose
  answered_tells e = go (ltb 0 (join_found c t (discovered (header_of received).packet (payload received))).joined) (join_found c t (discovered (header_of received).packet (payload received))).joined
    where
      unheard : (a : After) (q : ℕ) → heard_there received a s q ≡ false
      unheard a q = rw e refl

      go : (x : Bool) (j : ℕ) → Told s t Frame received (choose x (accepted (finding c (discovered (header_of received).packet (payload received)) j) t rests []) (accepted (ended c) t rests []))
      go true j = silent_tells s c t h g received (rw e refl) refl refl refl (unheard (accepted (finding c (discovered (header_of received).packet (payload received)) j) t rests [])) (rw (phase_back (seeking j IdentifyDue), e) (refl, refl))
      go false j = silent_tells s c t h g received (rw e refl) refl refl refl (unheard (accepted (ended c) t rests [])) (rw (phase_back resting) tt)

  module _ (here : Position c.setup.k p) (from : (header_of received).source ≡ address c.setup p) (room : ℕ) where
    -- in identify: an ACK, or the ID of who has the address
    identify_tells : s.wait ≡ 6 → s.found ≡ c.found → (m : ℕ) (acked : Bool) → Told s t Frame received (replied_as (heard_in_identify m (payload received) acked) p c t (header_of received).packet (payload received) room)
    unfolding choose
    identify_tells e found m acked = identify_replied (λ x. Told s t Frame received (replied_as x p c t (header_of received).packet (payload received) room)) (refused_tells s c t Frame received g UnexpectedType) m (payload received) acked (λ _ _ _ _. hears_tells s c t h g received (rw e refl) p here from (rw e refl) (identified c.found.version (payload received)) who refl refl refl refl (rw (phase_back (seeking p Present), e) ((refl, refl), found))) (λ _ _. settled_tells s c t h g received (rw e refl) p here from (rw e refl) (identified c.found.version (payload received)) who room)
      where
        who : teller received s ≡ identified c.found.version (payload received)
        who = rw (e, found) refl

    -- in assign: the echo of what was assigned
    assign_tells : s.wait ≡ 7 → s.found ≡ c.found → (m : ℕ) (same : Bool) → Told s t Frame received (replied_as (heard_in_assign m same) p c t (header_of received).packet (payload received) room)
    unfolding choose
    assign_tells e found m same = assign_replied (λ x. Told s t Frame received (replied_as x p c t (header_of received).packet (payload received) room)) (refused_tells s c t Frame received g UnexpectedType) m same (refused_tells s c t Frame received g BadEcho) (λ _ _. settled_tells s c t h g received (rw e refl) p here from (rw e refl) c.found (rw (e, found) refl) room)

  -- a frame from the source that the part awaits
  pub sought_tells : (part : Part) → phase_of c.stand ≡ Seeking p part → awaits (Seeking p part) c.setup (header_of received).source ≡ true → (room : ℕ) → Told s t Frame received (sought_in part p c t (header_of received) (payload received) room)
  sought_tells Search e from room = search_replied (λ x. Told s t Frame received (replied_as x p c t (header_of received).packet (payload received) room)) (refused_tells s c t Frame received g UnexpectedType) (header_of received).message (payload received) (λ _ _. answered_tells (rw e at g.wait).0)
  sought_tells IdentifyDue e from room = absurd (false≢true from)
  sought_tells Identify e from room = identify_tells (fits_stake c t h e).0 (eqb-true _ _ from) room (rw e at g.wait).0.0 (rw e at g.wait).1 (header_of received).message false
  sought_tells Present e from room = identify_tells (fits_stake c t h e).0 (eqb-true _ _ from) room (rw e at g.wait).0.0 (rw e at g.wait).1 (header_of received).message true
  sought_tells AssignDue e from room = absurd (false≢true from)
  sought_tells Assign e from room = assign_tells (fits_stake c t h e).0 (eqb-true _ _ from) room (rw e at g.wait).0.0 (rw e at g.wait).1 (header_of received).message _
