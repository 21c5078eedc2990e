-- That a discovery was started is remembered until an offer is made (02, C-11).
use Prim.Native.Nat.{ℕ, ◌≤◌}
use native.Mathlib.Omega.{arith}
use mathlib.Core.Path.{◌≡◌, refl, sym, ◌∙◌}
use mathlib.Core.Bool.{Bool, true, false, ◌&&◌, false≢true}
use mathlib.Core.List.{List}
use lib.Dec.{eqb, ltb}
use borrow.Author.Tests.{eqb-false}
use Rattle.std.specs.Prelude.{Result, Ok, Err}
use Rattle.ground.specs.Choose.{choose}
use Rattle.ground.proofs.Choices.{neither}
use Rattle.frame.specs.declared.Header.{Header}
use Rattle.frame.specs.Frame.{header_of}
use Rattle.board.specs.declared.Node.{Node}
use Rattle.board.specs.Wanted.{some_listed}
use Rattle.board.specs.Round.{next_listed}
use Rattle.refusal.specs.declared.Refusal.{Refusal}
use Rattle.accept.specs.declared.Heard.{Heard}
use Rattle.accept.specs.declared.Heard.TheVariants.{Ack, Echo, Deliver, Route, Answer}
use Rattle.accept.specs.declared.Reply.{Reply}
use Rattle.accept.specs.declared.Reply.TheVariants.{Discovered, Present as AckCame, Identified, Assigned}
use Rattle.coordinator.specs.declared.Coordinator.{Coordinator}
use Rattle.coordinator.specs.declared.Exchange.{Exchange}
use Rattle.coordinator.specs.declared.Exchange.TheVariants.{Offer, List as Listing, Forward, Return}
use Rattle.coordinator.specs.declared.Found.{Found}
use Rattle.coordinator.specs.declared.Part.{Part}
use Rattle.coordinator.specs.declared.Part.TheVariants.{Search, IdentifyDue, Identify, Present, AssignDue, Assign}
use Rattle.coordinator.specs.declared.Phase.{Phase}
use Rattle.coordinator.specs.declared.Phase.TheVariants.{Resting, Awaiting, ForwardDue, ReturnDue, Seeking, Unknown}
use Rattle.coordinator.specs.Phase.{phase_of}
use Rattle.coordinator.specs.Fit.{fits}
use Rattle.coordinator.proofs.Fitting.{board_listed, fits_searched}
use Rattle.coordinator.specs.Change.{ended}
use Rattle.steps.specs.After.{After}
use Rattle.steps.specs.Join.{join_rules, join_of}
use Rattle.steps.specs.Seek.{join_found, settled, reply_in, replied_as, quiet_in_seek}
use Rattle.steps.specs.Discover.{discover_rules, discover_of, searched}
use Rattle.steps.specs.Turn.{Due, owed_to, due_list, due_offer, due_own, due_seek, due_in, turn_rules, turn_in, turn_of}
use Rattle.steps.specs.Receive.{payload, receive_rules, receive_in, receive_of, taken_in, taken_as, acked, heard_in}
use Rattle.steps.specs.Quiet.{quiet_rules, quiet_in, quiet_of, quiet_value}
use Rattle.series.specs.Series.{is_accepted, offered_to}
use Rattle.lasting.proofs.Turn.{next_listed_lem}
use Rattle.lasting.proofs.Taken.{by_refusals, by_accepted, by_choice}

-- the memory that a discovery was started is as it was
abbrev pub Remembers : Coordinator → After → Type 0
Remembers c a = a.coordinator.searched ≡ c.searched

-- where one of two tests holds and not both, the other fails
other_fails : (a b : Bool) → b ≡ true → (a && b) ≡ false → a ≡ false
other_fails true b h e = sym h ∙ e
other_fails false b h e = refl

-- a join, taken or refused
pub join_remembers : (c : Coordinator) (t : List Node) (kind mac session version : ℕ) → Remembers c (join_of c t kind mac session version)
unfolding join_of
join_remembers c t kind mac session version = by_refusals c t (Remembers c) (join_rules c t kind mac version) _ (λ r. refl) (λ _. refl)

module _ (c : Coordinator) (t : List Node) where
  -- an ACK leaves it, in each exchange
  acked_remembers : (x : Exchange) (board requester : ℕ) (u : List Node) → Remembers c (acked x board requester c u)
  acked_remembers Offer board requester u = refl
  acked_remembers Listing board requester u = refl
  acked_remembers Forward board requester u = refl
  acked_remembers Return board requester u = refl

  -- so does whatever a wait for a board takes
  taken_remembers : (x : Result Heard Refusal) (exchange : Exchange) (board requester : ℕ) (h : Header) (p : List ℕ) (room : ℕ) → Remembers c (taken_as x exchange board requester c t h p room)
  taken_remembers (Ok Ack) exchange board requester h p room = acked_remembers exchange board requester _
  taken_remembers (Ok Echo) exchange board requester h p room = by_choice (Remembers c) (ltb room 29) _ _ (λ _. refl) (λ _. refl)
  taken_remembers (Ok Deliver) exchange board requester h p room = by_choice (Remembers c) (ltb room 29) _ _ (λ _. refl) (λ _. refl)
  taken_remembers (Ok Route) exchange board requester h p room = by_choice (Remembers c) (ltb room 29) _ _ (λ _. refl) (λ _. by_choice (λ (d : Coordinator). d.searched ≡ c.searched) _ _ _ (λ _. refl) (λ _. refl))
  taken_remembers (Ok Answer) exchange board requester h p room = by_choice (Remembers c) (ltb room 29) _ _ (λ _. refl) (λ _. refl)
  taken_remembers (Err r) exchange board requester h p room = refl

  -- a response that ends the exchange by which a board joins
  settled_remembers : (position : ℕ) (f : Found) (room : ℕ) → Remembers c (settled c t position f room)
  settled_remembers position f room = by_choice (Remembers c) (ltb room 29) _ _ (λ _. refl) (λ _. by_choice (Remembers c) (eqb (join_found c t f).joined position) _ _ (λ _. join_remembers (ended c) t f.kind f.mac f.session f.version) (λ _. refl))

  -- and whatever that exchange takes
  replied_remembers : (x : Result Reply Refusal) (position packet : ℕ) (p : List ℕ) (room : ℕ) → Remembers c (replied_as x position c t packet p room)
  replied_remembers (Ok Discovered) position packet p room = by_choice (Remembers c) _ _ _ (λ _. refl) (λ _. refl)
  replied_remembers (Ok AckCame) position packet p room = refl
  replied_remembers (Ok Identified) position packet p room = settled_remembers position _ room
  replied_remembers (Ok Assigned) position packet p room = settled_remembers position _ room
  replied_remembers (Err r) position packet p room = refl

  -- a frame in any phase
  in_remembers : (phase : Phase) (h : Header) (p : List ℕ) (room : ℕ) → Remembers c (taken_in phase c t h p room)
  in_remembers Resting h p room = refl
  in_remembers (Awaiting board exchange requester acked) h p room = taken_remembers (heard_in exchange board acked c t h p) exchange board requester h p room
  in_remembers (ForwardDue board requester) h p room = refl
  in_remembers (ReturnDue board) h p room = refl
  in_remembers (Seeking position part) h p room = replied_remembers (reply_in part position c h p) position h.packet p room
  in_remembers Unknown h p room = refl

  -- a frame, taken or refused
  pub receive_remembers : (b : List ℕ) (room : ℕ) → Remembers c (receive_of c t b room)
  unfolding receive_in
  receive_remembers b room = by_refusals c t (Remembers c) (receive_rules (phase_of c.stand) c t b) _ (λ r. refl) (λ _. in_remembers (phase_of c.stand) (header_of b) (payload b) room)

  -- a quiet in the exchange by which a board joins
  seek_remembers : (part : Part) (position : ℕ) → Remembers c (quiet_in_seek part position c t)
  seek_remembers Search position = refl
  seek_remembers IdentifyDue position = refl
  seek_remembers Identify position = refl
  seek_remembers Present position = refl
  seek_remembers AssignDue position = refl
  seek_remembers Assign position = refl

  -- a quiet in any phase
  quiet_remembers : (phase : Phase) → Remembers c (quiet_value phase c t)
  quiet_remembers Resting = refl
  quiet_remembers (Awaiting board exchange requester acked) = by_choice (Remembers c) acked _ _ (λ _. refl) (λ _. by_choice (Remembers c) _ _ _ (λ _. refl) (λ _. by_choice (λ (d : Coordinator). d.searched ≡ c.searched) _ _ _ (λ _. refl) (λ _. refl)))
  quiet_remembers (ForwardDue board requester) = refl
  quiet_remembers (ReturnDue board) = refl
  quiet_remembers (Seeking position part) = seek_remembers part position
  quiet_remembers Unknown = refl

  -- a quiet, taken or refused
  pub quieted_remembers : Remembers c (quiet_of c t)
  unfolding quiet_in
  quieted_remembers = by_refusals c t (Remembers c) (quiet_rules (phase_of c.stand) c t) _ (λ r. refl) (λ _. quiet_remembers (phase_of c.stand))

  -- a turn forgets it only with an offer, which is made to somebody
  module _ (fit : fits c t ≡ true) (someone : some_listed t ≡ true) where
    abbrev UnlessOffer : Due → Type 0
    UnlessOffer d = offered_to d.says ≡ 0 → d.coordinator.searched ≡ c.searched

    -- an offer is made to a position
    next_from : 1 ≤ next_listed t c.setup.k c.last
    next_from = (board_listed c t fit (next_listed t c.setup.k c.last) (next_listed_lem c t fit someone)).from

    -- so the list and an offer, what is due in the exchange, and what is due in any phase
    own_remembers : UnlessOffer (due_own c t)
    unfolding choose
    own_remembers = go (ltb 0 (owed_to c t))
      where
        go : (b : Bool) → UnlessOffer (choose b (due_list c t (owed_to c t)) (due_offer c t (next_listed t c.setup.k c.last)))
        go true e = refl
        go false e = absurd (let z : ⊥ = omega (arith, next_from, e) in z)

    part_remembers : (part : Part) (position : ℕ) → UnlessOffer (due_seek part c t position)
    part_remembers Search position = own_remembers
    part_remembers IdentifyDue position = λ _. refl
    part_remembers Identify position = own_remembers
    part_remembers Present position = own_remembers
    part_remembers AssignDue position = λ _. refl
    part_remembers Assign position = own_remembers

    due_remembers : (phase : Phase) → UnlessOffer (due_in phase c t)
    due_remembers Resting = own_remembers
    due_remembers (Awaiting board exchange requester acked) = own_remembers
    due_remembers (ForwardDue board requester) = λ _. refl
    due_remembers (ReturnDue board) = λ _. refl
    due_remembers (Seeking position part) = part_remembers part position
    due_remembers Unknown = own_remembers

    -- a turn, taken or refused
    pub turn_remembers : (room : ℕ) → offered_to (turn_of c t room).says ≡ 0 → Remembers c (turn_of c t room)
    unfolding turn_in
    turn_remembers room = by_refusals c t (λ a. offered_to a.says ≡ 0 → Remembers c a) (turn_rules (phase_of c.stand) c t room) _ (λ r _. refl) (λ _. due_remembers (phase_of c.stand))

    -- a discovery that is accepted was the first, and is remembered
    abbrev pub FirstOne : After → Type 0
    FirstOne a = (c.searched ≡ 0) × (a.coordinator.searched ≡ 1)

    pub discover_first : (room : ℕ) → is_accepted (discover_of c t room).says ≡ true → FirstOne (discover_of c t room)
    unfolding discover_of
    discover_first room = by_accepted c t FirstOne (discover_rules c t room) (searched c t) (λ passed _. (first (neither (eqb c.held 1) (eqb c.searched 1 && some_listed t) passed.1.1.0).1, refl))
      where
        first : (eqb c.searched 1 && some_listed t) ≡ false → c.searched ≡ 0
        first e = omega (arith, fits_searched c t fit, eqb-false c.searched 1 (other_fails (eqb c.searched 1) (some_listed t) someone e))

    -- one that is refused leaves it
    pub discover_refused : (room : ℕ) → is_accepted (discover_of c t room).says ≡ false → Remembers c (discover_of c t room)
    unfolding discover_of
    discover_refused room = by_refusals c t (λ a. is_accepted a.says ≡ false → Remembers c a) (discover_rules c t room) _ (λ r _. refl) (λ _ e. absurd (false≢true (sym e)))
