-- Demand 1 over every step: one that refuses leaves coordinator, records and output as they were, and names nobody.
use Prim.Native.Nat.{ℕ}
use native.Mathlib.Omega.{arith}
use mathlib.Core.Path.{◌≡◌, refl, sym, ap, ◌∙◌}
use mathlib.Core.Logic.{◌⊎◌, inl, inr}
use mathlib.Core.Bool.{Bool, true, false}
use mathlib.Core.List.{List, [], ◌∷◌}
use lib.Dec.{ltb}
use Rattle.std.specs.Prelude.{Result, Ok, Err}
use Rattle.ground.specs.Choose.{choose}
use Rattle.ground.specs.Bytes.{laid}
use Rattle.refusal.specs.Refusal.{Told, ruled}
use Rattle.refusal.specs.declared.Refusal.{Refusal}
use Rattle.refusal.specs.declared.Refusal.TheVariants.{NotWaiting, NotAwaited, NoRoom}
use Rattle.refusal.proofs.Numbers.{not_seventeen}
use Rattle.frame.specs.declared.Header.{Header}
use Rattle.frame.specs.Frame.{header_of}
use Rattle.board.specs.declared.Node.{Node}
use Rattle.board.specs.Table.{at}
use Rattle.board.specs.Round.{next_listed}
use Rattle.accept.specs.declared.Heard.{Heard}
use Rattle.accept.specs.declared.Heard.TheVariants.{Ack, Echo, Deliver, Route, Answer}
use Rattle.accept.specs.declared.Reply.{Reply}
use Rattle.accept.specs.declared.Reply.TheVariants.{Discovered, Present as AckCame, Identified, Assigned}
use Rattle.coordinator.specs.declared.Coordinator.{Coordinator}
use Rattle.coordinator.specs.declared.Exchange.{Exchange}
use Rattle.coordinator.specs.declared.Exchange.TheVariants.{Offer, List as Listing, Forward, Return}
use Rattle.coordinator.specs.declared.Part.{Part}
use Rattle.coordinator.specs.declared.Part.TheVariants.{Search, IdentifyDue, Identify, Present, AssignDue, Assign}
use Rattle.coordinator.specs.declared.Phase.{Phase}
use Rattle.coordinator.specs.declared.Phase.TheVariants.{Resting, Awaiting, ForwardDue, ReturnDue, Seeking, Unknown}
use Rattle.coordinator.specs.Phase.{phase_of}
use Rattle.steps.specs.declared.Event.{Event}
use Rattle.steps.specs.declared.Event.TheVariants.{Join, Turn, Frame, Quiet, Discover}
use Rattle.steps.specs.After.{After, refused, delivers, transmits}
use Rattle.steps.specs.Start.{start_rules, start_of}
use Rattle.steps.specs.Join.{join_rules, join_of}
use Rattle.steps.specs.Seek.{reply_in, replied_as, quiet_in_seek}
use Rattle.steps.specs.Discover.{discover_rules, discover_of}
use Rattle.steps.specs.Turn.{owed_to, due_list, due_offer, due_own, due_seek, due_in, turn_rules, turn_in}
use Rattle.steps.specs.Receive.{payload, receive_rules, receive_in, taken_in, taken_as, acked, acking, heard_in}
use Rattle.steps.specs.Quiet.{quiet_rules, quiet_in, quiet_value}
use Rattle.steps.specs.Step.{step_of}

-- a step is taken, or it is the refusal that leaves all as it was
abbrev pub Plain : Coordinator → List Node → After → Type 0
Plain c t a = (a.says.number ≡ 0) ⊎ ((r : Refusal) × (a ≡ refused c t r))

refusing : {c : Coordinator} {t : List Node} (r : Refusal) → Plain c t (refused c t r)
refusing r = inr (r, refl)

module _ (c : Coordinator) (t : List Node) where
  -- a choice of two such is one, and so is a chain of refusals
  plain_choice : (b : Bool) (x y : After) → Plain c t x → Plain c t y → Plain c t (choose b x y)
  unfolding choose
  plain_choice true x y p q = p
  plain_choice false x y p q = q

  plain_ruled : (rules : List (Bool × Refusal)) (v : After) → Plain c t v → Plain c t (ruled rules (refused c t) v)
  plain_ruled [] v p = p
  plain_ruled (rule ∷ rules) v p = plain_choice rule.0 (refused c t rule.1) (ruled rules (refused c t) v) (refusing rule.1) (plain_ruled rules v p)

  plain_acking : (board room : ℕ) (says : Told) (after : Coordinator) → says.number ≡ 0 → Plain c t (acking c t board room says after)
  plain_acking board room says after e = plain_choice (ltb room 29) _ _ (refusing NoRoom) (inl e)

  plain_acked : (exchange : Exchange) (board requester : ℕ) (u : List Node) → (acked exchange board requester c u).says.number ≡ 0
  plain_acked Offer board requester u = refl
  plain_acked Listing board requester u = refl
  plain_acked Forward board requester u = refl
  plain_acked Return board requester u = refl

  plain_taken : (heard : Result Heard Refusal) (exchange : Exchange) (board requester : ℕ) (h : Header) (p : List ℕ) (room : ℕ) → Plain c t (taken_as heard exchange board requester c t h p room)
  plain_taken (Ok Ack) exchange board requester h p room = inl (plain_acked exchange board requester _)
  plain_taken (Ok Echo) exchange board requester h p room = plain_acking board room transmits _ refl
  plain_taken (Ok Deliver) exchange board requester h p room = plain_acking board room delivers _ refl
  plain_taken (Ok Route) exchange board requester h p room = plain_acking board room transmits _ refl
  plain_taken (Ok Answer) exchange board requester h p room = plain_acking board room transmits _ refl
  plain_taken (Err r) exchange board requester h p room = refusing r

  plain_replied : (reply : Result Reply Refusal) (position packet : ℕ) (p : List ℕ) (room : ℕ) → Plain c t (replied_as reply position c t packet p room)
  plain_replied (Ok Discovered) position packet p room = plain_choice _ _ _ (inl refl) (inl refl)
  plain_replied (Ok AckCame) position packet p room = inl refl
  plain_replied (Ok Identified) position packet p room = plain_choice (ltb room 29) _ _ (refusing NoRoom) (inl refl)
  plain_replied (Ok Assigned) position packet p room = plain_choice (ltb room 29) _ _ (refusing NoRoom) (inl refl)
  plain_replied (Err r) position packet p room = refusing r

  plain_seek : (part : Part) (position : ℕ) → Plain c t (quiet_in_seek part position c t)
  plain_seek Search position = inl refl
  plain_seek IdentifyDue position = refusing NotWaiting
  plain_seek Identify position = inl refl
  plain_seek Present position = inl refl
  plain_seek AssignDue position = refusing NotWaiting
  plain_seek Assign position = inl refl

  plain_in : (phase : Phase) (h : Header) (p : List ℕ) (room : ℕ) → Plain c t (taken_in phase c t h p room)
  plain_in Resting h p room = refusing NotAwaited
  plain_in (Awaiting board exchange requester acked) h p room = plain_taken (heard_in exchange board acked c t h p) exchange board requester h p room
  plain_in (ForwardDue board requester) h p room = refusing NotAwaited
  plain_in (ReturnDue board) h p room = refusing NotAwaited
  plain_in (Seeking position part) h p room = plain_replied (reply_in part position c h p) position h.packet p room
  plain_in Unknown h p room = refusing NotAwaited

  plain_quiet : (phase : Phase) → Plain c t (quiet_value phase c t)
  plain_quiet Resting = refusing NotWaiting
  plain_quiet (Awaiting board exchange requester acked) = plain_choice acked _ _ (inl refl) (plain_choice (ltb (at t board).misses 2) _ _ (inl refl) (inl refl))
  plain_quiet (ForwardDue board requester) = refusing NotWaiting
  plain_quiet (ReturnDue board) = refusing NotWaiting
  plain_quiet (Seeking position part) = plain_seek part position
  plain_quiet Unknown = refusing NotWaiting

  -- what is due says a wait
  plain_own : (due_own c t).says.number ≡ 0
  unfolding choose
  plain_own = go (ltb 0 (owed_to c t))
    where
      go : (b : Bool) → (choose b (due_list c t (owed_to c t)) (due_offer c t (next_listed t c.setup.k c.last))).says.number ≡ 0
      go true = refl
      go false = refl

  plain_part : (part : Part) (position : ℕ) → (due_seek part c t position).says.number ≡ 0
  plain_part Search position = plain_own
  plain_part IdentifyDue position = refl
  plain_part Identify position = plain_own
  plain_part Present position = plain_own
  plain_part AssignDue position = refl
  plain_part Assign position = plain_own

  pub plain_due : (phase : Phase) → (due_in phase c t).says.number ≡ 0
  plain_due Resting = plain_own
  plain_due (Awaiting board exchange requester acked) = plain_own
  plain_due (ForwardDue board requester) = refl
  plain_due (ReturnDue board) = refl
  plain_due (Seeking position part) = plain_part part position
  plain_due Unknown = plain_own

  pub plain_step : (event : Event) (b : List ℕ) (room : ℕ) → Plain c t (step_of c t event b room)
  unfolding join_of turn_in receive_in quiet_in discover_of
  plain_step (Join kind mac session version) b room = plain_ruled (join_rules c t kind mac version) _ (inl refl)
  plain_step Turn b room = plain_ruled (turn_rules (phase_of c.stand) c t room) _ (inl (plain_due (phase_of c.stand)))
  plain_step Frame b room = plain_ruled (receive_rules (phase_of c.stand) c t b) _ (plain_in (phase_of c.stand) (header_of b) (payload b) room)
  plain_step Quiet b room = plain_ruled (quiet_rules (phase_of c.stand) c t) _ (plain_quiet (phase_of c.stand))
  plain_step Discover b room = plain_ruled (discover_rules c t room) _ (inl refl)

  pub plain_start : (addresses : List ℕ) (subnet internal mac session : ℕ) → Plain c t (start_of c t addresses subnet internal mac session)
  unfolding start_of
  plain_start addresses subnet internal mac session = plain_ruled (start_rules t addresses mac) _ (inl refl)

-- a step with a number leaves coordinator and records as they were, joins nobody, drops nobody, and leaves the lent output as it was
pub record Unchanged (c : Coordinator) (t : List Node) (a : After) : Type 0 where
  pub coordinator : a.coordinator ≡ c
  pub nodes : a.nodes ≡ t
  pub joined : a.joined ≡ 0
  pub dropped : a.dropped ≡ 0
  pub output : (out : List ℕ) → laid a.bytes out ≡ out

unchanged : (c : Coordinator) (t : List Node) (a : After) → Plain c t a → (a.says.number ≡ 0 → ⊥) → Unchanged c t a
unchanged c t a (inl e) n = absurd (n e)
unchanged c t a (inr (r, e)) n =
    record {
      coordinator = ap (λ (x : After). x.coordinator) e;
      nodes = ap (λ (x : After). x.nodes) e;
      joined = ap (λ (x : After). x.joined) e;
      dropped = ap (λ (x : After). x.dropped) e;
      output = λ out. ap (λ (x : After). laid x.bytes out) e;
    }

-- a refused step changes nothing
pub refusal_changes_nothing : (c : Coordinator) (t : List Node) (event : Event) (b : List ℕ) (room : ℕ) → ((step_of c t event b room).says.number ≡ 0 → ⊥) → Unchanged c t (step_of c t event b room)
refusal_changes_nothing c t event b room n = unchanged c t (step_of c t event b room) (plain_step c t event b room) n

-- and so does a refused setup
pub refused_setup_changes_nothing : (c : Coordinator) (t : List Node) (addresses : List ℕ) (subnet internal mac session : ℕ) → ((start_of c t addresses subnet internal mac session).says.number ≡ 0 → ⊥) → Unchanged c t (start_of c t addresses subnet internal mac session)
refused_setup_changes_nothing c t addresses subnet internal mac session n = unchanged c t (start_of c t addresses subnet internal mac session) (plain_start c t addresses subnet internal mac session) n

-- the retired number

unsaid : (c : Coordinator) (t : List Node) (a : After) → Plain c t a → a.says.number ≡ 17 → ⊥
unsaid c t a (inl e) h = omega (arith, e, h)
unsaid c t a (inr (r, e)) h = not_seventeen r (ap (λ (x : After). x.says.number) (sym e) ∙ h)

-- no step says 17, whatever is lent (02, C-23)
pub step_never_seventeen : (c : Coordinator) (t : List Node) (event : Event) (b : List ℕ) (room : ℕ) → (step_of c t event b room).says.number ≡ 17 → ⊥
step_never_seventeen c t event b room = unsaid c t (step_of c t event b room) (plain_step c t event b room)

-- and no setup does
pub setup_never_seventeen : (c : Coordinator) (t : List Node) (addresses : List ℕ) (subnet internal mac session : ℕ) → (start_of c t addresses subnet internal mac session).says.number ≡ 17 → ⊥
setup_never_seventeen c t addresses subnet internal mac session = unsaid c t (start_of c t addresses subnet internal mac session) (plain_start c t addresses subnet internal mac session)
