-- What a step tells is small: the position awaited, the position joined and the one dropped are at most 40, and at most 252 bytes are written.
use Prim.Native.Nat.{ℕ, ◌≤◌, ◌/◌, ◌%◌, min}
use native.Mathlib.Omega.{arith}
use mathlib.Core.Path.{◌≡◌, refl, sym, ap, subst, ◌∙◌}
use mathlib.Core.Logic.{◌⊎◌, inl, inr}
use mathlib.Core.Bool.{Bool, true, false}
use mathlib.Core.List.{List, [], ◌∷◌}
use lib.Dec.{eqb, ltb}
use lib.ListN.{length, get_or}
use borrow.Author.Tests.{not-false}
use Rattle.std.specs.Prelude.{Result, Ok, Err}
use Rattle.ground.specs.Choose.{choose}
use Rattle.ground.proofs.Firsts.{FirstCase}
use Rattle.refusal.specs.Refusal.{Told}
use Rattle.refusal.proofs.Rules.{Passed, passed, each, by_rules}
use Rattle.frame.specs.declared.Header.{Header}
use Rattle.frame.specs.Frame.{ReadsWell}
use Rattle.frame.proofs.Told.{read_whole}
use Rattle.board.specs.declared.Node.{Node}
use Rattle.board.specs.declared.Wanted.{Wanted}
use Rattle.board.specs.declared.Wanted.TheVariants.{Mac, Free}
use Rattle.board.specs.Table.{at, listed_at}
use Rattle.board.specs.Wanted.{wanted_at, lowest_of}
use Rattle.board.proofs.Positions.{listed_within}
use Rattle.board.proofs.LowestWanted.{lowest_case}
use Rattle.setup.specs.Setup.{subnet_of}
use Rattle.refusal.specs.declared.Refusal.{Refusal}
use Rattle.accept.specs.declared.Heard.{Heard}
use Rattle.accept.specs.declared.Heard.TheVariants.{Ack, Echo, Deliver, Route, Answer}
use Rattle.accept.specs.declared.Reply.{Reply}
use Rattle.accept.specs.declared.Reply.TheVariants.{Discovered, Present as AckCame, Identified, Assigned}
use Rattle.coordinator.specs.declared.Coordinator.{Coordinator}
use Rattle.coordinator.specs.declared.Found.{Found}
use Rattle.coordinator.specs.declared.Exchange.{Exchange}
use Rattle.coordinator.specs.declared.Exchange.TheVariants.{Offer, List as Listing, Forward, Return}
use Rattle.coordinator.specs.declared.Part.{Part}
use Rattle.coordinator.specs.declared.Part.TheVariants.{Search, IdentifyDue, Identify, Present, AssignDue, Assign}
use Rattle.coordinator.specs.declared.Phase.{Phase}
use Rattle.coordinator.specs.declared.Phase.TheVariants.{Resting, Awaiting, ForwardDue, ReturnDue, Seeking, Unknown}
use Rattle.coordinator.specs.Phase.{phase_of}
use Rattle.coordinator.specs.Fit.{fits}
use Rattle.coordinator.proofs.Fitting.{fits_forty, fit_told, fits_stake, awaited}
use Rattle.steps.specs.declared.Event.{Event}
use Rattle.steps.specs.declared.Event.TheVariants.{Join, Turn, Frame, Quiet, Discover}
use Rattle.steps.specs.declared.Seek.{Seek as Seeks}
use Rattle.steps.specs.declared.Seek.TheVariants.{Search as ToSearch, Identify as ToIdentify, Assign as ToAssign}
use Rattle.steps.specs.After.{After, refused, waits, seeks}
use Rattle.steps.specs.Join.{known, chosen, join_rules, join_of}
use Rattle.steps.specs.Turn.{due_in, sent, turn_rules, turn_in, turn_of}
use Rattle.steps.specs.Seek.{join_found, outcome, settled, reply_in, replied_as, quiet_in_seek}
use Rattle.steps.specs.Receive.{heard_in, acked, taken_as, taken_in, receive_rules, receive_in}
use Rattle.steps.specs.Quiet.{quiet_rules, quiet_value, quiet_in}
use Rattle.steps.specs.Discover.{discover_rules, discover_of}
use Rattle.steps.specs.Step.{step_of}
use Rattle.steps.proofs.Refusals.{plain_due}
use Rattle.turn.proofs.Transmissions.{Asks, turn_waits, turn_goes, turn_asks}
use Rattle.stepping.proofs.Written.{Written, nothing, to_board_lem, to_stake, to_all, step_written}
use Rattle.lent.specs.Numbers.{parts}
use Rattle.lent.proofs.Faces.{whole_parts}

-- a good frame is 12 bytes and a payload
good_small : (ours : ℕ) (bytes : List ℕ) → ReadsWell ours bytes → length bytes ≤ 252
good_small ours bytes good = omega (arith, (read_whole ours bytes _ good).bytes)

-- and whatever is written is one
pub written_small : (c : Coordinator) (t : List Node) (event : Event) (b : List ℕ) (room : ℕ) → length (step_of c t event b room).bytes ≤ 252
written_small c t event b room = go (step_of c t event b room).bytes (step_written c t event b room)
  where
    go : (bytes : List ℕ) → Written c t bytes → length bytes ≤ 252
    go bytes (nothing e) = omega (arith, ap length e)
    go bytes (to_board_lem board goes) = good_small (subnet_of c.setup (at t board).version) bytes goes.reaches.good
    go bytes (to_stake position part e reaches) = good_small (subnet_of c.setup c.found.version) bytes reaches.good
    go bytes (to_all broadcast) = good_small 0 bytes (broadcast.good 0)

-- at most forty: the position awaited, the position joined, the position dropped
abbrev Few : After → Type 0
Few a = (get_or a.says.values 1 0 ≤ 40) × (a.joined ≤ 40) × (a.dropped ≤ 40)

none : (0 ≤ 40) × (0 ≤ 40) × (0 ≤ 40)
none = (omega arith, omega arith, omega arith)

few_choice : (b : Bool) (x y : After) → Few x → Few y → Few (choose b x y)
unfolding choose
few_choice true x y p q = p
few_choice false x y p q = q

-- a position that is looked for is one of forty, and so is the one that a join takes
few_lowest : (t : List Node) (w : Wanted) (k : ℕ) → lowest_of t w k ≤ 40
few_lowest t w k = go (lowest_case t w k)
  where
    go : FirstCase 0 (wanted_at w t) 1 (min k 40) (lowest_of t w k) → lowest_of t w k ≤ 40
    go (inl (none, zeroed)) = omega (arith, zeroed)
    go (inr f) = omega (arith, f.within)

few_chosen : (t : List Node) (k mac : ℕ) → chosen t k mac ≤ 40
unfolding choose
few_chosen t k mac = go (ltb 0 (known t k mac))
  where
    go : (b : Bool) → choose b (known t k mac) (lowest_of t Free k) ≤ 40
    go true = few_lowest t (Mac mac) k
    go false = few_lowest t Free k

few_join : (c : Coordinator) (t : List Node) (kind mac session version : ℕ) → Few (join_of c t kind mac session version)
unfolding join_of
few_join c t kind mac session version = by_rules Few (join_rules c t kind mac version) (refused c t) _ (each (λ r. none) (join_rules c t kind mac version)) (λ ok. (omega arith, few_chosen t c.setup.k mac, omega arith))

module _ (c : Coordinator) (t : List Node) where
  -- an exchange that ends joins the board that it was about, or nobody
  few_settled : (position : ℕ) (f : Found) (room : ℕ) → Few (settled c t position f room)
  few_settled position f room = few_choice (ltb room 29) _ _ none (omega arith, ends.1, omega arith)
    where
      ends : Few (outcome c t position f)
      ends = few_choice (eqb (join_found c t f).joined position) _ _ (few_join _ t f.kind f.mac f.session f.version) none

  few_replied : (r : Result Reply Refusal) (position packet : ℕ) (p : List ℕ) (room : ℕ) → position ≤ 40 → Few (replied_as r position c t packet p room)
  few_replied (Ok Discovered) position packet p room h = few_choice (ltb 0 (join_found c t _).joined) _ _ none none
  few_replied (Ok AckCame) position packet p room h = (h, omega arith, omega arith)
  few_replied (Ok Identified) position packet p room h = few_settled position _ room
  few_replied (Ok Assigned) position packet p room h = few_settled position _ room
  few_replied (Err r) position packet p room h = none

  few_quiet_in_seek : (part : Part) (position : ℕ) → Few (quiet_in_seek part position c t)
  few_quiet_in_seek Search position = none
  few_quiet_in_seek IdentifyDue position = none
  few_quiet_in_seek Identify position = none
  few_quiet_in_seek Present position = none
  few_quiet_in_seek AssignDue position = none
  few_quiet_in_seek Assign position = none

  -- in a wait the board is listed, and a position at stake is one of the pool's
  module _ (fit : fits c t ≡ true) where
    few_board : (p : ℕ) → listed_at t p ≡ true → p ≤ 40
    few_board p l = (listed_within t p (fits_forty c t fit) l).1

    few_stake : {p : ℕ} {part : Part} → phase_of c.stand ≡ Seeking p part → p ≤ 40
    few_stake e = omega (arith, (fits_stake c t fit e).0.up_to, (fit_told c t fit).setup.pool.up_to)

    few_acked : (e : Exchange) (b q : ℕ) (u : List Node) → b ≤ 40 → Few (acked e b q c u)
    few_acked Offer b q u h = none
    few_acked Listing b q u h = none
    few_acked Forward b q u h = (h, omega arith, omega arith)
    few_acked Return b q u h = none

    few_heard : (k : Result Heard Refusal) (e : Exchange) (b q : ℕ) (h : Header) (p : List ℕ) (room : ℕ) → b ≤ 40 → Few (taken_as k e b q c t h p room)
    few_heard (Ok Ack) e b q h p room l = few_acked e b q _ l
    few_heard (Ok Echo) e b q h p room l = few_choice (ltb room 29) _ _ none none
    few_heard (Ok Deliver) e b q h p room l = few_choice (ltb room 29) _ _ none none
    few_heard (Ok Route) e b q h p room l = few_choice (ltb room 29) _ _ none none
    few_heard (Ok Answer) e b q h p room l = few_choice (ltb room 29) _ _ none none
    few_heard (Err r) e b q h p room l = none

    few_taken : (w : Phase) (h : Header) (p : List ℕ) (room : ℕ) → phase_of c.stand ≡ w → Few (taken_in w c t h p room)
    few_taken Resting h p room e = none
    few_taken (Awaiting b x q a) h p room e = few_heard (heard_in x b a c t h p) x b q h p room (few_board b (awaited c t fit e).listed)
    few_taken (ForwardDue b q) h p room e = none
    few_taken (ReturnDue b) h p room e = none
    few_taken (Seeking q part) h p room e = few_replied (reply_in part q c h p) q h.packet p room (few_stake e)
    few_taken Unknown h p room e = none

    few_quiet : (w : Phase) → phase_of c.stand ≡ w → Few (quiet_value w c t)
    few_quiet Resting e = none
    few_quiet (Awaiting b x q a) e = few_choice a _ _ none (few_choice (ltb (at t b).misses 2) _ _ none (omega arith, omega arith, few_board b (awaited c t fit e).listed))
    few_quiet (ForwardDue b q) e = none
    few_quiet (ReturnDue b) e = none
    few_quiet (Seeking q part) e = few_quiet_in_seek part q
    few_quiet Unknown e = none

    -- a turn waits for a listed board or has a position at stake
    few_due : (room : ℕ) → Passed (turn_rules (phase_of c.stand) c t room) → get_or (due_in (phase_of c.stand) c t).says.values 1 0 ≤ 40
    unfolding turn_in
    few_due room ok = go (turn_waits c t room (ap (λ (s : Told). s.number) said ∙ plain_due c t (phase_of c.stand)))
      where
        said : (turn_of c t room).says ≡ (due_in (phase_of c.stand) c t).says
        said = ap (λ (a : After). a.says) (passed (turn_rules (phase_of c.stand) c t room) (refused c t) (sent (due_in (phase_of c.stand) c t)) ok)

        named : {s : Told} → (turn_of c t room).says ≡ s → get_or s.values 1 0 ≤ 40 → get_or (due_in (phase_of c.stand) c t).says.values 1 0 ≤ 40
        named w h = subst (λ (x : Told). get_or x.values 1 0 ≤ 40) (sym w ∙ said) h

        asked : (p : ℕ) (s : Seeks) → Asks c t s p (turn_of c t room).bytes → p ≤ 40
        asked p ToSearch h = absurd h
        asked p ToIdentify h = few_stake h.0
        asked p ToAssign h = few_stake h.0

        go : ((b : ℕ) × (e : Exchange) × ((turn_of c t room).says ≡ waits b e)) ⊎ ((p : ℕ) × (s : Seeks) × ((turn_of c t room).says ≡ seeks p s)) → get_or (due_in (phase_of c.stand) c t).says.values 1 0 ≤ 40
        go (inl (b, e, w)) = named w (few_board b (turn_goes c t room b e w).listed)
        go (inr (p, s, w)) = named w (asked p s (turn_asks c t room p s w))

  pub step_few : (event : Event) (b : List ℕ) (room : ℕ) → Few (step_of c t event b room)
  unfolding turn_in receive_in quiet_in discover_of
  step_few (Join kind mac session version) b room = few_join c t kind mac session version
  step_few Turn b room = by_rules Few (turn_rules (phase_of c.stand) c t room) (refused c t) _ (each (λ r. none) (turn_rules (phase_of c.stand) c t room)) (λ ok. (few_due (not-false _ ok.0) room ok, omega arith, omega arith))
  step_few Frame b room = by_rules Few (receive_rules (phase_of c.stand) c t b) (refused c t) _ (each (λ r. none) (receive_rules (phase_of c.stand) c t b)) (λ ok. few_taken (not-false _ ok.0) (phase_of c.stand) _ _ room refl)
  step_few Quiet b room = by_rules Few (quiet_rules (phase_of c.stand) c t) (refused c t) _ (each (λ r. none) (quiet_rules (phase_of c.stand) c t)) (λ ok. few_quiet (not-false _ ok.0) (phase_of c.stand) refl)
  step_few Discover b room = by_rules Few (discover_rules c t room) (refused c t) _ (each (λ r. none) (discover_rules c t room)) (λ ok. (few_lowest t Free c.setup.k, omega arith, omega arith))

-- so each part of a step's packed answer is its number whole; the count of bytes is its low byte, for it is below 256
pub step_parts : (c : Coordinator) (t : List Node) (event : Event) (b : List ℕ) (room : ℕ) (a : After) → a ≡ step_of c t event b room → parts a.says (length a.bytes) a.joined a.dropped ≡ a.says.number ∷ get_or a.says.values 0 0 ∷ get_or a.says.values 1 0 ∷ get_or a.says.values 2 0 ∷ a.joined ∷ a.dropped ∷ length a.bytes % 256 ∷ length a.bytes / 256 ∷ []
step_parts c t event b room a e = whole_parts a.says (length a.bytes) a.joined a.dropped (omega (arith, few.0)) (omega (arith, small)) (omega (arith, few.1)) (omega (arith, few.2))
  where
    few : Few a
    few = subst Few (sym e) (step_few c t event b room)

    small : length a.bytes ≤ 252
    small = subst (λ (x : After). length x.bytes ≤ 252) (sym e) (written_small c t event b room)
