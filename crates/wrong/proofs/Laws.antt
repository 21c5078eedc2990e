-- What refutes each statement of demand 3: a fresh start, and facts about a series from there.
use Prim.Native.Nat.{ℕ, ◌≤◌}
use native.Mathlib.Omega.{arith}
use mathlib.Core.Path.{◌≡◌, sym, ap, ◌∙◌}
use mathlib.Core.Logic.{◌⊎◌, inl, inr}
use mathlib.Core.Bool.{true, false, true≢false, false≢true}
use mathlib.Core.List.{List, []}
use lib.ListN.{length, drop, get_or}
use lib.Dec.{eqb, leb, ltb}
use borrow.Author.Tests.{eqb-false, leb-true, ltb-true}
use Rattle.ground.specs.Below.{among}
use Rattle.refusal.specs.Refusal.{refuses}
use Rattle.refusal.specs.declared.Refusal.TheVariants.{OtherSubnet}
use Rattle.frame.specs.Frame.{header_of, takes_subnet, reading, payload_of}
use Rattle.board.specs.Node.{is_kind, is_mac, is_old}
use Rattle.board.specs.Table.{at, listed_at}
use Rattle.board.specs.Columns.{kinds_of}
use Rattle.board.specs.Types.{type_count}
use Rattle.board.specs.Wanted.{some_listed, index_of}
use Rattle.setup.specs.Setup.{is_pool, old_subnet, address}
use Rattle.nodelist.specs.List.{list_for}
use Rattle.accept.specs.Accept.{request_type}
use Rattle.steps.specs.After.{After}
use Rattle.series.specs.Series.{left, Input, World, Panel, Fresh, after, is_accepted, waited_for, waits_in, offers, accepted, stays}
use Rattle.series.specs.Observed.{Who, nothing, saw, seen}
use Rattle.series.specs.Demand.{WhoStays, NoTwoAlike, RoundRobin, Bounded, NeverStuck, Transmits, EndsWait, bound, join_with, frame_with, turn_with, quiet_with, Starts, Allowed, TakesJoins}
use Rattle.series.specs.AsJoined.{noted, is_own, forwarded_to, destined, AsJoined}
use Rattle.series.specs.StoredIndex.{stored_at, carries_index, StoredIndex}
use Rattle.series.specs.Exchange.{Runs, comes, reached, is_running, OneJoin, discoveries, peopled, Seldom}
use Rattle.series.specs.Wire.{is_sending, addressed, reached_in, OnTheWire}
use Rattle.series.specs.Others.{is_others, OthersUnheard}
use Rattle.series.specs.OldBoards.{may_answer, OldBoards, OldHeard}

module _ {P : Panel} {k : ℕ} {w : World} (f : Fresh P k w) (is : List Input) where
  module _ (i : Input) (p : ℕ) where
    -- a third message in a row went unanswered, and the board is listed still
    pub outstays : (seen P w nothing is).run p ≡ 2 → (saw i (P.step (after P w is) i) (seen P w nothing is)).run p ≡ 3 → listed_at (P.step (after P w is) i).nodes p ≡ true → WhoStays P → ⊥
    outstays two three listed s = true≢false (sym listed ∙ (s.then k w f is i p (two, three)).1)

    -- a board leaves the list, and no message to it went unanswered before this one
    pub leaves_early : listed_at (after P w is).nodes p ≡ true → listed_at (P.step (after P w is) i).nodes p ≡ false → (seen P w nothing is).run p ≡ 0 → WhoStays P → ⊥
    leaves_early listed gone none s = let z : ⊥ = omega (arith, none, (s.only k w f is i p (listed, gone)).0) in z

    -- a board leaves the list, and this message was none to it
    pub leaves_unasked : listed_at (after P w is).nodes p ≡ true → listed_at (P.step (after P w is) i).nodes p ≡ false → (saw i (P.step (after P w is) i) (seen P w nothing is)).run p ≡ 2 → WhoStays P → ⊥
    leaves_unasked listed gone two s = let z : ⊥ = omega (arith, two, (s.only k w f is i p (listed, gone)).1) in z

  module _ (js : List Input) (p : ℕ) (boards : List ℕ) where
    -- a board stays listed and is not among k offers
    pub passed_over : stays P (after P w is) js p ≡ true → offers P (after P w is) js ≡ boards → leb k (length boards) ≡ true → among p boards ≡ false → RoundRobin P → ⊥
    passed_over stay made enough absent s =
        false≢true (sym absent ∙ ap (among p) (sym made) ∙ s k w f is js p stay (rw made (leb-true k (length boards) enough)))

    -- a board stays listed and is not offered the bus in as many accepted steps as the bound says
    pub starved : stays P (after P w is) js p ≡ true → offers P (after P w is) js ≡ boards → leb (bound k) (accepted P (after P w is) js) ≡ true → among p boards ≡ false → Bounded P → ⊥
    starved stay made enough absent s =
        false≢true (sym absent ∙ ap (among p) (sym made) ∙ s k w f is js p stay (leb-true (bound k) (accepted P (after P w is) js) enough))

  -- somebody is listed, a turn writes nothing and a quiet is refused
  pub stuck : some_listed (after P w is).nodes ≡ true → (P.step (after P w is) (turn_with 252)).bytes ≡ [] → is_accepted (P.step (after P w is) (quiet_with 252)).says ≡ false → NeverStuck P → ⊥
  stuck listed silent waits s = go (s k w f is 252 (omega arith) listed)
    where
      go : Transmits P (after P w is) 252 ⊎ EndsWait P (after P w is) 252 → ⊥
      go (inl sends) = let z : ⊥ = omega (arith, ap length silent, sends.0) in z
      go (inr ends) = false≢true (sym waits ∙ ends.0)

  -- somebody is listed, a turn writes nothing, and after a quiet another is accepted, so that the wait was not ended
  pub lingers : some_listed (after P w is).nodes ≡ true → (P.step (after P w is) (turn_with 252)).bytes ≡ [] → is_accepted (P.step (left (P.step (after P w is) (quiet_with 252))) (quiet_with 252)).says ≡ true → NeverStuck P → ⊥
  lingers listed silent again s = go (s k w f is 252 (omega arith) listed)
    where
      go : Transmits P (after P w is) 252 ⊎ EndsWait P (after P w is) 252 → ⊥
      go (inl sends) = let z : ⊥ = omega (arith, ap length silent, sends.0) in z
      go (inr ends) = false≢true (sym (ap is_accepted ends.1) ∙ again)

  -- two positions are listed with one MAC
  pub alike : (p q mac : ℕ) → eqb p q ≡ false → listed_at (after P w is).nodes p ≡ true → listed_at (after P w is).nodes q ≡ true → (at (after P w is).nodes p).mac ≡ mac → (at (after P w is).nodes q).mac ≡ mac → NoTwoAlike P → ⊥
  alike p q mac apart here there one other s = eqb-false p q apart (s.macs k w f is p q here there (one ∙ sym other))

  -- a listed board has another type than its last join told
  pub mistyped : (p : ℕ) → listed_at (after P w is).nodes p ≡ true → eqb (at (after P w is).nodes p).kind ((seen P w nothing is).who p).kind ≡ false → AsJoined P → ⊥
  mistyped p listed apart s = eqb-false _ _ apart (ap (λ (x : Who). x.kind) (s.who k w f is p listed))

  -- or another version
  pub misversioned : (p : ℕ) → listed_at (after P w is).nodes p ≡ true → eqb (at (after P w is).nodes p).version ((seen P w nothing is).who p).version ≡ false → AsJoined P → ⊥
  misversioned p listed apart s = eqb-false _ _ apart (ap (λ (x : Who). x.version) (s.who k w f is p listed))

  -- a position's stored index is another than the counted one
  pub miscounted : (p : ℕ) → eqb (stored_at (after P w is) p) (index_of (after P w is).nodes p) ≡ false → StoredIndex P → ⊥
  miscounted p apart s = eqb-false _ _ apart (s.counted k w f is p)

  -- or than the count over what the joins told
  pub mistold : (p : ℕ) → eqb (stored_at (after P w is) p) (index_of (noted (seen P w nothing is)) p) ≡ false → StoredIndex P → ⊥
  mistold p apart s = eqb-false _ _ apart (s.told k w f is p)

  -- another goes out: in a turn; in the forward of a request; in the ACK to a frame from position p
  pub miscarried : carries_index (P.step (after P w is) (turn_with 252)).says ≡ true → eqb (header_of (P.step (after P w is) (turn_with 252)).bytes).parameter2 (stored_at (after P w is) (waited_for (P.step (after P w is) (turn_with 252)).says)) ≡ false → StoredIndex P → ⊥
  miscarried own apart s = eqb-false _ _ apart (s.carried k w f is 252 own)

  pub misforwarded : (received : List ℕ) → request_type (header_of received).message ≡ true → is_accepted (P.step (after P w is) (frame_with received 252)).says ≡ true → waits_in (P.step (left (P.step (after P w is) (frame_with received 252))) (turn_with 252)).says ≡ 3 → eqb (header_of (P.step (left (P.step (after P w is) (frame_with received 252))) (turn_with 252)).bytes).parameter2 (stored_at (left (P.step (after P w is) (frame_with received 252))) (seen P w nothing is).awaited) ≡ false → StoredIndex P → ⊥
  misforwarded received request taken forwards apart s = eqb-false _ _ apart (s.forwarded k w f is received 252 252 request taken forwards)

  pub misacknowledged : (received : List ℕ) (p : ℕ) → address (after P w is).coordinator.setup p ≡ (header_of received).source → leb 1 (length (P.step (after P w is) (frame_with received 252)).bytes) ≡ true → eqb (header_of (P.step (after P w is) (frame_with received 252)).bytes).parameter2 (stored_at (left (P.step (after P w is) (frame_with received 252))) p) ≡ false → StoredIndex P → ⊥
  misacknowledged received p from writes apart s = eqb-false _ _ apart (s.acknowledged k w f is received 252 p from (leb-true 1 _ writes))

  -- byte p of a list is another than the joins told; so is the index in an offer or a list; so is the board to which a request goes
  pub mislisted : (p : ℕ) → waits_in (P.step (after P w is) (turn_with 252)).says ≡ 2 → eqb (get_or (payload_of (header_of (P.step (after P w is) (turn_with 252)).bytes).subnet (P.step (after P w is) (turn_with 252)).bytes) p 0) (get_or (list_for ((seen P w nothing is).who (waited_for (P.step (after P w is) (turn_with 252)).says)).version (after P w is).coordinator.setup.internal (noted (seen P w nothing is))) p 0) ≡ false → AsJoined P → ⊥
  mislisted p lists apart s = eqb-false _ _ apart (ap (λ (bytes : List ℕ). get_or bytes p 0) (s.list k w f is 252 lists))

  pub misindexed : is_own (P.step (after P w is) (turn_with 252)).says ≡ true → eqb (header_of (P.step (after P w is) (turn_with 252)).bytes).parameter2 (index_of (noted (seen P w nothing is)) (waited_for (P.step (after P w is) (turn_with 252)).says)) ≡ false → AsJoined P → ⊥
  misindexed own apart s = eqb-false _ _ apart (s.index k w f is 252 own)

  pub misrouted : (received : List ℕ) → request_type (header_of received).message ≡ true → is_accepted (P.step (after P w is) (frame_with received 252)).says ≡ true → is_accepted (P.step (left (P.step (after P w is) (frame_with received 252))) (turn_with 252)).says ≡ true → eqb (forwarded_to (P.step (left (P.step (after P w is) (frame_with received 252))) (turn_with 252)).says) (destined (seen P w nothing is) (after P w is).coordinator.setup.k (header_of received)) ≡ false → AsJoined P → ⊥
  misrouted received request taken turned apart s = eqb-false _ _ apart (s.route k w f is received 252 252 request taken turned)

  -- an exchange that goes on through a series has joined twice
  pub joins_again_lem : (d : Input) (js : List Input) → Runs P (after P w is) d js → (comes P (after P w is) d js).joins ≡ 2 → OneJoin P → ⊥
  joins_again_lem d js runs twice s = let z : ⊥ = omega (arith, twice, (s.joined k w f is d js runs (let l : 1 ≤ (comes P (after P w is) d js).joins = omega (arith, twice) in l)).0) in z

  -- while an exchange runs a join is taken
  pub joins_inside_lem : (d : Input) (js : List Input) → Runs P (after P w is) d js → is_running P (reached P (after P w is) d js) (comes P (after P w is) d js) ≡ true → (kind mac session version : ℕ) → is_kind kind ≡ true → is_mac mac ≡ true → is_accepted (P.step (reached P (after P w is) d js) (join_with kind mac session version)).says ≡ true → OneJoin P → ⊥
  joins_inside_lem d js runs on kind mac session version one own taken s = false≢true (sym (ap is_accepted (s.busy k w f is d js runs on kind mac session version one own)) ∙ taken)

  -- two discoveries are started in a stretch without an offer, with somebody listed throughout
  pub discovers_often : (js : List Input) → peopled P (after P w is) js ≡ true → offers P (after P w is) js ≡ [] → discoveries P (after P w is) js ≡ 2 → Seldom P → ⊥
  discovers_often js listed none often s = let z : ⊥ = omega (arith, often, s k w f is js listed none) in z

  -- a transmission goes to another address than that of the board that its answer names
  pub misdirected : (i : Input) (to named : ℕ) → is_sending i.event ≡ true → is_accepted (P.step (after P w is) i).says ≡ true → (header_of (P.step (after P w is) i).bytes).destination ≡ to → addressed (P.step (after P w is) i).coordinator.setup (P.step (after P w is) i).says ≡ named → eqb to named ≡ false → OnTheWire P → ⊥
  misdirected i to named sends taken goes tells apart s = eqb-false to named apart (sym goes ∙ (s k w f is i sends taken).to ∙ tells)

  -- or in another subnet than his
  pub missent : (i : Input) (sub named : ℕ) → is_sending i.event ≡ true → is_accepted (P.step (after P w is) i).says ≡ true → (header_of (P.step (after P w is) i).bytes).subnet ≡ sub → reached_in (P.step (after P w is) i).coordinator (P.step (after P w is) i).nodes (P.step (after P w is) i).says ≡ named → eqb sub named ≡ false → OnTheWire P → ⊥
  missent i sub named sends taken goes tells apart s = eqb-false sub named apart (sym goes ∙ (s k w f is i sends taken).subnet ∙ tells)

  -- a frame of another system is accepted; it changes the misses of a position
  pub heard_others : (i : Input) → is_others (after P w is).coordinator.setup i ≡ true → is_accepted (P.step (after P w is) i).says ≡ true → is_accepted (reading (after P w is).coordinator.setup.subnet i.received) ≡ false → OthersUnheard P → ⊥
  heard_others i others taken unread s = false≢true (sym unread ∙ sym (ap (λ (a : After). is_accepted a.says) (s.refused k w f is i others)) ∙ taken)

  pub spared_by_others : (i : Input) (p : ℕ) → is_others (after P w is).coordinator.setup i ≡ true → eqb (at (P.step (after P w is) i).nodes p).misses (at (after P w is).nodes p).misses ≡ false → OthersUnheard P → ⊥
  spared_by_others i p others apart s = eqb-false _ _ apart (ap (λ (a : After). (at a.nodes p).misses) (s.refused k w f is i others))

  -- a frame of the subnet of 1.0 boards is accepted while none may answer
  pub heard_old : (received : List ℕ) → may_answer (seen P w nothing is) ≡ false → (header_of received).subnet ≡ old_subnet → takes_subnet (after P w is).coordinator.setup.subnet old_subnet ≡ false → is_accepted (P.step (after P w is) (frame_with received 252)).says ≡ true → is_accepted (reading (after P w is).coordinator.setup.subnet received) ≡ false → OldBoards P → ⊥
  heard_old received none old other taken unread s = false≢true (sym unread ∙ sym (ap (λ (a : After). is_accepted a.says) (s.unheard k w f is none received 252 old other)) ∙ taken)

  -- one gets 24 in a wait in which one may answer
  pub passed_by : (received : List ℕ) → is_accepted (P.step (after P w is) (quiet_with 252)).says ≡ true → may_answer (seen P w nothing is) ≡ true → (header_of received).subnet ≡ old_subnet → (P.step (after P w is) (frame_with received 252)).says ≡ refuses OtherSubnet → OldHeard P → ⊥
  passed_by received waits may old says s = s.heard k w f is 252 waits may received old says

  -- more than fifteen types are listed with a 1.0 board
  pub crowded : (p : ℕ) → (seen P w nothing is).listed p ≡ true → is_old ((seen P w nothing is).who p).version ≡ true → ltb 15 (type_count (kinds_of (noted (seen P w nothing is)))) ≡ true → OldBoards P → ⊥
  crowded p listed old many s = let z : ⊥ = omega (arith, s.few k w f is p listed old, ltb-true 15 _ many) in z

  -- a list lacks a type that is listed by what the joins told
  pub untold : (kind : ℕ) → ltb 0 kind ≡ true → waits_in (P.step (after P w is) (turn_with 252)).says ≡ 2 → among kind (drop 1 (payload_of (header_of (P.step (after P w is) (turn_with 252)).bytes).subnet (P.step (after P w is) (turn_with 252)).bytes)) ≡ false → among kind (kinds_of (noted (seen P w nothing is))) ≡ true → OldBoards P → ⊥
  untold kind one lists lacks listed s = false≢true (sym lacks ∙ s.types k w f is 252 lists kind (ltb-true 0 kind one) ∙ listed)

  -- a join that the rules allow is refused
  pub turned_away : (kind mac session version : ℕ) → Allowed (after P w is) kind mac version → is_accepted (P.step (after P w is) (join_with kind mac session version)).says ≡ false → TakesJoins P → ⊥
  turned_away kind mac session version allowed refuses s = false≢true (sym refuses ∙ ap is_accepted (s k w f is kind mac session version allowed).0)

-- a setup that the rules allow is refused
pub not_started : (P : Panel) (w : World) (addresses : List ℕ) (subnet internal mac session : ℕ) → length w.nodes ≡ 40 → is_pool addresses ≡ true → is_mac mac ≡ true → is_accepted (P.start w addresses subnet internal mac session).says ≡ false → Starts P → ⊥
not_started P w addresses subnet internal mac session forty pool own refuses s = false≢true (sym refuses ∙ ap is_accepted (s w addresses subnet internal mac session forty pool own))
