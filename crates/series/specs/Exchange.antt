-- The exchange by which a board joins, over any series (02, C-11), as statements about a panel. Each is proved of ours and refuted of wrong ones.
use Rattle.std.specs.Prelude.{ℕ, ◌+◌, ◌≤◌, ◌≡◌, Bool, true, false, ◌&&◌, ◌||◌, not, List, [], ◌∷◌, eqb, leb}
use Rattle.ground.specs.Choose.{choose}
use Rattle.refusal.specs.Refusal.{refuses}
use Rattle.refusal.specs.declared.Refusal.TheVariants.{Busy}
use Rattle.frame.specs.Frame.{header_of}
use Rattle.board.specs.declared.Node.{Node}
use Rattle.board.specs.Node.{is_kind, is_mac}
use Rattle.board.specs.Wanted.{some_listed}
use Rattle.accept.specs.Replies.{mac_after}
use Rattle.coordinator.specs.declared.Coordinator.{Coordinator}
use Rattle.coordinator.specs.declared.Found.{Found}
use Rattle.coordinator.specs.Fresh.{blank_found}
use Rattle.coordinator.specs.Change.{remembering, ended}
use Rattle.steps.specs.declared.Event.{Event}
use Rattle.steps.specs.declared.Event.TheVariants.{Join, Turn, Frame, Quiet, Discover}
use Rattle.steps.specs.After.{After}
use Rattle.steps.specs.Hear.{hear_mac}
use Rattle.steps.specs.Join.{join_of}
use Rattle.steps.specs.Seek.{discovered, identified}
use Rattle.steps.specs.Receive.{payload}
use Rattle.series.specs.Series.{Input, World, Panel, left, Fresh, after, is_accepted, waited_for, waits_in, is_seek, offers}
use Rattle.series.specs.Demand.{join_with, turn_with}

-- a discovery, and a frame
abbrev pub is_discover : Event → Bool
is_discover (Join kind mac session version) = false
is_discover Turn = false
is_discover Frame = false
is_discover Quiet = false
is_discover Discover = true

abbrev pub is_frame : Event → Bool
is_frame (Join kind mac session version) = false
is_frame Turn = false
is_frame Frame = true
is_frame Quiet = false
is_frame Discover = false

-- a frame or a quiet, which a wait is about
abbrev pub is_answered : Event → Bool
is_answered (Join kind mac session version) = false
is_answered Turn = false
is_answered Frame = true
is_answered Quiet = true
is_answered Discover = false

-- what an observer has of the exchange that runs: in which of its waits the panel is, 0 where something is due, and for which position; its accepted steps and its joins;
-- the records as they were before it but for who was heard in it; and who answered: at first the discovery, in the end who joined
pub record Course : Type 0 where
  pub wait : ℕ
  pub position : ℕ
  pub steps : ℕ
  pub joins : ℕ
  pub nodes : List Node
  pub who : Found

-- a discovery that was accepted
abbrev pub begun : After → List Node → Course
begun a t = record { wait = waits_in a.says; position = waited_for a.says; steps = 1; joins = 0; nodes = t; who = blank_found }

-- who a frame tells of: in search the discovery's response, in identify the ID of whoever it lists
abbrev pub tells : Course → List ℕ → After → Found
tells x b a =
    choose (eqb x.wait 5) (discovered (header_of b).packet (payload b))
    (choose (eqb x.wait 6 && not (eqb a.joined 0)) (identified x.who.version (payload b)) x.who)

-- a frame in identify that lists nobody is heard from the board there by its own MAC
abbrev pub hears : Course → List ℕ → After → List Node
hears x b a = choose (eqb x.wait 6 && eqb a.joined 0) (hear_mac x.nodes x.position (mac_after (payload b))) x.nodes

-- one accepted step more
abbrev pub gone : Course → Input → After → Course
gone x i a =
    record {
      wait = waits_in a.says;
      position = choose (is_seek (waits_in a.says)) (waited_for a.says) x.position;
      steps = x.steps + 1;
      joins = choose (eqb a.joined 0) x.joins (x.joins + 1);
      nodes = choose (is_frame i.event) (hears x i.received a) x.nodes;
      who = choose (is_frame i.event) (tells x i.received a) x.who;
    }

-- an accepted step is of the exchange that runs where it waits in identify or assign, or is a frame or a quiet in a wait of it
abbrev pub is_of : Course → Input → After → Bool
is_of x i a = (leb 6 (waits_in a.says) && leb (waits_in a.says) 7) || (is_seek x.wait && is_answered i.event)

-- the exchange goes on through a series: every accepted step of it is of the exchange
unfoldable pub goes_on : Panel → World → Course → List Input → Bool
goes_on P w x [] = true
goes_on P w x (i ∷ is) =
    choose (is_accepted (P.step w i).says) (is_of x i (P.step w i) && goes_on P (left (P.step w i)) (gone x i (P.step w i)) is)
    (goes_on P (left (P.step w i)) x is)

-- what an observer has of it then
unfoldable pub course : Panel → World → Course → List Input → Course
course P w x [] = x
course P w x (i ∷ is) =
    course P (left (P.step w i)) (choose (is_accepted (P.step w i).says) (gone x i (P.step w i)) x) is

-- it still runs: the panel waits in it, or its next turn, lent room for a frame, goes on with it
abbrev pub is_running : Panel → World → Course → Bool
is_running P w x = is_seek x.wait || is_seek (waits_in (P.step w (turn_with 252)).says)

-- the coordinator before a discovery, with the memory that it was started (02, C-11: "Breaking off leaves records and coordinator as they were before the discovery, but for the memory ..")
abbrev pub before : Coordinator → Coordinator
before c = ended (remembering c)

-- a discovery d that is accepted after a series, and a series js through which its exchange goes on
pub record Runs (P : Panel) (w : World) (d : Input) (js : List Input) : Type 0 where
  pub discovers : is_discover d.event ≡ true
  pub taken : is_accepted (P.step w d).says ≡ true
  pub on : goes_on P (left (P.step w d)) (begun (P.step w d) w.nodes) js ≡ true

-- where it has come to, as the observer has it and as the panel has it
abbrev pub comes : Panel → World → Input → List Input → Course
comes P w d js = course P (left (P.step w d)) (begun (P.step w d) w.nodes) js

abbrev pub reached : Panel → World → Input → List Input → World
reached P w d js = after P (left (P.step w d)) js

-- "An exchange that ends well produces exactly one join; one that breaks off produces none": it has at most six accepted steps; while it runs any other join gets 14, and no step
-- is accepted that is not of it; one that is over without a join has left what was there, and one that is over with a join has left what 01's join of who answered leaves, and has no other;
-- and a Set Address Response that is accepted joins.
pub record OneJoin (P : Panel) : Type 0 where
  pub few : (k : ℕ) (w : World) → Fresh P k w → (is : List Input) (d : Input) (js : List Input) → Runs P (after P w is) d js → (comes P (after P w is) d js).steps ≤ 6
  pub busy : (k : ℕ) (w : World) → Fresh P k w → (is : List Input) (d : Input) (js : List Input) → Runs P (after P w is) d js → is_running P (reached P (after P w is) d js) (comes P (after P w is) d js) ≡ true → (kind mac session version : ℕ) → is_kind kind ≡ true → is_mac mac ≡ true → (P.step (reached P (after P w is) d js) (join_with kind mac session version)).says ≡ refuses Busy
  pub alone : (k : ℕ) (w : World) → Fresh P k w → (is : List Input) (d : Input) (js : List Input) → Runs P (after P w is) d js → is_running P (reached P (after P w is) d js) (comes P (after P w is) d js) ≡ true → (i : Input) → is_accepted (P.step (reached P (after P w is) d js) i).says ≡ true → is_of (comes P (after P w is) d js) i (P.step (reached P (after P w is) d js) i) ≡ true
  pub broken : (k : ℕ) (w : World) → Fresh P k w → (is : List Input) (d : Input) (js : List Input) → Runs P (after P w is) d js → is_running P (reached P (after P w is) d js) (comes P (after P w is) d js) ≡ false → (comes P (after P w is) d js).joins ≡ 0 → reached P (after P w is) d js ≡ record { coordinator = before (after P w is).coordinator; nodes = (comes P (after P w is) d js).nodes }
  pub joined : (k : ℕ) (w : World) → Fresh P k w → (is : List Input) (d : Input) (js : List Input) → Runs P (after P w is) d js → 1 ≤ (comes P (after P w is) d js).joins → ((comes P (after P w is) d js).joins ≡ 1) × (reached P (after P w is) d js ≡ left (join_of (before (after P w is).coordinator) (comes P (after P w is) d js).nodes (comes P (after P w is) d js).who.kind (comes P (after P w is) d js).who.mac (comes P (after P w is) d js).who.session (comes P (after P w is) d js).who.version))
  pub assigned : (k : ℕ) (w : World) → Fresh P k w → (is : List Input) (d : Input) (js : List Input) → Runs P (after P w is) d js → (comes P (after P w is) d js).wait ≡ 7 → (i : Input) → is_frame i.event ≡ true → is_accepted (P.step (reached P (after P w is) d js) i).says ≡ true → (P.step (reached P (after P w is) d js) i).joined ≡ (comes P (after P w is) d js).position

-- how many discoveries were started in a series
unfoldable pub discoveries : Panel → World → List Input → ℕ
discoveries P w [] = 0
discoveries P w (i ∷ is) = choose (is_discover i.event && is_accepted (P.step w i).says) (discoveries P (left (P.step w i)) is + 1) (discoveries P (left (P.step w i)) is)

-- someone is listed throughout: before a series and after each of its steps
unfoldable pub peopled : Panel → World → List Input → Bool
peopled P w [] = some_listed w.nodes
peopled P w (i ∷ is) = some_listed w.nodes && peopled P (left (P.step w i)) is

-- "while anyone is listed at most once between two offers": in a stretch of the series without an offer, with someone listed throughout, at most one discovery is started
abbrev pub Seldom : Panel → Type 0
Seldom P =
    (k : ℕ) (w : World) → Fresh P k w → (is js : List Input) → peopled P (after P w is) js ≡ true → offers P (after P w is) js ≡ [] → discoveries P (after P w is) js ≤ 1
