-- Wrong panels, each ours with one change: the errors that the rule book names (01, "Agreement between code and promise" and "Errors that look reasonable"), and those that discovery, retyping, stored indexes, a second system on the line and old boards make possible (02, C-11 to C-15).
use Rattle.std.specs.Prelude.{ℕ, ◌+◌, Bool, ◌&&◌, not, List, [], ◌∷◌, map, length, get_or, eqb}
use Rattle.ground.specs.Choose.{choose}
use Rattle.ground.specs.Below.{up_from}
use Rattle.refusal.specs.declared.Refusal.TheVariants.{NotWaiting, BadPool, Full, OtherSubnet}
use Rattle.frame.specs.declared.Header.{Header}
use Rattle.frame.specs.Frame.{header_of, frame_of}
use Rattle.board.specs.declared.Node.{Node}
use Rattle.board.specs.declared.Wanted.TheVariants.{Listed, Free}
use Rattle.board.specs.Node.{is_old}
use Rattle.board.specs.Table.{at, put, listed_at}
use Rattle.board.specs.Columns.{kinds_of, versions_of}
use Rattle.board.specs.Wanted.{lowest_of}
use Rattle.board.specs.Index.{indexed, numbered}
use Rattle.board.specs.Change.{joined_node, owe_all, relisted}
use Rattle.setup.specs.Setup.{old_subnet}
use Rattle.nodelist.specs.Condensed.{standing_to}
use Rattle.nodelist.specs.List.{node_list}
use Rattle.coordinator.specs.declared.Coordinator.{Coordinator}
use Rattle.coordinator.specs.declared.Exchange.TheVariants.{Offer}
use Rattle.coordinator.specs.declared.Part.{Part}
use Rattle.coordinator.specs.declared.Part.TheVariants.{Search, Assign}
use Rattle.coordinator.specs.declared.Phase.TheVariants.{Resting}
use Rattle.coordinator.specs.Phase.{phase_of, stage_of}
use Rattle.coordinator.specs.Change.{with_phase, ended}
use Rattle.steps.specs.declared.Event.{Event}
use Rattle.steps.specs.declared.Event.TheVariants.{Join, Turn, Frame, Quiet, Discover}
use Rattle.steps.specs.After.{After, refused, accepted, waits, rests}
use Rattle.steps.specs.Hear.{hear}
use Rattle.steps.specs.Join.{joined_as}
use Rattle.steps.specs.Turn.{due_offer, sent}
use Rattle.steps.specs.Receive.{payload, taken_in}
use Rattle.steps.specs.Quiet.{missed_at}
use Rattle.series.specs.Series.{Input, World, Panel, is_accepted, waits_in, waited_for, offered_to}
use Rattle.series.specs.Ours.{ours}

-- the steps in the rule book's order (01, "The steps are join, turn, frame and quiet"; 02, C-11: discover)
abbrev step_number : Event → ℕ
step_number (Join kind mac session version) = 1
step_number Turn = 2
step_number Frame = 3
step_number Quiet = 4
step_number Discover = 5

-- a panel that starts as ours does
abbrev pub stepping : (World → Input → After) → Panel
stepping step = record { start = ours.start; step = step }

-- ours, but for one kind of step: what that leaves is made of the world before it, the input, and what ours leaves
abbrev pub changed_at : Event → (World → Input → After → After) → Panel
changed_at event change =
    stepping (λ w i. choose (eqb (step_number i.event) (step_number event)) (change w i (ours.step w i)) (ours.step w i))

-- what a step leaves, but for the coordinator and the records
abbrev leaving : After → Coordinator → List Node → After
leaving a c t = record { coordinator = c; nodes = t; says = a.says; bytes = a.bytes; joined = a.joined; dropped = a.dropped }

-- a round is made: the last one offered the bus is the last position
abbrev round_made : Coordinator → Bool
round_made c = eqb c.last c.setup.k

-- "A Quiet that does nothing": the wait ends, and no miss is counted
abbrev pub quiet_does_nothing : Panel
quiet_does_nothing = changed_at Quiet (λ w i a. leaving a a.coordinator w.nodes)

-- the same words, to the letter: not even the wait ends
abbrev pub quiet_changes_nothing : Panel
quiet_changes_nothing = changed_at Quiet (λ w i a. leaving a w.coordinator w.nodes)

-- "or never drops": where ours drops the board, the wait ends and its two misses stay
abbrev pub quiet_never_drops : Panel
quiet_never_drops =
    changed_at Quiet (λ w i a. choose (eqb a.dropped 0) a (accepted (with_phase w.coordinator Resting) w.nodes rests []))

-- an offer to the lowest listed position
abbrev lowest_offered : World → After
lowest_offered w = sent (due_offer w.coordinator w.nodes (lowest_of w.nodes Listed w.coordinator.setup.k))

-- "an offer that always names one board"
abbrev pub offers_one_board : Panel
offers_one_board = changed_at Turn (λ w i a. choose (eqb (offered_to a.says) 0) a (lowest_offered w))

-- "a panel that behaves for one round and then only looks busy": after the round each frame that is accepted owes the list to all again
abbrev pub only_looks_busy : Panel
only_looks_busy =
    changed_at Frame (λ w i a. choose (is_accepted a.says && round_made w.coordinator) (leaving a a.coordinator (owe_all a.nodes)) a)

-- the same words: after the round it ends no wait
abbrev pub waits_for_ever : Panel
waits_for_ever = changed_at Quiet (λ w i a. choose (round_made w.coordinator) (refused w.coordinator w.nodes NotWaiting) a)

-- board p with the misses that it had before
abbrev misses_kept : List Node → List Node → ℕ → Node
misses_kept before t p =
    record { kind = (at t p).kind; mac = (at t p).mac; session = (at t p).session; misses = (at before p).misses; owed = (at t p).owed; index = (at t p).index; version = (at t p).version }

-- "Counting misses since joining and not since last heard": a frame does not clear the misses of the board that is waited for
abbrev pub counts_since_joining : Panel
counts_since_joining =
    changed_at Frame (λ w i a. leaving a a.coordinator (put a.nodes w.coordinator.stand.board (misses_kept w.nodes a.nodes w.coordinator.stand.board)))

-- as at a fresh start, nobody was offered the bus
abbrev from_first : Coordinator → Coordinator
from_first c =
    record {
      setup = c.setup;
      last = 0;
      held = c.held;
      searched = c.searched;
      stand = c.stand;
      kept = c.kept;
      found = c.found;
    }

-- "Restarting the offer round at position 1 after every list": an answer that waits in exchange 2 is a list's
abbrev pub restarts_round : Panel
restarts_round =
    changed_at Turn (λ w i a. choose (eqb (get_or a.says.values 2 0) 2) (leaving a (from_first a.coordinator) a.nodes) a)

-- a panel that takes the frames that ours refuses by this number, as if they had passed
abbrev hears_refused : ℕ → Panel
hears_refused number =
    changed_at Frame (λ w i a. choose (eqb a.says.number number) (taken_in (phase_of w.coordinator.stand) w.coordinator w.nodes (header_of i.received) (payload i.received) i.room) a)

-- "Letting a frame from another board end the wait": a frame that ours refuses for its source alone, 6, is taken
abbrev pub hears_anyone : Panel
hears_anyone = hears_refused 6

-- against "neither ours nor 0" (02, C-14): a frame that ours refuses for its subnet alone, 24, is taken
abbrev pub hears_others : Panel
hears_others = hears_refused 24

-- against "the coordinator doesn't count them as hearing a board" (02, C-14): such a frame is refused, and clears the misses of the board that is waited for
abbrev pub spares_for_others : Panel
spares_for_others =
    changed_at Frame (λ w i a. choose (eqb a.says.number 24) (leaving a a.coordinator (hear a.nodes w.coordinator.stand.board)) a)

-- the record of the board that joined, at the lowest position that was free
abbrev joined_anew : World → After → List Node
joined_anew w a = relisted (put w.nodes (lowest_of w.nodes Free w.coordinator.setup.k) (at a.nodes a.joined))

-- against "A listed MAC has its address again" (01, "Join"): it gets the lowest free position, as a new one does
abbrev pub lists_twice : Panel
lists_twice = changed_at (Join 0 0 0 0) (λ w i a. choose (is_accepted a.says) (leaving a a.coordinator (joined_anew w a)) a)

-- board p with the type that it had before, where it was listed
abbrev type_kept : List Node → List Node → ℕ → Node
type_kept before t p =
    record {
      kind = choose (listed_at before p) (at before p).kind (at t p).kind;
      mac = (at t p).mac;
      session = (at t p).session;
      misses = (at t p).misses;
      owed = (at t p).owed;
      index = (at t p).index;
      version = (at t p).version;
    }

-- against "a join with a listed MAC also replaces the type" (02, C-12): in this kind of step the board that joins keeps the type on record, and every index is counted by it
abbrev pub keeps_type : Event → Panel
keeps_type event = changed_at event (λ w i a. leaving a a.coordinator (numbered (put a.nodes a.joined (type_kept w.nodes a.nodes a.joined))))

-- board p with the version that it had before, where it was listed
abbrev version_kept : List Node → List Node → ℕ → Node
version_kept before t p =
    record {
      kind = (at t p).kind;
      mac = (at t p).mac;
      session = (at t p).session;
      misses = (at t p).misses;
      owed = (at t p).owed;
      index = (at t p).index;
      version = choose (listed_at before p) (at before p).version (at t p).version;
    }

-- against "a join replaces it, as it does the type" (02, C-15): the board that joins keeps the version on record
abbrev pub keeps_version : Panel
keeps_version = changed_at (Join 0 0 0 0) (λ w i a. leaving a a.coordinator (put a.nodes a.joined (version_kept w.nodes a.nodes a.joined)))

-- a turn with other bytes
abbrev writing : After → List ℕ → After
writing a b = record { coordinator = a.coordinator; nodes = a.nodes; says = a.says; bytes = b; joined = a.joined; dropped = a.dropped }

-- against "a node list sent to them may have at most 16 payload bytes" (02, C-15): every board gets the whole list, in the subnet that is its own
abbrev pub whole_lists : Panel
whole_lists =
    changed_at Turn (λ w i a. choose (eqb (waits_in a.says) 2) (writing a (frame_of (header_of a.bytes) (node_list w.coordinator.setup.internal w.nodes))) a)

-- against "each listed type appears" (02, C-15): the list for a 1.0 board has those boards alone, by the first of 000's two scans
abbrev pub stands_only : Panel
stands_only =
    changed_at Turn (λ w i a. choose (eqb (waits_in a.says) 2 && is_old (at w.nodes (waited_for a.says)).version) (writing a (frame_of (header_of a.bytes) (w.coordinator.setup.internal ∷ standing_to (kinds_of w.nodes) (versions_of w.nodes) 15))) a)

-- against "reading takes it too" (02, C-15): bytes of the subnet of 1.0 boards get 24, whoever is awaited
abbrev pub deaf_to_old : Panel
deaf_to_old = changed_at Frame (λ w i a. choose (eqb (header_of i.received).subnet old_subnet) (refused w.coordinator w.nodes OtherSubnet) a)

-- a header in another subnet
abbrev in_subnet : ℕ → Header → Header
in_subnet subnet h =
    record {
      destination = h.destination;
      source = h.source;
      subnet = subnet;
      method = h.method;
      parameter1 = h.parameter1;
      parameter2 = h.parameter2;
      kind = h.kind;
      message = h.message;
      packet = h.packet;
    }

-- against "frames to them carry it" (02, C-15): a turn speaks to every board in our subnet
abbrev pub speaks_in_ours : Panel
speaks_in_ours =
    changed_at Turn (λ w i a. choose (is_accepted a.says) (writing a (frame_of (in_subnet w.coordinator.setup.subnet (header_of a.bytes)) (payload a.bytes))) a)

-- a join that is taken whatever the rules say
abbrev taken_anyway : Event → World → After → After
taken_anyway (Join kind mac session version) w a = joined_as w.coordinator w.nodes kind mac session version
taken_anyway Turn w a = a
taken_anyway Frame w a = a
taken_anyway Quiet w a = a
taken_anyway Discover w a = a

-- against 25 (02, C-15), and every other number of a join
abbrev pub takes_every_join : Panel
takes_every_join = changed_at (Join 0 0 0 0) (λ w i a. taken_anyway i.event w a)

-- board p with the index that it had before, where it was listed, is listed and did not join
abbrev index_kept : List Node → After → ℕ → Node
index_kept before a p =
    choose (listed_at before p && listed_at a.nodes p && not (eqb p a.joined)) (indexed (at a.nodes p) (at before p).index)
    (at a.nodes p)

-- against "for every board, those not named by the step included" (02, C-13): in this kind of step every board but the one that joins keeps the index on record
abbrev pub keeps_indexes : Event → Panel
keeps_indexes event = changed_at event (λ w i a. leaving a a.coordinator (map (index_kept w.nodes a) (up_from 1 40)))

-- a frame with one more for the index
abbrev index_more : Header → Header
index_more h =
    record {
      destination = h.destination;
      source = h.source;
      subnet = h.subnet;
      method = h.method;
      parameter1 = h.parameter1;
      parameter2 = h.parameter2 + 1;
      kind = h.kind;
      message = h.message;
      packet = h.packet;
    }

abbrev counted_from_one : List ℕ → List ℕ
counted_from_one b = choose (eqb (length b) 0) b (frame_of (index_more (header_of b)) (payload b))

-- against the index in parameter 2 (01, "Turn": "Own frames", and "Forward and return"): in this kind of step the frames that are written count from one, though the index on record is right (02, C-13)
abbrev pub counts_from_one : Event → Panel
counts_from_one event =
    changed_at event (λ w i a. writing a (counted_from_one a.bytes))

-- the panel is in this part of the exchange by which a board joins (02, C-11)
abbrev is_in : Part → World → Bool
is_in part w = eqb w.coordinator.stand.stage (stage_of part)

-- whoever answered the discovery, put on the list at the position that is now at stake
abbrev listed_at_once : After → List Node
listed_at_once a = numbered (put a.nodes a.coordinator.stand.board (joined_node a.coordinator.found.kind a.coordinator.found.mac a.coordinator.found.session a.coordinator.found.version))

-- against "exactly one join" (02, C-11): a discovery's response joins already, and the exchange goes on
abbrev pub joins_twice : Panel
joins_twice =
    changed_at Frame (λ w i a. choose (is_in Search w && is_accepted a.says) (record { coordinator = a.coordinator; nodes = listed_at_once a; says = a.says; bytes = a.bytes; joined = a.coordinator.stand.board; dropped = 0 }) a)

-- against "While an exchange runs any other join gets 14" (02, C-11): a join is taken in it as at rest
abbrev pub joins_inside : Panel
joins_inside = changed_at (Join 0 0 0 0) (λ w i a. ours.step (record { coordinator = ended w.coordinator; nodes = w.nodes }) i)

-- against "quiet in it is a miss for no board" (02, C-11): in assign it is one for the board that has the position
abbrev pub misses_in_assign : Panel
misses_in_assign = changed_at Quiet (λ w i a. choose (is_in Assign w) (missed_at w.coordinator w.nodes w.coordinator.stand.board) a)

-- no discovery was started
abbrev forgotten : Coordinator → Coordinator
forgotten c =
    record {
      setup = c.setup;
      last = c.last;
      held = c.held;
      searched = 0;
      stand = c.stand;
      kept = c.kept;
      found = c.found;
    }

-- against "at most once between two offers" (02, C-11): a panel that discovers again and again, since it does not remember that it did
abbrev pub discovers_again : Panel
discovers_again = changed_at Discover (λ w i a. leaving a (forgotten a.coordinator) a.nodes)

-- a panel that tells one board and writes to another: an offer names the next position
abbrev pub tells_another : Panel
tells_another =
    changed_at Turn (λ w i a. choose (eqb (offered_to a.says) 0) a (record { coordinator = a.coordinator; nodes = a.nodes; says = waits (offered_to a.says + 1) Offer; bytes = a.bytes; joined = a.joined; dropped = a.dropped }))

-- panels to which nothing ever happens: one that takes no setup, and one that takes no join
abbrev pub takes_no_setup : Panel
takes_no_setup = record { start = λ w addresses subnet internal mac session. refused w.coordinator w.nodes BadPool; step = ours.step }

abbrev pub takes_no_join : Panel
takes_no_join = changed_at (Join 0 0 0 0) (λ w i a. refused w.coordinator w.nodes Full)
