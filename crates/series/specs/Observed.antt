-- What an observer sees of a series: steps and answers, none of the panel's own counters (00, demand 3; 01, the last lines of "Steps"; 02, C-11, C-12 and C-15).
use Rattle.std.specs.Prelude.{ℕ, ◌+◌, Bool, true, false, ◌&&◌, ◌||◌, not, List, [], ◌∷◌, eqb}
use Rattle.ground.specs.Choose.{choose}
use Rattle.refusal.specs.Refusal.{Told}
use Rattle.frame.specs.Frame.{header_of}
use Rattle.board.specs.declared.Node.{Node}
use Rattle.board.specs.Node.{none, version_of}
use Rattle.setup.specs.Setup.{address}
use Rattle.coordinator.specs.declared.Found.{Found}
use Rattle.coordinator.specs.Fresh.{blank_found}
use Rattle.steps.specs.declared.Event.{Event}
use Rattle.steps.specs.declared.Event.TheVariants.{Join, Turn, Frame, Quiet, Discover}
use Rattle.steps.specs.After.{After}
use Rattle.steps.specs.Seek.{discovered, identified}
use Rattle.steps.specs.Receive.{payload}
use Rattle.series.specs.Series.{Input, World, Panel, left, is_accepted, waited_for, waits_in, is_seek}

-- who a board is: its type, its version and its MAC
pub record Who : Type 0 where
  pub kind : ℕ
  pub version : ℕ
  pub mac : ℕ

-- as its record has it; as it answered in the exchange by which it joins
abbrev pub recorded : Node → Who
recorded n = record { kind = n.kind; version = n.version; mac = n.mac }

abbrev pub given : Found → Who
given f = record { kind = f.kind; version = version_of f.version; mac = f.mac }

-- who is on the list, as the answers told it, and who each one is, as its last join told it (02, C-12: "with the type taken from the last join"; C-15: its version too); the kind of exchange in which the panel waits, 0 for none; the board a message
-- to which is waited for, 0 for none, and whether it was heard in that wait; for each position the run of unanswered messages since it last joined or was last
-- heard; and who answered the last discovery
pub record Seen : Type 0 where
  pub listed : ℕ → Bool
  pub who : ℕ → Who
  pub wait : ℕ
  pub awaited : ℕ
  pub heard : Bool
  pub run : ℕ → ℕ
  pub found : Found

-- a fresh start: nobody is listed, nothing is waited for
abbrev pub nothing : Seen
nothing = record { listed = λ p. false; who = λ p. recorded none; wait = 0; awaited = 0; heard = false; run = λ p. 0; found = blank_found }

-- the same but for position p
abbrev pub changed {ℓ} : {A : Type ℓ} → (ℕ → A) → ℕ → A → ℕ → A
changed f p v q = choose (eqb q p) v (f q)

-- the same but for the position that a step joined, if it joined one
abbrev pub joined_to {ℓ} : {A : Type ℓ} → (ℕ → A) → ℕ → A → ℕ → A
joined_to f joined v = choose (eqb joined 0) f (changed f joined v)

-- the board to which an answer's message went: none in the exchange by which a board joins (02, C-11: "quiet in it is a miss for no board")
abbrev pub message_to : Told → ℕ
message_to says = choose (is_seek (waits_in says)) 0 (waited_for says)

-- an accepted join: the board at that position has joined, and this is who it is
abbrev pub saw_join : Who → After → Seen → Seen
saw_join who a s =
    record {
      listed = changed s.listed a.joined true;
      who = changed s.who a.joined who;
      wait = s.wait;
      awaited = s.awaited;
      heard = s.heard;
      run = changed s.run a.joined 0;
      found = s.found;
    }

-- an accepted turn or discovery: a message to the board that is now waited for (01: "An offer, a list, a forward and a return each count as one message to the board")
abbrev pub saw_sent : After → Seen → Seen
saw_sent a s =
    record {
      listed = s.listed;
      who = s.who;
      wait = waits_in a.says;
      awaited = message_to a.says;
      heard = false;
      run = s.run;
      found = s.found;
    }

-- an accepted frame of a board: the board from whose address it came is heard (01: "A board is heard when a frame from it is accepted, and not otherwise"); the wait goes on where the answer says so
abbrev pub saw_board : List ℕ → After → Seen → Seen
saw_board received a s =
    record {
      listed = s.listed;
      who = s.who;
      wait = waits_in a.says;
      awaited = waited_for a.says;
      heard = true;
      run = λ p. choose (eqb (address a.coordinator.setup p) (header_of received).source) 0 (s.run p);
      found = s.found;
    }

-- whom a frame of the exchange by which a board joins is from: in identify whoever gives his MAC, in assign who answered the discovery (02, C-11)
abbrev pub teller : List ℕ → Seen → Found
teller received s = choose (eqb s.wait 6) (identified s.found.version (payload received)) s.found

-- somebody else may sit at a listed board's address, so that it is heard in the exchange only by its own MAC; a discovery's response is nobody's who is listed (02, C-11)
abbrev pub heard_there : List ℕ → After → Seen → ℕ → Bool
heard_there received a s p =
    not (eqb s.wait 5) &&
    (s.listed p &&
    (eqb (address a.coordinator.setup p) (header_of received).source && eqb (s.who p).mac (teller received s).mac))

-- an accepted frame of the exchange by which a board joins: it may list a board, which begins anew; a discovery's response says who answered
abbrev pub saw_reply : List ℕ → After → Seen → Seen
saw_reply received a s =
    record {
      listed = joined_to s.listed a.joined true;
      who = joined_to s.who a.joined (given (teller received s));
      wait = waits_in a.says;
      awaited = 0;
      heard = false;
      run = joined_to (λ p. choose (heard_there received a s p) 0 (s.run p)) a.joined 0;
      found = choose (eqb s.wait 5) (discovered (header_of received).packet (payload received)) s.found;
    }

-- an accepted frame is a board's, or one of the exchange by which a board joins
abbrev pub saw_frame : List ℕ → After → Seen → Seen
saw_frame received a s = choose (is_seek s.wait) (saw_reply received a s) (saw_board received a s)

-- an accepted quiet ends the wait: the message to a board went unanswered where no frame was accepted in it (01: "It went unanswered when quiet ended its wait with no frame accepted in it"); a board that is named as dropped is listed no more
abbrev pub saw_quiet : After → Seen → Seen
saw_quiet a s =
    record {
      listed = choose (eqb a.dropped 0) s.listed (changed s.listed a.dropped false);
      who = s.who;
      wait = 0;
      awaited = 0;
      heard = false;
      run = choose (s.heard || eqb s.awaited 0) s.run (changed s.run s.awaited (s.run s.awaited + 1));
      found = s.found;
    }

-- what is seen after one more step; a refused one shows nothing
abbrev pub saw_event : Event → List ℕ → After → Seen → Seen
saw_event (Join kind mac session version) received a s = saw_join (record { kind = kind; version = version_of version; mac = mac }) a s
saw_event Turn received a s = saw_sent a s
saw_event Frame received a s = saw_frame received a s
saw_event Quiet received a s = saw_quiet a s
saw_event Discover received a s = saw_sent a s

abbrev pub saw : Input → After → Seen → Seen
saw i a s = choose (is_accepted a.says) (saw_event i.event i.received a s) s

-- what is seen of a series
unfoldable pub seen : Panel → World → Seen → List Input → Seen
seen P w s [] = s
seen P w s (i ∷ is) = seen P (left (P.step w i)) (saw i (P.step w i) s) is
