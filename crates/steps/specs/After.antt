-- What a step leaves: the answer, coordinator and records, the bytes written, the positions joined and dropped (01, "Steps").
use Rattle.std.specs.Prelude.{ℕ, List, [], ◌∷◌, length, ◌≡◌}
use Rattle.ground.specs.Bytes.{laid}
use Rattle.refusal.specs.Refusal.{Told, refuses, gives}
use Rattle.refusal.specs.declared.Refusal.{Refusal}
use Rattle.board.specs.declared.Node.{Node}
use Rattle.coordinator.specs.declared.Coordinator.{Coordinator}
use Rattle.coordinator.specs.declared.Exchange.{Exchange}
use Rattle.coordinator.specs.declared.Exchange.TheVariants.{Offer, List as Listing, Forward, Return}
use Rattle.steps.specs.declared.Seek.{Seek as Seeks}
use Rattle.steps.specs.declared.Seek.TheVariants.{Search, Identify, Assign}
use Rattle.steps.specs.declared.Answer.{Answer}
use Rattle.steps.specs.declared.Answer.TheVariants.{Wait, Seek, Deliver, Transmit, Rest, Refuse}
use Rattle.steps.specs.declared.Stepped.{Stepped}

-- the kinds of exchange in the rule book's order: offer, list, forward, return
abbrev pub exchange_number : Exchange → ℕ
exchange_number Offer = 1
exchange_number Listing = 2
exchange_number Forward = 3
exchange_number Return = 4

-- the waits of the exchange by which a board joins come after them: search, identify, assign (02, C-11)
abbrev pub seek_number : Seeks → ℕ
seek_number Search = 5
seek_number Identify = 6
seek_number Assign = 7

-- the answers in the rule book's order: wait for a board in an exchange, deliver, transmit, rest (01, "Steps")
abbrev pub waits : ℕ → Exchange → Told
waits board exchange = gives (1 ∷ board ∷ exchange_number exchange ∷ [])

-- a wait too, for whoever is or will be at the address of a position, listed or not (02, C-11)
abbrev pub seeks : ℕ → Seeks → Told
seeks position seek = gives (1 ∷ position ∷ seek_number seek ∷ [])

abbrev pub delivers : Told
delivers = gives (2 ∷ [])

abbrev pub transmits : Told
transmits = gives (3 ∷ [])

abbrev pub rests : Told
rests = gives (4 ∷ [])

-- what an answer says; a refusal says its number alone
abbrev pub told : Answer → Told
told (Wait board exchange) = waits board exchange
told (Seek position seek) = seeks position seek
told Deliver = delivers
told Transmit = transmits
told Rest = rests
told (Refuse r) = refuses r

-- all that a step leaves
pub record After : Type 0 where
  pub coordinator : Coordinator
  pub nodes : List Node
  pub says : Told
  pub bytes : List ℕ
  pub joined : ℕ
  pub dropped : ℕ

-- a refusal: everything as it was, nothing written (01, "A refusal returns its number alone and writes nowhere")
abbrev pub refused : Coordinator → List Node → Refusal → After
refused c t r = record { coordinator = c; nodes = t; says = refuses r; bytes = []; joined = 0; dropped = 0 }

-- a step that is accepted, joins nobody and drops nobody
abbrev pub accepted : Coordinator → List Node → Told → List ℕ → After
accepted c t says bytes = record { coordinator = c; nodes = t; says = says; bytes = bytes; joined = 0; dropped = 0 }

-- a step after which the panel rests, with the position joined and the one dropped, 0 for none (01, "Steps": "rest (all else that is accepted ..)")
abbrev pub resting : Coordinator → List Node → ℕ → ℕ → After
resting c t joined dropped = record { coordinator = c; nodes = t; says = rests; bytes = []; joined = joined; dropped = dropped }

-- what the caller is shown beside the lent output: as above, with the count of the bytes written in their place
pub record Shown : Type 0 where
  pub coordinator : Coordinator
  pub nodes : List Node
  pub says : Told
  pub written : ℕ
  pub joined : ℕ
  pub dropped : ℕ

abbrev pub shown : Stepped → Shown
shown r =
    record {
      coordinator = r.coordinator;
      nodes = r.table.nodes;
      says = told r.outcome.answer;
      written = r.outcome.written;
      joined = r.outcome.joined;
      dropped = r.outcome.dropped;
    }

abbrev pub shows : After → Shown
shows a =
    record {
      coordinator = a.coordinator;
      nodes = a.nodes;
      says = a.says;
      written = length a.bytes;
      joined = a.joined;
      dropped = a.dropped;
    }

-- what is shown of a step that leaves this coordinator and these records, with what its answer says, the count of the bytes written and the positions joined and dropped
abbrev pub leaving : Coordinator → List Node → Told → ℕ → ℕ → ℕ → Shown
leaving c t says written joined dropped = record { coordinator = c; nodes = t; says = says; written = written; joined = joined; dropped = dropped }

-- what a function leaves, in its answer and in the output that it was lent: the caller is shown it, and its bytes stand at the front (01, "On success, output past the frame keeps its bytes")
abbrev pub Leaves : After → Stepped → List ℕ → List ℕ → Type 0
Leaves a r before after = (shown r ≡ shows a) × (after ≡ laid a.bytes before)
