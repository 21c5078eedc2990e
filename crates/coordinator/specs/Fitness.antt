-- What fit means for coordinator and table, as plain facts (01, "Fit"). The test of Fit.antt decides them: proofs/Fitting.antt.
use Rattle.std.specs.Prelude.{ℕ, ◌≤◌, ◌≡◌, ◌⊎◌, List}
use Rattle.board.specs.declared.Node.{Node}
use Rattle.setup.specs.Fitness.{Position, Mac, FitSetup, FitTable, Listed}
use Rattle.coordinator.specs.declared.Exchange.TheVariants.{Offer, List as Listing, Forward, Return}
use Rattle.coordinator.specs.declared.Part.{Part}
use Rattle.coordinator.specs.declared.Part.TheVariants.{Search, IdentifyDue, Identify, Present, AssignDue, Assign}
use Rattle.coordinator.specs.declared.Phase.{Phase}
use Rattle.coordinator.specs.declared.Phase.TheVariants.{Resting, Awaiting, ForwardDue, ReturnDue, Seeking, Unknown}
use Rattle.coordinator.specs.declared.Kept.{Kept}
use Rattle.coordinator.specs.declared.Found.{Found}
use Rattle.coordinator.specs.declared.Coordinator.{Coordinator}
use Rattle.coordinator.specs.Phase.{phase_of}

-- n is one of the numbers from low to high
pub record Within (low high n : ℕ) : Type 0 where
  pub from : low ≤ n
  pub up_to : n ≤ high

-- a kept request (01, "a kept request has type 1 to 127, method 1 to 3 and at most 240 payload bytes")
pub record Request (m : Kept) : Type 0 where
  pub message : Within 1 127 m.message
  pub method : Within 1 3 m.method
  pub payload : m.length ≤ 240

-- its response: request + 128 is 129 at least, and a byte (01, "its response the type above")
pub record Response (m : Kept) : Type 0 where
  pub message : 129 ≤ m.message
  pub payload : m.length ≤ 240

-- the phase names the board at position p: the one that is waited for or to which a forward or a return is due, and a forward's requester (01, "every board named by a wait, forward or return")
abbrev pub Names : Phase → ℕ → Type 0
Names Resting p = ⊥
Names (Awaiting board Offer requester acked) p = p ≡ board
Names (Awaiting board Listing requester acked) p = p ≡ board
Names (Awaiting board Forward requester acked) p = (p ≡ board) ⊎ (p ≡ requester)
Names (Awaiting board Return requester acked) p = p ≡ board
Names (ForwardDue board requester) p = (p ≡ board) ⊎ (p ≡ requester)
Names (ReturnDue board) p = p ≡ board
Names (Seeking position part) p = ⊥
Names Unknown p = ⊥

-- what the phase needs to be kept: the request until its response comes, the response until it is returned; nothing else (house)
abbrev pub KeptFor : Phase → Kept → Type 0
KeptFor Resting m = Unit {0}
KeptFor (Awaiting board Offer requester acked) m = Unit {0}
KeptFor (Awaiting board Listing requester acked) m = Unit {0}
KeptFor (Awaiting board Forward requester acked) m = Request m
KeptFor (Awaiting board Return requester acked) m = Unit {0}
KeptFor (ForwardDue board requester) m = Request m
KeptFor (ReturnDue board) m = Response m
KeptFor (Seeking position part) m = Unit {0}
KeptFor Unknown m = Unit {0}

-- what was discovered is within the ranges: a type that is neither 0 nor 165, a MAC (02, C-11), version 1 or 2 (02, C-15)
pub record Discovered (f : Found) : Type 0 where
  pub listed : f.kind ≡ 0 → ⊥
  pub kind : f.kind ≡ 165 → ⊥
  pub mac : Mac f.mac
  pub version : (f.version ≡ 1) ⊎ (f.version ≡ 2)

-- when it is needed: from the discovery's response to the end of the exchange (02, C-11)
abbrev pub FoundFor : Part → Found → Type 0
FoundFor Search f = Unit {0}
FoundFor IdentifyDue f = Discovered f
FoundFor Identify f = Discovered f
FoundFor Present f = Discovered f
FoundFor AssignDue f = Discovered f
FoundFor Assign f = Discovered f

-- what is at stake in the exchange by which a board joins: a position from 1 to k, listed or not, and what was discovered (02, C-11)
abbrev pub AtStake : Phase → ℕ → Found → Type 0
AtStake Resting k f = Unit {0}
AtStake (Awaiting board exchange requester acked) k f = Unit {0}
AtStake (ForwardDue board requester) k f = Unit {0}
AtStake (ReturnDue board) k f = Unit {0}
AtStake (Seeking position part) k f = (Position k position) × (FoundFor part f)
AtStake Unknown k f = Unit {0}

-- somebody is listed
abbrev pub SomeoneListed : List Node → Type 0
SomeoneListed t = (p : ℕ) × Listed t p

-- coordinator and table are fit (01, "Fit")
pub record Fit (c : Coordinator) (t : List Node) : Type 0 where
  pub setup : FitSetup c.setup
  pub table : FitTable c.setup.k t
  pub known : c.stand.stage ≤ 13
  pub boards : (p : ℕ) → Names (phase_of c.stand) p → Listed t p
  pub kept : KeptFor (phase_of c.stand) c.kept
  pub stake : AtStake (phase_of c.stand) c.setup.k c.found
  pub searched : c.searched ≤ 1
  pub held : (c.held ≡ 0) ⊎ ((c.held ≡ 1) × SomeoneListed t)
  pub last : c.last ≤ c.setup.k
