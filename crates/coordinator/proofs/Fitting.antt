-- The test of fit decides what fit means, its parts by name, and what it says of the boards that a phase names.
use Prim.Native.Nat.{ℕ, ◌≤◌}
use native.Mathlib.Omega.{arith}
use mathlib.Core.Path.{◌≡◌, refl, ◌∙◌}
use mathlib.Core.Logic.{◌⊎◌, inl, inr}
use mathlib.Core.Bool.{Bool, true, ◌&&◌, not, false≢true}
use mathlib.Core.List.{List}
use lib.Dec.{eqb, leb, ltb}
use lib.ListN.{length}
use borrow.Author.Tests.{eqb-true, eqb-false, not-true, ltb-true, leb-true, lt-ltb, le-leb, eq-eqb, ne_eqb}
use Rattle.ground.proofs.Choices.{and_left, and_right, both, or_left, or_right, either, not_yes}
use Rattle.ground.proofs.Loops.{some_of}
use Rattle.board.specs.declared.Node.{Node}
use Rattle.board.specs.declared.Wanted.TheVariants.{Listed as ListedOnes}
use Rattle.board.specs.Node.{is_kind, is_mac, is_version}
use Rattle.board.specs.Table.{at, listed_at}
use Rattle.board.specs.Wanted.{lowest_of, some_listed}
use Rattle.board.proofs.Positions.{listed_within}
use Rattle.board.proofs.Versions.{version_told, version_passes}
use Rattle.board.proofs.LowestWanted.{lowest_wanted, some_lowest}
use Rattle.setup.specs.Setup.{setup_fits}
use Rattle.setup.specs.Fit.{table_fits}
use Rattle.setup.specs.Fitness.{Position, Listed}
use Rattle.setup.proofs.Pools.{mac_told, mac_passes, setup_told, setup_passes}
use Rattle.setup.proofs.Tables.{table_told, table_passes}
use Rattle.coordinator.specs.declared.Exchange.{Exchange}
use Rattle.coordinator.specs.declared.Exchange.TheVariants.{Offer, List as Listing, Forward, Return}
use Rattle.coordinator.specs.declared.Part.{Part}
use Rattle.coordinator.specs.declared.Part.TheVariants.{Search, IdentifyDue, Identify, Present, AssignDue, Assign}
use Rattle.coordinator.specs.declared.Phase.{Phase}
use Rattle.coordinator.specs.declared.Phase.TheVariants.{Resting, Awaiting, ForwardDue, ReturnDue, Seeking, Unknown}
use Rattle.coordinator.specs.declared.Kept.{Kept}
use Rattle.coordinator.specs.declared.Found.{Found}
use Rattle.coordinator.specs.declared.Coordinator.{Coordinator}
use Rattle.coordinator.specs.Phase.{phase_of}
use Rattle.coordinator.specs.Fit.{is_request, is_response, phase_fits, is_found, part_fits, seek_fits, hold_fits, fits}
use Rattle.coordinator.specs.Fitness.{Request, Response, Names, KeptFor, Discovered, FoundFor, AtStake, SomeoneListed, Fit}
use Rattle.coordinator.proofs.Phases.{Made, phase_made, phase_known, known_stage}

-- a listed position, as a test and as a fact

pub listed_told : (t : List Node) (p : ℕ) → listed_at t p ≡ true → Listed t p
listed_told t p h = eqb-false (at t p).kind 0 (not-true (eqb (at t p).kind 0) h)

pub listed_passes : (t : List Node) (p : ℕ) → Listed t p → listed_at t p ≡ true
listed_passes t p l = not_yes (eqb (at t p).kind 0) (ne_eqb (at t p).kind 0 l)

-- a listed position makes somebody listed
pub listed_some : (t : List Node) (p : ℕ) → length t ≡ 40 → listed_at t p ≡ true → some_listed t ≡ true
unfolding some_listed
listed_some t p e h = some_of (listed_at t) 41 p (omega (arith, (listed_within t p e h).1)) h

-- where somebody is listed, the lowest listed position is one
pub some_listed_lem : (t : List Node) → some_listed t ≡ true → listed_at t (lowest_of t ListedOnes 40) ≡ true
some_listed_lem t h = (lowest_wanted t ListedOnes 40 (ltb-true 0 (lowest_of t ListedOnes 40) (some_lowest t ∙ h))).passes

-- what is kept

pub request_told : (m : Kept) → is_request m ≡ true → Request m
request_told m h =
    record {
      message = record { from = ltb-true 0 m.message (and_left (ltb 0 m.message) _ h3); up_to = omega (arith, ltb-true m.message 128 (and_right (ltb 0 m.message) _ h3)) };
      method = record { from = ltb-true 0 m.method (and_right (ltb 0 m.message && ltb m.message 128) _ h2); up_to = leb-true m.method 3 (and_right (ltb 0 m.message && ltb m.message 128 && ltb 0 m.method) _ h1) };
      payload = leb-true m.length 240 (and_right (ltb 0 m.message && ltb m.message 128 && ltb 0 m.method && leb m.method 3) _ h);
    }
  where
    h1 : (ltb 0 m.message && ltb m.message 128 && ltb 0 m.method && leb m.method 3) ≡ true
    h1 = and_left _ (leb m.length 240) h

    h2 : (ltb 0 m.message && ltb m.message 128 && ltb 0 m.method) ≡ true
    h2 = and_left _ (leb m.method 3) h1

    h3 : (ltb 0 m.message && ltb m.message 128) ≡ true
    h3 = and_left _ (ltb 0 m.method) h2

pub request_passes : (m : Kept) → Request m → is_request m ≡ true
request_passes m f = both _ _ (both _ _ (both _ _ (both _ _ (lt-ltb 0 m.message f.message.from) (lt-ltb m.message 128 (omega (arith, f.message.up_to)))) (lt-ltb 0 m.method f.method.from)) (le-leb m.method 3 f.method.up_to)) (le-leb m.length 240 f.payload)

pub response_told : (m : Kept) → is_response m ≡ true → Response m
response_told m h = record { message = ltb-true 128 m.message (and_left (ltb 128 m.message) _ h); payload = leb-true m.length 240 (and_right (ltb 128 m.message) _ h) }

pub response_passes : (m : Kept) → Response m → is_response m ≡ true
response_passes m f = both _ _ (lt-ltb 128 m.message f.message) (le-leb m.length 240 f.payload)

-- the phase: the boards that it names are listed, and what it needs is kept

module _ (t : List Node) where
  one_board : (b : ℕ) → listed_at t b ≡ true → (p : ℕ) → p ≡ b → Listed t p
  one_board b h p e = rw e (listed_told t b h)

  two_boards : (b q : ℕ) → listed_at t b ≡ true → listed_at t q ≡ true → (p : ℕ) → (p ≡ b) ⊎ (p ≡ q) → Listed t p
  two_boards b q h i p (inl e) = one_board b h p e
  two_boards b q h i p (inr e) = one_board q i p e

  -- a wait that asks for nothing more than its board
  plain_told : (b : ℕ) → (listed_at t b && true) ≡ true → ((p : ℕ) → p ≡ b → Listed t p) × Unit {0}
  plain_told b h = (one_board b (and_left (listed_at t b) true h), tt)

  plain_passes : (b : ℕ) → ((p : ℕ) → p ≡ b → Listed t p) → (listed_at t b && true) ≡ true
  plain_passes b n = both _ _ (listed_passes t b (n b refl)) refl

  module _ (m : Kept) where
    forward_told : (b q : ℕ) → (listed_at t b && (listed_at t q && is_request m)) ≡ true → ((p : ℕ) → (p ≡ b) ⊎ (p ≡ q) → Listed t p) × Request m
    forward_told b q h = (two_boards b q (and_left (listed_at t b) _ h) (and_left (listed_at t q) _ rest), request_told m (and_right (listed_at t q) _ rest))
      where
        rest : (listed_at t q && is_request m) ≡ true
        rest = and_right (listed_at t b) _ h

    forward_passes : (b q : ℕ) → ((p : ℕ) → (p ≡ b) ⊎ (p ≡ q) → Listed t p) → Request m → (listed_at t b && (listed_at t q && is_request m)) ≡ true
    forward_passes b q n f = both _ _ (listed_passes t b (n b (inl refl))) (both _ _ (listed_passes t q (n q (inr refl))) (request_passes m f))

    pub phase_told : (p : Phase) → phase_fits p t m ≡ true → ((q : ℕ) → Names p q → Listed t q) × KeptFor p m
    unfolding phase_fits
    phase_told Resting h = ((λ q n. absurd n), tt)
    phase_told (Awaiting b Offer q a) h = plain_told b h
    phase_told (Awaiting b Listing q a) h = plain_told b h
    phase_told (Awaiting b Forward q a) h = forward_told b q h
    phase_told (Awaiting b Return q a) h = plain_told b h
    phase_told (ForwardDue b q) h = forward_told b q h
    phase_told (ReturnDue b) h = (one_board b (and_left (listed_at t b) (is_response m) h), response_told m (and_right (listed_at t b) (is_response m) h))
    phase_told (Seeking p part) h = ((λ q n. absurd n), tt)
    phase_told Unknown h = absurd (false≢true h)

    pub phase_passes : (p : Phase) → (p ≡ Unknown → ⊥) → ((q : ℕ) → Names p q → Listed t q) → KeptFor p m → phase_fits p t m ≡ true
    unfolding phase_fits
    phase_passes Resting u n f = refl
    phase_passes (Awaiting b Offer q a) u n f = plain_passes b n
    phase_passes (Awaiting b Listing q a) u n f = plain_passes b n
    phase_passes (Awaiting b Forward q a) u n f = forward_passes b q n f
    phase_passes (Awaiting b Return q a) u n f = plain_passes b n
    phase_passes (ForwardDue b q) u n f = forward_passes b q n f
    phase_passes (ReturnDue b) u n f = both _ _ (listed_passes t b (n b refl)) (response_passes m f)
    phase_passes (Seeking p part) u n f = refl
    phase_passes Unknown u n f = absurd (u refl)

-- the exchange by which a board joins: what was discovered, and the position at stake

pub found_told : (f : Found) → is_found f ≡ true → Discovered f
found_told f h =
    record {
      listed = eqb-false f.kind 0 (not-true (eqb f.kind 0) (and_left (not (eqb f.kind 0)) (not (eqb f.kind 165)) one));
      kind = eqb-false f.kind 165 (not-true (eqb f.kind 165) (and_right (not (eqb f.kind 0)) (not (eqb f.kind 165)) one));
      mac = mac_told f.mac (and_right (is_kind f.kind) (is_mac f.mac) two);
      version = version_told f.version (and_right (is_kind f.kind && is_mac f.mac) (is_version f.version) h);
    }
  where
    two : (is_kind f.kind && is_mac f.mac) ≡ true
    two = and_left (is_kind f.kind && is_mac f.mac) (is_version f.version) h

    one : is_kind f.kind ≡ true
    one = and_left (is_kind f.kind) (is_mac f.mac) two

pub found_passes : (f : Found) → Discovered f → is_found f ≡ true
found_passes f d = both _ _ (both _ _ (both _ _ (not_yes (eqb f.kind 0) (ne_eqb f.kind 0 d.listed)) (not_yes (eqb f.kind 165) (ne_eqb f.kind 165 d.kind))) (mac_passes f.mac d.mac)) (version_passes f.version d.version)

part_told : (part : Part) (f : Found) → part_fits part f ≡ true → FoundFor part f
part_told Search f h = tt
part_told IdentifyDue f h = found_told f h
part_told Identify f h = found_told f h
part_told Present f h = found_told f h
part_told AssignDue f h = found_told f h
part_told Assign f h = found_told f h

part_passes : (part : Part) (f : Found) → FoundFor part f → part_fits part f ≡ true
part_passes Search f d = refl
part_passes IdentifyDue f d = found_passes f d
part_passes Identify f d = found_passes f d
part_passes Present f d = found_passes f d
part_passes AssignDue f d = found_passes f d
part_passes Assign f d = found_passes f d

-- a position from 1 to k at stake
pub stake_told : (k p : ℕ) (part : Part) (f : Found) → (leb 1 p && leb p k && part_fits part f) ≡ true → (Position k p) × (FoundFor part f)
stake_told k p part f h = (record { from = leb-true 1 p (and_left (leb 1 p) (leb p k) here); up_to = leb-true p k (and_right (leb 1 p) (leb p k) here) }, part_told part f (and_right (leb 1 p && leb p k) (part_fits part f) h))
  where
    here : (leb 1 p && leb p k) ≡ true
    here = and_left (leb 1 p && leb p k) (part_fits part f) h

pub stake_passes : (k p : ℕ) (part : Part) (f : Found) → Position k p → part_fits part f ≡ true → (leb 1 p && leb p k && part_fits part f) ≡ true
stake_passes k p part f here e = both _ _ (both _ _ (le-leb 1 p here.from) (le-leb p k here.up_to)) e

seek_told : (p : Phase) (k : ℕ) (f : Found) → seek_fits p k f ≡ true → AtStake p k f
seek_told Resting k f h = tt
seek_told (Awaiting b x q a) k f h = tt
seek_told (ForwardDue b q) k f h = tt
seek_told (ReturnDue b) k f h = tt
seek_told (Seeking p part) k f h = stake_told k p part f h
seek_told Unknown k f h = tt

seek_passes : (p : Phase) (k : ℕ) (f : Found) → AtStake p k f → seek_fits p k f ≡ true
seek_passes Resting k f s = refl
seek_passes (Awaiting b x q a) k f s = refl
seek_passes (ForwardDue b q) k f s = refl
seek_passes (ReturnDue b) k f s = refl
seek_passes (Seeking p part) k f s = stake_passes k p part f s.0 (part_passes part f s.1)
seek_passes Unknown k f s = refl

-- the hold

hold_told : (held : ℕ) (t : List Node) → hold_fits held t ≡ true → (held ≡ 0) ⊎ ((held ≡ 1) × SomeoneListed t)
unfolding hold_fits
hold_told held t h = go (either (eqb held 0) (eqb held 1 && some_listed t) h)
  where
    go : (eqb held 0 ≡ true) ⊎ ((eqb held 1 && some_listed t) ≡ true) → (held ≡ 0) ⊎ ((held ≡ 1) × SomeoneListed t)
    go (inl e) = inl (eqb-true held 0 e)
    go (inr e) = inr (eqb-true held 1 (and_left (eqb held 1) (some_listed t) e), (lowest_of t ListedOnes 40, listed_told t (lowest_of t ListedOnes 40) (some_listed_lem t (and_right (eqb held 1) (some_listed t) e))))

hold_passes : (held : ℕ) (t : List Node) → length t ≡ 40 → (held ≡ 0) ⊎ ((held ≡ 1) × SomeoneListed t) → hold_fits held t ≡ true
unfolding hold_fits
hold_passes held t l (inl e) = or_left (eqb held 0) _ (eq-eqb held 0 e)
hold_passes held t l (inr (e, (p, h))) = or_right (eqb held 0) _ (both _ _ (eq-eqb held 1 e) (listed_some t p l (listed_passes t p h)))

-- the parts of the test by name

record Parts (a b d e s m f g : Bool) : Type 0 where
  forty : a ≡ true
  setup : b ≡ true
  table : d ≡ true
  phase : e ≡ true
  seek : s ≡ true
  memory : m ≡ true
  hold : f ≡ true
  last : g ≡ true

parts : (a b d e s m f g : Bool) → (a && (b && (d && (e && (s && (m && (f && g))))))) ≡ true → Parts a b d e s m f g
parts a b d e s m f g h = record { forty = and_left a _ h; setup = and_left b _ h1; table = and_left d _ h2; phase = and_left e _ h3; seek = and_left s _ h4; memory = and_left m _ h5; hold = and_left f g h6; last = and_right f g h6 }
  where
    h1 : (b && (d && (e && (s && (m && (f && g)))))) ≡ true
    h1 = and_right a _ h

    h2 : (d && (e && (s && (m && (f && g))))) ≡ true
    h2 = and_right b _ h1

    h3 : (e && (s && (m && (f && g)))) ≡ true
    h3 = and_right d _ h2

    h4 : (s && (m && (f && g))) ≡ true
    h4 = and_right e _ h3

    h5 : (m && (f && g)) ≡ true
    h5 = and_right s _ h4

    h6 : (f && g) ≡ true
    h6 = and_right m _ h5

module _ (c : Coordinator) (t : List Node) where
  -- all of them make the whole
  pub fits_of : length t ≡ 40 → setup_fits c.setup ≡ true → table_fits c.setup.k t ≡ true → phase_fits (phase_of c.stand) t c.kept ≡ true → seek_fits (phase_of c.stand) c.setup.k c.found ≡ true → c.searched ≤ 1 → hold_fits c.held t ≡ true → c.last ≤ c.setup.k → fits c t ≡ true
  unfolding fits
  fits_of a b d e s m f g = both _ _ (eq-eqb (length t) 40 a) (both _ _ b (both _ _ d (both _ _ e (both _ _ s (both _ _ (le-leb c.searched 1 m) (both _ _ f (le-leb c.last c.setup.k g)))))))

  -- what fit means makes the test hold
  pub fit_passes : Fit c t → fits c t ≡ true
  fit_passes f = fits_of f.table.boards.forty (setup_passes c.setup f.setup) (table_passes c.setup.k t f.table) (phase_passes t c.kept (phase_of c.stand) (phase_known c.stand f.known) f.boards f.kept) (seek_passes (phase_of c.stand) c.setup.k c.found f.stake) f.searched (hold_passes c.held t f.table.boards.forty f.held) f.last

  module _ (h : fits c t ≡ true) where
    opened : Parts (eqb (length t) 40) (setup_fits c.setup) (table_fits c.setup.k t) (phase_fits (phase_of c.stand) t c.kept) (seek_fits (phase_of c.stand) c.setup.k c.found) (leb c.searched 1) (hold_fits c.held t) (leb c.last c.setup.k)
    unfolding fits
    opened = parts (eqb (length t) 40) (setup_fits c.setup) (table_fits c.setup.k t) (phase_fits (phase_of c.stand) t c.kept) (seek_fits (phase_of c.stand) c.setup.k c.found) (leb c.searched 1) (hold_fits c.held t) (leb c.last c.setup.k) h

    pub fits_forty : length t ≡ 40
    fits_forty = eqb-true (length t) 40 opened.forty

    pub fits_setup : setup_fits c.setup ≡ true
    fits_setup = opened.setup

    pub fits_table : table_fits c.setup.k t ≡ true
    fits_table = opened.table

    pub fits_phase : phase_fits (phase_of c.stand) t c.kept ≡ true
    fits_phase = opened.phase

    pub fits_seek : seek_fits (phase_of c.stand) c.setup.k c.found ≡ true
    fits_seek = opened.seek

    pub fits_searched : c.searched ≤ 1
    fits_searched = leb-true c.searched 1 opened.memory

    pub fits_hold : hold_fits c.held t ≡ true
    fits_hold = opened.hold

    pub fits_last : c.last ≤ c.setup.k
    fits_last = leb-true c.last c.setup.k opened.last

    -- what the test says of the phase, where it is known which
    pub fits_in : {p : Phase} → phase_of c.stand ≡ p → phase_fits p t c.kept ≡ true
    fits_in e = rw e at fits_phase

    -- and of the position at stake
    pub fits_stake : {p : ℕ} {part : Part} → phase_of c.stand ≡ Seeking p part → (Position c.setup.k p) × (FoundFor part c.found)
    fits_stake {p} {part} e = stake_told c.setup.k p part c.found (rw e at fits_seek)

    pub fits_known : phase_of c.stand ≡ Unknown → ⊥
    unfolding phase_fits
    fits_known e = false≢true (fits_in e)

    -- the test holds only of what fit means
    pub fit_told : Fit c t
    fit_told =
        record {
          setup = setup_told c.setup fits_setup;
          table = table_told c.setup.k t fits_forty fits_table;
          known = known_stage c.stand fits_known;
          boards = (phase_told t c.kept (phase_of c.stand) fits_phase).0;
          kept = (phase_told t c.kept (phase_of c.stand) fits_phase).1;
          stake = seek_told (phase_of c.stand) c.setup.k c.found fits_seek;
          searched = fits_searched;
          held = hold_told c.held t fits_hold;
          last = fits_last;
        }

    -- so the phase is one that a step makes
    pub fits_made : Made (phase_of c.stand)
    fits_made = phase_made c.stand fit_told.known

-- p is a listed position, one of 1 to k, and k is at most forty
pub record Board (c : Coordinator) (t : List Node) (p : ℕ) : Type 0 where
  pub listed : listed_at t p ≡ true
  pub from : 1 ≤ p
  pub up_to : p ≤ c.setup.k
  pub few : c.setup.k ≤ 40

-- a request is carried to board b for board q
pub record Carried (c : Coordinator) (t : List Node) (b q : ℕ) : Type 0 where
  pub board : Board c t b
  pub requester : Board c t q
  pub request : is_request c.kept ≡ true

module _ (c : Coordinator) (t : List Node) (h : fits c t ≡ true) where
  pub board_listed : (p : ℕ) → listed_at t p ≡ true → Board c t p
  board_listed p l = record { listed = l; from = here.from; up_to = here.up_to; few = (fit_told c t h).setup.pool.up_to }
    where
      here : Position c.setup.k p
      here = (fit_told c t h).table.boards.within p (listed_told t p l)

  -- the boards that the phase names, and what is kept for them

  pub awaited : {b : ℕ} {e : Exchange} {q : ℕ} {a : Bool} → phase_of c.stand ≡ Awaiting b e q a → Board c t b
  unfolding phase_fits
  awaited {b} w = board_listed b (and_left (listed_at t b) _ (fits_in c t h w))

  carried : (b q : ℕ) → (listed_at t b && (listed_at t q && is_request c.kept)) ≡ true → Carried c t b q
  carried b q e = record { board = board_listed b (and_left (listed_at t b) _ e); requester = board_listed q (and_left (listed_at t q) _ rest); request = and_right (listed_at t q) _ rest }
    where
      rest : (listed_at t q && is_request c.kept) ≡ true
      rest = and_right (listed_at t b) _ e

  pub awaited_forward : {b q : ℕ} {a : Bool} → phase_of c.stand ≡ Awaiting b Forward q a → Carried c t b q
  unfolding phase_fits
  awaited_forward {b} {q} w = carried b q (fits_in c t h w)

  pub due_forward : {b q : ℕ} → phase_of c.stand ≡ ForwardDue b q → Carried c t b q
  unfolding phase_fits
  due_forward {b} {q} w = carried b q (fits_in c t h w)

  pub due_return : {b : ℕ} → phase_of c.stand ≡ ReturnDue b → Board c t b
  unfolding phase_fits
  due_return {b} w = board_listed b (and_left (listed_at t b) _ (fits_in c t h w))

  pub due_response : {b : ℕ} → phase_of c.stand ≡ ReturnDue b → is_response c.kept ≡ true
  unfolding phase_fits
  due_response {b} w = and_right (listed_at t b) _ (fits_in c t h w)
