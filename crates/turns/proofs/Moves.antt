-- What a step can be: a refusal, an offer to the next listed board, or work that lowers the potential; and what makes it one of them.
use Prim.Native.Nat.{ℕ, ◌+◌, ◌*◌, ◌≤◌, ◌<◌}
use native.Mathlib.Omega.{arith}
use mathlib.Core.Path.{◌≡◌, refl}
use mathlib.Core.Bool.{Bool, true, false, not}
use mathlib.Core.List.{List}
use lib.Dec.{eqb}
use borrow.Author.Tests.{ne_eqb}
use Rattle.ground.specs.Choose.{choose}
use Rattle.ground.proofs.Loops.{one_le}
use Rattle.ground.proofs.Counts.{count_within}
use Rattle.refusal.specs.Refusal.{Told, number_of, ruled}
use Rattle.refusal.specs.declared.Refusal.{Refusal}
use Rattle.refusal.proofs.Numbers.{not_zero}
use Rattle.refusal.proofs.Rules.{Passed, each, by_rules}
use Rattle.board.specs.declared.Node.{Node}
use Rattle.board.specs.declared.Wanted.{Wanted}
use Rattle.board.specs.declared.Wanted.TheVariants.{Listed, Owed}
use Rattle.board.specs.Table.{at, put, listed_at}
use Rattle.board.specs.Wanted.{wants, count_of}
use Rattle.board.specs.Round.{next_listed}
use Rattle.board.proofs.LowestWanted.{listed_zero}
use Rattle.board.proofs.Counts.{count_kept, owed_listed}
use Rattle.coordinator.specs.declared.Coordinator.{Coordinator}
use Rattle.coordinator.specs.declared.Exchange.{Exchange}
use Rattle.coordinator.specs.declared.Exchange.TheVariants.{Offer, List as Listing, Forward, Return}
use Rattle.coordinator.specs.declared.Kept.{Kept}
use Rattle.coordinator.specs.declared.Found.{Found}
use Rattle.coordinator.specs.declared.Phase.{Phase}
use Rattle.coordinator.specs.declared.Phase.TheVariants.{Resting, Awaiting, ForwardDue, ReturnDue, Seeking, Unknown}
use Rattle.coordinator.specs.Phase.{stand_of, phase_of}
use Rattle.coordinator.specs.Fit.{fits}
use Rattle.coordinator.specs.Change.{with_phase, keeping}
use Rattle.coordinator.proofs.Phases.{Made, resting, phase_back}
use Rattle.coordinator.proofs.Fitting.{Board, fits_forty, board_listed, fit_told}
use Rattle.steps.specs.declared.Seek.{Seek}
use Rattle.steps.specs.declared.Seek.TheVariants.{Search as ToSearch, Identify as ToIdentify, Assign as ToAssign}
use Rattle.steps.specs.After.{After, refused, accepted, waits, seeks, delivers, transmits, rests}
use Rattle.series.specs.Series.{is_accepted, offered_to}
use Rattle.turns.specs.Potential.{list_steps, unheld, after_offer, under_way, potential, between}
use Rattle.turns.proofs.Numbers.{ahead_most, left_most}

-- it refuses, and all is as it was
pub record Refuses (c : Coordinator) (t : List Node) (a : After) : Type 0 where
  pub said : is_accepted a.says ≡ false
  pub nobody : offered_to a.says ≡ 0
  pub coordinator : a.coordinator ≡ c
  pub nodes : a.nodes ≡ t

-- it offers the bus to the first listed position after the last one offered, which is the last one offered then
pub record Offers (c : Coordinator) (t : List Node) (a : After) : Type 0 where
  pub said : is_accepted a.says ≡ true
  pub board : offered_to a.says ≡ next_listed t c.setup.k c.last
  pub last : a.coordinator.last ≡ next_listed t c.setup.k c.last

-- it does something else: the last one offered stays, and the potential falls while somebody is listed
pub record Works (c : Coordinator) (t : List Node) (a : After) : Type 0 where
  pub said : is_accepted a.says ≡ true
  pub nobody : offered_to a.says ≡ 0
  pub last : a.coordinator.last ≡ c.last
  pub falls : fits a.coordinator a.nodes ≡ true → 1 ≤ count_of Listed t → 1 ≤ count_of Listed a.nodes → potential a.coordinator a.nodes < potential c t

pub data Moves (c : Coordinator) (t : List Node) (a : After) : Type 0 where
  refuses : Refuses c t a → Moves c t a
  offers : Offers c t a → Moves c t a
  works : Works c t a → Moves c t a

pub refusing : (c : Coordinator) (t : List Node) (r : Refusal) → Moves c t (refused c t r)
unfolding choose
refusing c t r = refuses (record { said = ne_eqb (number_of r) 0 (not_zero r); nobody = refl; coordinator = refl; nodes = refl })

-- what rules guard is a refusal, or what it is where they pass
pub guarded : (c : Coordinator) (t : List Node) (rules : List (Bool × Refusal)) (a : After) → (Passed rules → Moves c t a) → Moves c t (ruled rules (refused c t) a)
guarded c t rules a m = by_rules (Moves c t) rules (refused c t) a (each (refusing c t) rules) m

-- an answer that is accepted and offers nothing
abbrev pub Plain : Told → Type 0
Plain says = (is_accepted says ≡ true) × (offered_to says ≡ 0)

pub plain_rests : Plain rests
unfolding choose
plain_rests = (refl, refl)

pub plain_transmits : Plain transmits
unfolding choose
plain_transmits = (refl, refl)

pub plain_delivers : Plain delivers
unfolding choose
plain_delivers = (refl, refl)

pub plain_list : (board : ℕ) → Plain (waits board Listing)
unfolding choose
plain_list board = (refl, refl)

pub plain_forward : (board : ℕ) → Plain (waits board Forward)
unfolding choose
plain_forward board = (refl, refl)

pub plain_return : (board : ℕ) → Plain (waits board Return)
unfolding choose
plain_return board = (refl, refl)

-- the waits of the exchange by which a board joins
pub plain_seeks : (position : ℕ) (s : Seek) → Plain (seeks position s)
unfolding choose
plain_seeks position ToSearch = (refl, refl)
plain_seeks position ToIdentify = (refl, refl)
plain_seeks position ToAssign = (refl, refl)

-- a wait that ends leaves less under way, where the lists are owed as before or it was no list's
pub wait_ends : (k b q : ℕ) (e : Exchange) (a : Bool) (old new : ℕ) → new ≤ k → (e ≡ Listing → new ≡ old) → under_way k Resting new < under_way k (Awaiting b e q a) old
unfolding under_way
wait_ends k b q Offer a old new h same = omega arith
wait_ends k b q Listing a old new h same = omega (arith, same refl)
wait_ends k b q Forward true old new h same = omega arith
wait_ends k b q Forward false old new h same = omega arith
wait_ends k b q Return a old new h same = omega arith

module _ (c : Coordinator) (t : List Node) (h : fits c t ≡ true) where
  pub k_least : 1 ≤ c.setup.k
  k_least = (fit_told c t h).setup.pool.from

  -- no more boards are listed than there are positions
  pub listed_most : count_of Listed t ≤ c.setup.k
  unfolding count_of
  listed_most = count_within (listed_at t) c.setup.k 41 (listed_zero t) (λ p l. (board_listed c t h p l).up_to)

  pub owed_most : (u : List Node) → count_of Listed u ≡ count_of Listed t → count_of Owed u ≤ c.setup.k
  owed_most u e = omega (arith, owed_listed u, listed_most)

  -- a board's record changed in nothing that is wanted
  pub put_keeps : (w : Wanted) {p : ℕ} (n : Node) → Board c t p → wants w n ≡ wants w (at t p) → count_of w (put t p n) ≡ count_of w t
  put_keeps w {p} n b e = count_kept w t p n (fits_forty c t h) b.from (omega (arith, b.up_to, b.few)) e

  -- the coordinator in another phase, with another message kept and another board discovered
  abbrev standing : Phase → Kept → Found → Coordinator
  standing q m f = record { setup = c.setup; last = c.last; held = c.held; searched = c.searched; stand = stand_of q; kept = m; found = f }

  -- another phase, another message kept, another board discovered, as many boards listed, less under way
  pub moved_with : {q : Phase} (m : Kept) (f : Found) (u : List Node) (says : Told) (bytes : List ℕ) → Made q → Plain says → count_of Listed u ≡ count_of Listed t → under_way c.setup.k q (count_of Owed u) < under_way c.setup.k (phase_of c.stand) (count_of Owed t) → Moves c t (accepted (standing q m f) u says bytes)
  unfolding potential
  moved_with {q} m f u says bytes made plain same less = works (record { said = plain.0; nobody = plain.1; last = refl; falls = λ f n n'. rw (phase_back made, same) (omega arith) })

  -- another phase and message, with what was discovered as it was
  pub moved : {q : Phase} (m : Kept) (u : List Node) (says : Told) (bytes : List ℕ) → Made q → Plain says → count_of Listed u ≡ count_of Listed t → under_way c.setup.k q (count_of Owed u) < under_way c.setup.k (phase_of c.stand) (count_of Owed t) → Moves c t (accepted (with_phase (keeping c m) q) u says bytes)
  moved m = moved_with m c.found

  -- a wait that ends
  pub ended : {b r : ℕ} {e : Exchange} {a : Bool} (u : List Node) (says : Told) (bytes : List ℕ) → phase_of c.stand ≡ Awaiting b e r a → Plain says → count_of Listed u ≡ count_of Listed t → (e ≡ Listing → count_of Owed u ≡ count_of Owed t) → Moves c t (accepted (with_phase c Resting) u says bytes)
  ended {b} {r} {e} {a} u says bytes w plain same owed = moved c.kept u says bytes resting plain same (rw w (wait_ends c.setup.k b r e a (count_of Owed t) (count_of Owed u) (owed_most u same) owed))

  -- what is under way is most after an offer
  under_most : (p : Phase) → under_way c.setup.k p (count_of Owed t) ≤ list_steps * c.setup.k + after_offer
  unfolding under_way
  under_most Resting = omega (arith, owed_most t refl)
  under_most (Awaiting b Offer q a) = omega arith
  under_most (Awaiting b Listing q a) = omega (arith, owed_most t refl)
  under_most (Awaiting b Forward q true) = omega arith
  under_most (Awaiting b Forward q false) = omega arith
  under_most (Awaiting b Return q a) = omega arith
  under_most (ForwardDue b q) = omega arith
  under_most (ReturnDue b) = omega arith
  under_most (Seeking p part) = omega (arith, owed_most t refl, left_most part)
  under_most Unknown = omega arith

  -- so the potential is below what there can be between two offers
  pub potential_most : potential c t < between c.setup.k
  unfolding potential
  potential_most = omega (arith, under_most (phase_of c.stand), ahead_most c.setup.k (count_of Listed t) (unheld c.held) k_least listed_most (one_le (not (eqb c.held 1))), one_le (not (eqb c.searched 1)))
