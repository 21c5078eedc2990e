-- What was seen of a coordinator and its records tells whether they are fit, and of fit ones all that a step asks.
use Prim.Native.Nat.{ℕ, ◌≤◌}
use native.Mathlib.Omega.{arith}
use mathlib.Core.Path.{◌≡◌, refl, sym, ap, ◌∙◌}
use mathlib.Core.Bool.{Bool, true, false, ◌&&◌, not}
use mathlib.Core.Logic.{inl, inr}
use mathlib.Core.List.{List}
use lib.Dec.{eqb}
use lib.ListN.{length, length-map}
use borrow.Author.Tests.{eq-eqb, eqb-true, not-false}
use Rattle.ground.proofs.Choices.{and_left}
use Rattle.ground.proofs.Highest.{HighestCase}
use Rattle.board.specs.declared.Node.{Node}
use Rattle.board.specs.declared.Columns.{Columns}
use Rattle.board.specs.Table.{at, listed_at}
use Rattle.board.specs.declared.Wanted.TheVariants.{Owed}
use Rattle.board.specs.Wanted.{lowest_of, highest_listed}
use Rattle.board.specs.Columns.{kind_of, kinds_of, stored_index, stored_indexes, stored_version, versions_of, macs_of, typed, column_at}
use Rattle.board.specs.Types.{too_many_types}
use Rattle.board.proofs.LowestWanted.{highest_listed_case, highest_within, owed_to_top, some_highest}
use Rattle.board.proofs.SameKinds.{SameKinds, kinds_listed}
use Rattle.board.proofs.Column.{typed_kinds, column_of, forty_whole, Blanks}
use Rattle.setup.specs.Fit.{records_fit, are_apart, are_numbered, table_fits}
use Rattle.setup.proofs.Tables.{boards_listed, table_told}
use Rattle.coordinator.specs.declared.Coordinator.{Coordinator}
use Rattle.coordinator.specs.declared.Exchange.{Exchange}
use Rattle.coordinator.specs.declared.Exchange.TheVariants.{Offer, List as Listing, Forward, Return}
use Rattle.coordinator.specs.declared.Phase.{Phase}
use Rattle.coordinator.specs.declared.Phase.TheVariants.{Resting, Awaiting, ForwardDue, ReturnDue, Seeking, Unknown}
use Rattle.coordinator.specs.declared.Kept.{Kept}
use Rattle.coordinator.specs.declared.State.{State}
use Rattle.coordinator.specs.Phase.{phase_of}
use Rattle.coordinator.specs.Fit.{exchange_fits, phase_fits, hold_fits, fits}
use Rattle.coordinator.specs.State.{head_of, bare}
use Rattle.coordinator.proofs.Fitting.{fits_forty, fits_table, board_listed}
use Rattle.look.specs.declared.Seen.{Seen}
use Rattle.look.specs.Seen.{fits_seen, Columned, Sees, Saw}

-- the test of a phase needs the types and the head of what is kept
module _ {t u : List Node} (same : SameKinds t u) where
  here : (p : ℕ) → listed_at t p ≡ listed_at u p
  here p = λ i. kinds_listed same i p

  exchange_same : (e : Exchange) (q : ℕ) (m : Kept) → exchange_fits e q t (bare (head_of m)) ≡ exchange_fits e q u m
  exchange_same Offer q m = refl
  exchange_same Listing q m = refl
  exchange_same Forward q m = rw (here q) refl
  exchange_same Return q m = refl

  phase_same : (p : Phase) (m : Kept) → phase_fits p t (bare (head_of m)) ≡ phase_fits p u m
  unfolding phase_fits
  phase_same Resting m = refl
  phase_same (Awaiting b e q a) m = rw (here b, exchange_same e q m) refl
  phase_same (ForwardDue b q) m = rw (here b, here q) refl
  phase_same (ReturnDue b) m = rw (here b) refl
  phase_same (Seeking p part) m = refl
  phase_same Unknown m = refl

-- of fit records nobody is listed above k
pub top_within : (c : Coordinator) (t : List Node) → fits c t ≡ true → highest_listed t ≤ c.setup.k
top_within c t fit = go (highest_listed_case t)
  where
    go : HighestCase (listed_at t) 40 (highest_listed t) → highest_listed t ≤ c.setup.k
    go (inl (none, zeroed)) = omega (arith, zeroed)
    go (inr f) = (board_listed c t fit (highest_listed t) f.passes).up_to

-- so the lowest position owed the list is one from 1 to k
owed_within : (c : Coordinator) (t : List Node) → fits c t ≡ true → lowest_of t Owed 40 ≡ lowest_of t Owed c.setup.k
owed_within c t fit = owed_to_top t 40 (highest_within t) ∙ sym (owed_to_top t c.setup.k (top_within c t fit))

module _ {s : Seen} {columns : Columns} {c : Coordinator} {t : List Node} (sees : Sees s columns c t) where
  -- what is seen tells whether coordinator and records are fit
  pub fits_seen_lem : fits_seen s columns ≡ fits c t
  unfolding fits_seen fits table_fits hold_fits
  fits_seen_lem = go s.ok refl
    where
      go : (b : Bool) → s.ok ≡ b → fits_seen s columns ≡ fits c t
      go false e = rw (eq-eqb (length t) 40 sees.forty, sees.setup, e, (let r : records_fit c.setup.k t ≡ false = sym sees.each ∙ e in r)) refl
      go true e =
          let cols = sees.columned e in
          let r : records_fit c.setup.k t ≡ true = sym sees.each ∙ e in
          rw (eq-eqb (length t) 40 sees.forty, sees.setup, sees.state, e, r, cols.kinds, cols.indexes, cols.versions, cols.macs, cols.top, boards_listed c.setup.k t sees.forty r, forty_whole (kinds_of t) (length-map t kind_of ∙ sees.forty), forty_whole (versions_of t) (length-map t stored_version ∙ sees.forty), phase_same (typed_kinds t sees.forty) (phase_of c.stand) c.kept, some_highest t) refl

  -- and of fit ones all of it
  module _ (fit : fits c t ≡ true) where
    pub fit_columns : Columned s columns t
    unfolding table_fits
    fit_columns = sees.columned (sees.each ∙ and_left (records_fit c.setup.k t) (are_apart (macs_of t) && are_numbered t && not (too_many_types (kinds_of t) (versions_of t))) (fits_table c t fit))

    pub saw : Saw s c t
    saw = record { fit = fit; setup = sees.setup; state = sees.state; top = fit_columns.top; owed = fit_columns.owed ∙ owed_within c t fit }

-- records that are fit are blank where they are not listed
pub fit_blanks : (c : Coordinator) (t : List Node) → fits c t ≡ true → Blanks t
fit_blanks c t fit p l = (table_told c.setup.k t (fits_forty c t fit) (fits_table c t fit)).boards.blank p (eqb-true (at t p).kind 0 (not-false (eqb (at t p).kind 0) l))

-- what fit ones were seen as, and what they are
module _ {s : Seen} {c : Coordinator} {t : List Node} (saw : Saw s c t) where
  -- the phase that was read
  pub stand_seen : {phase : Phase} → phase ≡ phase_of s.state.stand → phase ≡ phase_of c.stand
  stand_seen e = e ∙ ap (λ (x : State). phase_of x.stand) saw.state

  -- the types
  pub kinds_seen : {kinds : List ℕ} → kinds ≡ kinds_of t → SameKinds (typed kinds) t
  kinds_seen known = rw known (typed_kinds t (fits_forty c t saw.fit))

  -- the stored index at a position
  pub index_seen : {indexes : List ℕ} → indexes ≡ stored_indexes t → (p : ℕ) → column_at indexes p ≡ (at t p).index
  index_seen known p = ap (λ (xs : List ℕ). column_at xs p) known ∙ column_of stored_index refl t (fits_forty c t saw.fit) p

  -- the version at a position
  pub version_seen : {versions : List ℕ} → versions ≡ versions_of t → (p : ℕ) → column_at versions p ≡ (at t p).version
  version_seen known p = ap (λ (vs : List ℕ). column_at vs p) known ∙ column_of stored_version refl t (fits_forty c t saw.fit) p
