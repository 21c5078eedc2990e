-- What a step keeps, and how: the setup, the boards that are listed, and that coordinator and table are fit.
use Prim.Native.Nat.{ℕ}
use mathlib.Core.Path.{◌≡◌, refl, sym, ◌∙◌}
use mathlib.Core.Bool.{Bool, true, false, ◌&&◌, not, false≢true}
use mathlib.Core.List.{List, [], ◌∷◌}
use lib.Dec.{eqb}
use borrow.Author.Tests.{not-true, not-false}
use Rattle.ground.specs.Below.{some}
use Rattle.ground.proofs.Choices.{and_left, and_right}
use Rattle.refusal.specs.Refusal.{number_of, ruled}
use Rattle.refusal.specs.declared.Refusal.{Refusal}
use Rattle.refusal.specs.declared.Refusal.TheVariants.{StateUnfit}
use Rattle.refusal.proofs.Rules.{Passed, Each, by_rules}
use Rattle.board.specs.declared.Node.{Node}
use Rattle.board.specs.Table.{at, put, listed_at}
use Rattle.board.specs.Wanted.{some_listed}
use Rattle.board.specs.Change.{owe_all}
use Rattle.board.proofs.Changes.{owe_all_listed}
use Rattle.setup.specs.Fitness.{Listed, FitTable}
use Rattle.setup.proofs.Tables.{table_passes}
use Rattle.coordinator.specs.declared.Exchange.TheVariants.{Offer, List as Listing, Forward, Return}
use Rattle.coordinator.specs.declared.Phase.{Phase}
use Rattle.coordinator.specs.declared.Phase.TheVariants.{Resting, Awaiting, ForwardDue, ReturnDue, Seeking, Unknown}
use Rattle.coordinator.specs.declared.Kept.{Kept}
use Rattle.coordinator.specs.declared.Coordinator.{Coordinator}
use Rattle.coordinator.specs.Fit.{phase_fits, seek_fits, hold_fits, fits}
use Rattle.coordinator.specs.Change.{with_phase, keeping}
use Rattle.coordinator.proofs.Phases.{Made, phase_back}
use Rattle.coordinator.proofs.Fitting.{fits_of, fits_setup, fits_searched, fits_hold, fits_last, fit_told}
use Rattle.steps.specs.After.{After, refused}
use Rattle.series.specs.Series.{is_accepted}
use Rattle.lasting.proofs.Tables.{Follows, put_fit, put_listed, owe_all_fit}

-- a number that a panel in a fit state may give: any but 22
abbrev pub usual : ℕ → Bool
usual n = not (eqb n 22)

-- a refusal's outcome: coordinator and records as they were, nothing written, nobody joined or dropped (00, demand 1)
pub record AsItWas (c : Coordinator) (t : List Node) (a : After) : Type 0 where
  pub coordinator : a.coordinator ≡ c
  pub nodes : a.nodes ≡ t
  pub bytes : a.bytes ≡ []
  pub joined : a.joined ≡ 0
  pub dropped : a.dropped ≡ 0

-- a step keeps fit what was fit, and the setup; in a fit state it does not give 22; and where it refuses all is as it was
pub record Keeps (c : Coordinator) (t : List Node) (a : After) : Type 0 where
  pub fit : fits c t ≡ true → fits a.coordinator a.nodes ≡ true
  pub setup : a.coordinator.setup ≡ c.setup
  pub says : fits c t ≡ true → usual a.says.number ≡ true
  pub refusal : is_accepted a.says ≡ false → AsItWas c t a

module _ (c : Coordinator) (t : List Node) where
  -- a step that is accepted
  pub accepted_keeps : (a : After) → fits a.coordinator a.nodes ≡ true → a.coordinator.setup ≡ c.setup → a.says.number ≡ 0 → Keeps c t a
  accepted_keeps a f s e = record { fit = λ h. f; setup = s; says = λ h. rw e refl; refusal = λ r. absurd (false≢true (sym r ∙ rw e refl)) }

  -- a refusal
  pub as_it_was : (r : Refusal) → AsItWas c t (refused c t r)
  as_it_was r = record { coordinator = refl; nodes = refl; bytes = refl; joined = refl; dropped = refl }

  refused_saying : (r : Refusal) → (fits c t ≡ true → usual (number_of r) ≡ true) → Keeps c t (refused c t r)
  refused_saying r u = record { fit = λ h. h; setup = refl; says = u; refusal = λ _. as_it_was r }

  pub refused_keeps : (r : Refusal) → usual (number_of r) ≡ true → Keeps c t (refused c t r)
  refused_keeps r u = refused_saying r (λ h. u)

  -- 22 is not given in a fit state
  unfit_keeps : not (fits c t) ≡ true → Keeps c t (refused c t StateUnfit)
  unfit_keeps e = refused_saying StateUnfit (λ h. absurd (false≢true (sym (not-true (fits c t) e) ∙ h)))

  -- rules that do not say 22
  abbrev usuals : List (Bool × Refusal) → Bool
  usuals [] = true
  usuals (rule ∷ rules) = usual (number_of rule.1) && usuals rules

  each_usual : (rules : List (Bool × Refusal)) → usuals rules ≡ true → Each (λ r. Keeps c t (refused c t r)) rules
  each_usual [] u = tt
  each_usual (rule ∷ rules) u = ((λ h. refused_keeps rule.1 (and_left (usual (number_of rule.1)) (usuals rules) u)), (λ h. each_usual rules (and_right (usual (number_of rule.1)) (usuals rules) u)))

  -- a step whose first rule is 22 keeps what its value keeps in a fit state
  pub rules_keep : (rules : List (Bool × Refusal)) → usuals rules ≡ true → (a : After) → (fits c t ≡ true → Passed rules → Keeps c t a) → Keeps c t (ruled ((not (fits c t), StateUnfit) ∷ rules) (refused c t) a)
  rules_keep rules u a value = by_rules (Keeps c t) ((not (fits c t), StateUnfit) ∷ rules) (refused c t) a (unfit_keeps, λ h. each_usual rules u) (λ passed. value (not-false (fits c t) passed.0) passed.1)

-- another table that is fit, with the same boards listed
pub record Stays (k : ℕ) (t u : List Node) : Type 0 where
  pub fit : FitTable k u
  pub listed : (p : ℕ) → listed_at u p ≡ listed_at t p

pub put_stays : (k : ℕ) (t : List Node) → FitTable k t → (p : ℕ) (n : Node) → Listed t p → Follows (at t p) n → n.index ≡ (at t p).index → Stays k t (put t p n)
put_stays k t f p n l s same = record { fit = put_fit k t f p n l s same; listed = put_listed k t f p n l s }

pub owe_stays : (k : ℕ) (t u : List Node) → Stays k t u → Stays k t (owe_all u)
owe_stays k t u s = record { fit = owe_all_fit k u s.fit; listed = λ p. owe_all_listed u p ∙ s.listed p }

module _ (t u : List Node) (same : (p : ℕ) → listed_at u p ≡ listed_at t p) where
  -- where the same boards are listed, somebody is where somebody was
  pub some_same : some_listed u ≡ some_listed t
  unfolding some_listed
  some_same = λ i. some (λ p. same p i) 41

  -- a hold that was fit is
  pub hold_same : (held : ℕ) → hold_fits held t ≡ true → hold_fits held u ≡ true
  unfolding hold_fits
  hold_same held h = rw some_same h

  -- and so is a phase
  pub phase_same : (p : Phase) (m : Kept) → phase_fits p t m ≡ true → phase_fits p u m ≡ true
  unfolding phase_fits
  phase_same Resting m h = refl
  phase_same (Awaiting b Offer q a) m h = rw (same b) h
  phase_same (Awaiting b Listing q a) m h = rw (same b) h
  phase_same (Awaiting b Forward q a) m h = rw (same b, same q) h
  phase_same (Awaiting b Return q a) m h = rw (same b) h
  phase_same (ForwardDue b q) m h = rw (same b, same q) h
  phase_same (ReturnDue b) m h = rw (same b) h
  phase_same (Seeking p part) m h = h
  phase_same Unknown m h = h

module _ (c : Coordinator) (t : List Node) (h : fits c t ≡ true) where
  -- the table by itself
  pub table_fit : FitTable c.setup.k t
  table_fit = (fit_told c t h).table

  -- another phase and message over a table where the same boards are listed
  pub phase_keeps : (u : List Node) → Stays c.setup.k t u → {p : Phase} (m : Kept) → Made p → phase_fits p t m ≡ true → seek_fits p c.setup.k c.found ≡ true → fits (with_phase (keeping c m) p) u ≡ true
  phase_keeps u s {p} m made e at-stake =
      fits_of (with_phase (keeping c m) p) u s.fit.boards.forty (fits_setup c t h) (table_passes c.setup.k u s.fit) (rw (phase_back made) (phase_same t u s.listed p m e)) (rw (phase_back made) at-stake) (fits_searched c t h) (hold_same t u s.listed c.held (fits_hold c t h)) (fits_last c t h)
