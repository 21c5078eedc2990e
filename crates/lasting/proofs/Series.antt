-- Demand 3 over any series of steps, refused ones among them: the panel stays fit, and no two boards are alike.
use Prim.Native.Nat.{ℕ, ◌≤◌}
use native.Mathlib.Decide.{ℕ_discrete}
use mathlib.Core.Path.{◌≡◌, refl, sym, ap, ◌∙◌}
use mathlib.Core.Bool.{true, false≢true}
use mathlib.Core.List.{List, [], ◌∷◌}
use Rattle.refusal.specs.Refusal.{Told}
use Rattle.board.specs.Table.{listed_at}
use Rattle.setup.specs.declared.Setup.{Setup}
use Rattle.setup.specs.Setup.{address}
use Rattle.setup.proofs.Apart.{one_answers, listed_apart}
use Rattle.coordinator.specs.Fitness.{Fit}
use Rattle.coordinator.proofs.Fitting.{listed_told, fit_told}
use Rattle.series.specs.Series.{Input, World, left, Fresh, after}
use Rattle.series.specs.Demand.{NoTwoAlike, FitForEver}
use Rattle.series.specs.Ours.{ours}
use Rattle.lasting.proofs.Keeps.{usual}
use Rattle.lasting.proofs.Keeping.{is_fit, step_keeps, step_fit, step_setup}
use Rattle.lasting.proofs.Starting.{started}

-- from any fit state on

pub series_fit : (w : World) (is : List Input) → is_fit w ≡ true → is_fit (after ours w is) ≡ true
unfolding after
series_fit w [] h = h
series_fit w (i ∷ is) h = series_fit (left (ours.step w i)) is (step_fit w i h)

pub series_setup : (w : World) (is : List Input) → (after ours w is).coordinator.setup ≡ w.coordinator.setup
unfolding after
series_setup w [] = refl
series_setup w (i ∷ is) = series_setup (left (ours.step w i)) is ∙ step_setup w i

-- from a fresh start on

-- a panel that was started with k addresses, after steps: fit, with the setup that it was started with
pub record Lasts (k : ℕ) (w u : World) : Type 0 where
  pub fit : is_fit u ≡ true
  pub setup : u.coordinator.setup ≡ w.coordinator.setup
  pub pool : u.coordinator.setup.k ≡ k
  pub from : 1 ≤ k
  pub up_to : k ≤ 40

pub lasting : {k : ℕ} {w : World} → Fresh ours k w → (is : List Input) → Lasts k w (after ours w is)
lasting {w = w} f is =
    record {
      fit = series_fit w is (started f).fit;
      setup = series_setup w is;
      pool = ap (λ (s : Setup). s.k) (series_setup w is) ∙ (started f).pool;
      from = (started f).from;
      up_to = (started f).up_to;
    }

-- what fit means, after any series
pub lasting_fit : {k : ℕ} {w : World} → Fresh ours k w → (is : List Input) → Fit (after ours w is).coordinator (after ours w is).nodes
lasting_fit {w = w} f is = fit_told (after ours w is).coordinator (after ours w is).nodes (lasting f is).fit

-- No step of such a series is refused 22.
pub fit_for_ever : FitForEver ours
fit_for_ever k w f is i e = false≢true (ap (λ (says : Told). usual says.number) (sym e) ∙ (step_keeps (after ours w is) i).says (lasting f is).fit)

-- "No two listed boards share an address or a MAC."
pub no_two_alike : NoTwoAlike ours
no_two_alike = record { addresses = λ k w f is p q lp lq e. one_board f is p q lp lq e (ℕ_discrete p q); macs = λ k w f is p q lp lq e. one_answers _ _ (lasting_fit f is).table _ p q (listed_told _ p lp) (listed_told _ q lq) e refl }
  where
    one_board : {k : ℕ} {w : World} → Fresh ours k w → (is : List Input) (p q : ℕ) → listed_at (after ours w is).nodes p ≡ true → listed_at (after ours w is).nodes q ≡ true → address (after ours w is).coordinator.setup p ≡ address (after ours w is).coordinator.setup q → Dec (p ≡ q) → p ≡ q
    one_board f is p q lp lq e (yes same) = same
    one_board f is p q lp lq e (no ne) = absurd (listed_apart _ (lasting_fit f is).setup _ (lasting_fit f is).table p q (listed_told _ p lp) (listed_told _ q lq) ne e)
