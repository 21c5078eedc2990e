-- A fresh start is fit exactly when its setup is.
use Prim.Native.Nat.{ℕ}
use native.Mathlib.Omega.{arith}
use mathlib.Core.Path.{◌≡◌, refl, ap, ◌∙◌}
use borrow.Author.Tests.{le-leb}
use Rattle.ground.proofs.Choices.{and_all}
use Rattle.ground.proofs.Runs.{run_same}
use Rattle.board.specs.declared.Node.{Node}
use Rattle.board.specs.Node.{none}
use Rattle.board.specs.Table.{at}
use Rattle.board.proofs.Index.{index_nobody}
use Rattle.setup.specs.declared.Setup.{Setup}
use Rattle.setup.specs.Setup.{setup_fits}
use Rattle.setup.specs.Fitness.{FitTable}
use Rattle.setup.proofs.Tables.{table_passes}
use Rattle.coordinator.specs.Fit.{phase_fits, hold_fits, fits}
use Rattle.coordinator.specs.Fresh.{fresh, blank_table}
use Rattle.coordinator.proofs.Phases.{resting, phase_back}

-- nobody is listed on a fresh start
pub blank_at : (p : ℕ) → at blank_table p ≡ none
unfolding at
blank_at p = run_same none 41 p

pub blank_fits : (k : ℕ) → FitTable k blank_table
blank_fits k =
    record {
      boards =
          record {
            forty = refl;
            within = λ p l. absurd (l (free p));
            ranges = λ p l. absurd (l (free p));
            apart = λ p q l. absurd (l (free p));
            blank = λ p e. blank_at p;
          };
      numbered = λ p. ap (λ (n : Node). n.index) (blank_at p) ∙ index_nobody blank_table p (free p);
      types = λ p old. absurd (let z : ⊥ = omega (arith, ap (λ (n : Node). n.version) (blank_at p), old) in z);
    }
  where
    free : (p : ℕ) → (at blank_table p).kind ≡ 0
    free p = ap (λ (n : Node). n.kind) (blank_at p)

pub fresh_fits : (s : Setup) → fits (fresh s) blank_table ≡ setup_fits s
unfolding fits phase_fits hold_fits
fresh_fits s = rw (table_passes s.k blank_table (blank_fits s.k), phase_back resting, le-leb 0 s.k (omega arith)) (and_all (setup_fits s))
