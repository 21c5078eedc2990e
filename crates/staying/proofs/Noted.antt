-- The records as an observer could write them down have the types and versions of the panel's.
use Prim.Native.Nat.{ℕ, ◌≤◌, ◌<◌}
use mathlib.Core.Path.{◌≡◌, refl, sym, ap, ◌∙◌}
use mathlib.Core.Logic.{◌⊎◌, inl, inr}
use mathlib.Core.Bool.{Bool, true, false}
use mathlib.Core.List.{List}
use lib.ListN.{length, length-map}
use Rattle.ground.specs.Choose.{choose}
use Rattle.ground.specs.Below.{up_from}
use Rattle.ground.proofs.Runs.{run_length}
use Rattle.board.specs.declared.Node.{Node}
use Rattle.board.specs.Node.{none, version_of}
use Rattle.board.specs.Table.{at, listed_at}
use Rattle.board.specs.Change.{joined_node}
use Rattle.board.proofs.Positions.{Outside, at_made, at_outside, position_case}
use Rattle.board.specs.Columns.{kind_of, kinds_of, stored_version, versions_of}
use Rattle.board.proofs.SameKinds.{SameKinds}
use Rattle.board.proofs.Column.{same_kinds, same_column}
use Rattle.setup.specs.Fitness.{FitTable}
use Rattle.board.proofs.Versions.{version_again}
use Rattle.nodelist.proofs.Theorems.{free_kind}
use Rattle.coordinator.specs.declared.Coordinator.{Coordinator}
use Rattle.coordinator.proofs.Fitting.{fits_forty, fit_told, listed_told}
use Rattle.series.specs.Series.{World}
use Rattle.series.specs.Observed.{Who, Seen}
use Rattle.series.specs.AsJoined.{noted_at, noted}
use Rattle.staying.proofs.Agreement.{Agrees}
use Rattle.staying.proofs.WhoStays.{Holds}

pub noted_size : (s : Seen) → length (noted s) ≡ 40
unfolding noted
noted_size s = length-map (up_from 1 40) (noted_at s) ∙ run_length 1 40

at_noted : (s : Seen) (p : ℕ) → 0 < p → p ≤ 40 → at (noted s) p ≡ noted_at s p
unfolding noted
at_noted s p l u = at_made (noted_at s) 40 p l u

module _ {s : Seen} {c : Coordinator} {t : List Node} (g : Agrees s c t) (size : length t ≡ 40) where
  -- what a listed board's join told, and what is 0 at a free position, is so at every position
  module _ (f : Node → ℕ) (z : f none ≡ 0) (told : (p : ℕ) → listed_at t p ≡ true → f (at t p) ≡ f (joined_node (s.who p).kind (s.who p).mac 0 (s.who p).version)) (free : (p : ℕ) → listed_at t p ≡ false → f (at t p) ≡ 0) where
    told_at : (p : ℕ) → f (at t p) ≡ f (noted_at s p)
    unfolding choose
    told_at p = rw (g.listed p) (go (listed_at t p) refl)
      where
        go : (b : Bool) → listed_at t p ≡ b → f (at t p) ≡ f (choose b (joined_node (s.who p).kind (s.who p).mac 0 (s.who p).version) none)
        go true l = told p l
        go false l = free p l ∙ sym z

    noted_at_lem : (p : ℕ) → f (at t p) ≡ f (at (noted s) p)
    noted_at_lem p = same (position_case 40 p)
      where
        same : Outside 40 p ⊎ ((0 < p) × (p ≤ 40)) → f (at t p) ≡ f (at (noted s) p)
        same (inl o) = ap f (at_outside t p 40 size o ∙ sym (at_outside (noted s) p 40 (noted_size s) o))
        same (inr (l, u)) = told_at p ∙ ap f (sym (at_noted s p l u))

  noted_kinds : SameKinds t (noted s)
  noted_kinds = record { kind = noted_at_lem kind_of refl (λ p l. sym (ap (λ (w : Who). w.kind) (g.who p l))) (free_kind t) }

-- so it is after any series, of the types
pub told_kinds : {s : Seen} {w : World} → Holds s w → SameKinds w.nodes (noted s)
told_kinds {w = w} g = noted_kinds g.agrees (fits_forty w.coordinator w.nodes g.fit)

-- and, over both columns, of types and versions
module _ {s : Seen} {w : World} (g : Holds s w) where
  forty : length w.nodes ≡ 40
  forty = fits_forty w.coordinator w.nodes g.fit

  table : FitTable w.coordinator.setup.k w.nodes
  table = (fit_told w.coordinator w.nodes g.fit).table

  -- the version of a listed board is what its join told
  pub told_version_lem : (p : ℕ) → listed_at w.nodes p ≡ true → (s.who p).version ≡ (at w.nodes p).version
  told_version_lem p l = ap (λ (x : Who). x.version) (g.agrees.who p l)

  pub told_kind_column : kinds_of w.nodes ≡ kinds_of (noted s)
  told_kind_column = same_kinds (told_kinds g) (forty ∙ sym (noted_size s))

  pub told_version_column : versions_of w.nodes ≡ versions_of (noted s)
  told_version_column = same_column stored_version w.nodes (noted s) (noted_at_lem g.agrees forty stored_version refl told free) (forty ∙ sym (noted_size s))
    where
      told : (p : ℕ) → listed_at w.nodes p ≡ true → (at w.nodes p).version ≡ version_of (s.who p).version
      told p l = sym (ap version_of (told_version_lem p l) ∙ version_again (at w.nodes p).version (table.boards.ranges p (listed_told w.nodes p l)).version)

      free : (p : ℕ) → listed_at w.nodes p ≡ false → (at w.nodes p).version ≡ 0
      free p l = ap stored_version (table.boards.blank p (free_kind w.nodes p l))
