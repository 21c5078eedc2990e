-- What a discovery is: a refusal, or work.
use Prim.Native.Nat.{ℕ, ◌≤◌, ◌<◌}
use native.Mathlib.Omega.{arith}
use mathlib.Core.Path.{◌≡◌, refl}
use mathlib.Core.Bool.{Bool, true, false, ◌&&◌}
use mathlib.Core.List.{List}
use lib.Dec.{eqb}
use Rattle.ground.proofs.Choices.{neither}
use Rattle.board.specs.declared.Node.{Node}
use Rattle.board.specs.declared.Wanted.TheVariants.{Listed}
use Rattle.board.specs.Wanted.{count_of, some_listed}
use Rattle.board.proofs.Counts.{counted_listed}
use Rattle.coordinator.specs.declared.Coordinator.{Coordinator}
use Rattle.coordinator.specs.declared.Part.TheVariants.{Search}
use Rattle.coordinator.specs.declared.Phase.TheVariants.{Resting}
use Rattle.coordinator.specs.Phase.{phase_of}
use Rattle.coordinator.specs.Fit.{fits}
use Rattle.coordinator.specs.Change.{searching}
use Rattle.coordinator.proofs.Phases.{seeking, phase_back}
use Rattle.steps.specs.declared.Seek.TheVariants.{Search as ToSearch}
use Rattle.steps.specs.Discover.{free_place, is_held_back, discover_rules, searched, discover_of}
use Rattle.turns.specs.Potential.{under_way, potential}
use Rattle.turns.proofs.Moves.{Moves, works, guarded, plain_seeks}
use Rattle.turns.proofs.Join.{idle}

module _ (c : Coordinator) (t : List Node) (h : fits c t ≡ true) where
  -- where somebody is listed, one that is not held back is the first since the last offer
  first : is_held_back c t ≡ false → 1 ≤ count_of Listed t → eqb c.searched 1 ≡ false
  first e n = go (eqb c.searched 1) (some_listed t) (counted_listed t n) (neither (eqb c.held 1) (eqb c.searched 1 && some_listed t) e).1
    where
      go : (a s : Bool) → s ≡ true → (a && s) ≡ false → a ≡ false
      go true s l q = rw l at q
      go false s l q = refl

  -- so the steps that it takes were counted
  discover_falls : phase_of c.stand ≡ Resting → eqb c.searched 1 ≡ false → potential (searching c (free_place c t)) t < potential c t
  unfolding potential under_way
  discover_falls w e = rw (phase_back (seeking (free_place c t) Search), w, e) (omega arith)

  -- a discovery is a refusal, or work
  pub discover_moves : (room : ℕ) → Moves c t (discover_of c t room)
  unfolding discover_of
  discover_moves room =
      guarded c t (discover_rules c t room) (searched c t)
      (λ passed. works (record { said = refl; nobody = (plain_seeks (free_place c t) ToSearch).1; last = refl; falls = λ f n m. discover_falls (idle c t h passed.1.0) (first passed.1.1.0 n) }))
