-- `setup::boards_fit` meets its contract: fit says that those passed are fit, and the tally how many of each type they are.
use Prim.Native.Nat.{ℕ, ◌+◌, ◌<◌}
use native.Mathlib.Omega.{arith}
use mathlib.Core.Path.{◌≡◌, sym, subst, ◌∙◌}
use mathlib.Core.Bool.{Bool, ◌&&◌}
use mathlib.Core.List.{List}
use lib.Dec.{eqb}
use lib.ListN.{get_or}
use Rattle.ground.specs.Below.{all}
use Rattle.ground.proofs.Loops.{all_none, all_step}
use Rattle.setup.specs.Fit.{apart_from, board_fits}
use Rattle.setup.proofs.Indexes.{Tallies, tally_none, tally_small, tally_index, tally_more}
use Rattle.setup.proofs.boards_fit.Goals as goal

-- one board more: its MAC is apart from those before it, and the tally of its type is its index
board_more : (kinds indexes macs : List ℕ) (i : ℕ) → i < 40 → (tally : List ℕ) → Tallies kinds i tally → get_or kinds i 0 < 256 → {fit apart : Bool} {before : ℕ} → fit ≡ all (board_fits kinds indexes macs) i → apart ≡ apart_from macs i → before ≡ get_or tally (get_or kinds i 0) 0
    → (fit && (apart && eqb (get_or indexes i 0) before)) ≡ all (board_fits kinds indexes macs) (i + 1)
board_more kinds indexes macs i l tally t fits fit apart before = all_step (board_fits kinds indexes macs) i fit (λ j. apart j && eqb (get_or indexes i 0) ((before ∙ tally_index kinds i l tally t fits) j))

pub loop-i-init : goal.loop-i-init
loop-i-init c = (all_none _, tally_none _)

pub tally_one-before-requires : goal.tally_one-before-requires
tally_one-before-requires c = tally_small c.args.columns.now.kinds c.loop-i.i (omega arith) c.loop-i.tally c.loop-i.invariant.1

pub loop-i-preserved : goal.loop-i-preserved
loop-i-preserved c =
    let kinds = c.args.columns.now.kinds in
    let i = c.loop-i.i in
    let inside : i < 40 = omega arith in
    let tallied = c.tally_one-before.ensures in
    let byte : get_or kinds i 0 < 256 = omega arith in
    let so_far = c.loop-i.invariant in
    (board_more kinds c.args.columns.now.indexes c.args.columns.now.macs i inside c.loop-i.tally so_far.1 byte so_far.0 c.apart_from_lower.ensures tallied.before, subst (Tallies kinds (i + 1)) (sym tallied.tallied) (tally_more kinds i inside c.loop-i.tally so_far.1 byte))
