-- `finder::first_frame` meets its contract. The loop's invariant: no good frame begins at the starts passed.
use Rattle.std.proofs.Common.{◌≡◌, ℕ, ◌<◌, ◌≤◌, ◌-◌, false}
use Rattle.finder.specs.Finder.{holds_frame}
use Rattle.finder.proofs.first_frame.Given as goal

abbrev pub invariant-loop-at : goal.invariant-loop-at
invariant-loop-at l = (l.at ≤ l.limit) × ((j : ℕ) → j < l.at → holds_frame l.ours l.bytes j ≡ false)

abbrev pub decreases-loop-at : goal.decreases-loop-at
decreases-loop-at l = l.limit - l.at
