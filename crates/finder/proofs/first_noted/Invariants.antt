-- `finder::first_noted` meets its contract. The loop's invariant: no start so far holds a good frame; the sums are noted no further than
-- a frame from here can reach, and those carried are the sums before here.
use Rattle.std.proofs.Common.{◌≡◌, ℕ, ◌+◌, ◌*◌, ◌<◌, ◌≤◌, false}
use Rattle.finder.specs.Finder.{holds_frame}
use Rattle.finder.specs.Trail.{sums_to}
use Rattle.finder.proofs.first_noted.Given as goal

abbrev pub invariant-loop-at : goal.invariant-loop-at
invariant-loop-at l = record {
  none : (j : ℕ) → j < l.at → holds_frame l.ours l.bytes j ≡ false;
  same : l.notes.bytes.now ≡ l.bytes;
  near : 4 * l.notes.count ≤ l.at + 256;
  sums : l.before ≡ sums_to l.bytes l.at;
}
