-- `finder::Notes::note` meets its contract. The loop's invariant: the sums carried are those before the place that is noted last.
use Rattle.std.proofs.Common.{◌≡◌, ◌*◌, ◌+◌, ◌/◌, ◌≤◌, max}
use Rattle.finder.specs.Trail.{sums_to}
use Rattle.finder.proofs.Notes.note.Given as goal

abbrev pub invariant-loop-j : goal.invariant-loop-j
invariant-loop-j l =
    (l.self.bytes.now ≡ l.fn.self.bytes.now) × (l.self.count ≡ l.j + 1) × (l.self.count ≤ max l.fn.self.count (l.end / 4 + 1)) × (l.sums ≡ sums_to l.self.bytes.now (4 * l.j))
