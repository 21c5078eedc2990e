-- `finder::sums_on` meets its contract. The loop's invariant: the sums are those before the place reached.
use Rattle.std.proofs.Common.{◌≡◌}
use Rattle.finder.specs.Trail.{sums_to}
use Rattle.finder.proofs.sums_on.Given as goal

abbrev pub invariant-loop-i : goal.invariant-loop-i
invariant-loop-i l = (l.first ≡ (sums_to l.bytes l.i).first) × (l.second ≡ (sums_to l.bytes l.i).second)
