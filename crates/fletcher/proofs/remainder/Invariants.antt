-- `remainder` meets its contract. The loop's invariant: what is left has the remainder of the whole, since multiples of 255 were subtracted.
use Rattle.std.proofs.Common.{◌≡◌, ◌%◌}
use Rattle.fletcher.proofs.remainder.Given as goal

abbrev pub invariant-loop-rest : goal.invariant-loop-rest
invariant-loop-rest l = l.rest % 255 ≡ l.sum % 255

abbrev pub decreases-loop-rest : goal.decreases-loop-rest
decreases-loop-rest l = l.rest
