-- `Reduced::continued` meets its contract. The loop's invariant: the remainders of the sums are the sums over the bytes passed, and the sums have room to grow.
use Rattle.std.proofs.Common.{◌≡◌, ◌+◌, ◌*◌, ◌≤◌, take}
use Rattle.fletcher.specs.Fletcher.{reduced, sums_from}
use Rattle.fletcher.proofs.Reduced.continued.Given as goal

abbrev pub invariant-loop-byte : goal.invariant-loop-byte
invariant-loop-byte l = record {
  summed : reduced l.first l.second ≡ sums_from l.fn.self.sums (take l.byte-index l.bytes);
  first : l.first ≤ 254 + 255 * l.byte-index;
  second : l.second ≤ 254 + 1044734 * l.byte-index;
}
