-- `Reduced::after` meets its contract. The loop's invariant: the sums over the parts that are left, continued from those so far, are the sums over all.
use Rattle.std.proofs.Common.{◌≡◌}
use Rattle.std.specs.Slice.Iter.{chunks_rest, chunks_size}
use Rattle.fletcher.specs.Fletcher.{sums_from}
use Rattle.fletcher.proofs.Reduced.after.Given as goal

abbrev pub invariant-loop-part : goal.invariant-loop-part
invariant-loop-part l = record {
  size : chunks_size l.part-iterator ≡ 4096;
  rest : sums_from l.reduced.sums (chunks_rest l.part-iterator) ≡ sums_from l.fn.self.sums l.bytes;
}
