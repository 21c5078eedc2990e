-- `setup::are_rising` meets its contract: rising says that those passed are below their next, and the pairs that are left are those of the rest.
use Prim.Native.Nat.{◌-◌, ◌≤◌}
use mathlib.Core.Path.{◌≡◌}
use lib.ListN.{length, drop}
use Rattle.std.specs.Slice.Iter.{windows_rest, windows_size}
use Rattle.setup.specs.Setup.{are_rising}
use Rattle.setup.proofs.are_rising.Given as goal

abbrev pub invariant-loop-pair : goal.invariant-loop-pair
invariant-loop-pair l =
    record {
      size : windows_size l.pair-iterator ≡ 2;
      rest : windows_rest l.pair-iterator ≡ drop (length l.yielded) l.addresses;
      passed : length l.yielded ≤ length l.addresses - 1;
      rising : l.rising ≡ are_rising l.addresses (length l.yielded);
    }
