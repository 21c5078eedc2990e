-- `nodelist::fill` meets its contract: the types passed are filled in, and marked as long as a byte is open.
use Rattle.std.proofs.Common.{◌<◌, get_or, drop, unwrap_or, IfSome}
use Rattle.nodelist.specs.Condensed.{filled_to}
use Rattle.nodelist.proofs.Passes.{Filling}
use Rattle.nodelist.proofs.fill.Given as goal

abbrev pub invariant-loop-kind : goal.invariant-loop-kind
invariant-loop-kind l = record {
  filling : Filling (get_or l.initial.list 0 0) (filled_to (drop 1 l.initial.list) l.kinds l.kind-index) l.list l.marks (unwrap_or l.lowest 16);
  within : IfSome l.lowest (λ i. i < 16);
}
