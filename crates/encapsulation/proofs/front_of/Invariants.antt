-- `encapsulation::front_of` meets its contract: each turn wraps what there is in one level more.
use Rattle.encapsulation.specs.Wrap.{sent}
use Rattle.encapsulation.proofs.Fronts.{WrappedFrom}
use Rattle.encapsulation.proofs.front_of.Given as goal

abbrev pub invariant-loop-at : goal.invariant-loop-at
invariant-loop-at l = WrappedFrom l.levels (sent l.fn.header l.payload) l.front.bytes l.front.message l.front.packet l.n l.at
