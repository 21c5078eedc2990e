-- `stepping::deciding` meets its contract: each event's decision is its own, and a join and a quiet write nothing.
use Prim.Native.Nat.{ℕ}
use mathlib.Core.Path.{sym, ap}
use mathlib.Core.List.{List}
use Rattle.ground.specs.Bytes.{laid}
use Rattle.stepping.proofs.Silent.{join_silent, quiet_silent}
use Rattle.stepping.proofs.deciding.Goals as goal

pub returns-in-Join : goal.returns-in-Join
returns-in-Join c = let args = c.args in
    λ co t s k. rw c.in-Join.is
    (c.join.ensures args.received.now co t s (k.1.0, k.1.2, k.1.3), ap (λ (bytes : List ℕ). laid bytes args.out.now) (sym (join_silent co t _ _ _ _)))

pub returns-in-Turn : goal.returns-in-Turn
returns-in-Turn c = let args = c.args in
    λ co t s k. rw c.in-Turn.is (c.turn.ensures args.received.now co t s (k.0.1, (k.1.0, k.1.1, k.1.2)))

pub returns-in-Quiet : goal.returns-in-Quiet
returns-in-Quiet c = let args = c.args in
    λ co t s k. rw c.in-Quiet.is
    (c.quiet.ensures args.received.now co t s (k.1.0, k.0.0), ap (λ (bytes : List ℕ). laid bytes args.out.now) (sym (quiet_silent co t)))

pub returns-in-Discover : goal.returns-in-Discover
returns-in-Discover c = let args = c.args in
    λ co t s k. rw c.in-Discover.is (c.discover.ensures args.received.now co t s k.1.0)
