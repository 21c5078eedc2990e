-- `message::write_whole` meets its contract: the buffer holds the list, so that its writer refuses nothing, and its front is the list.
use native.Mathlib.Omega.{arith}
use mathlib.Core.Path.{refl}
use lib.ListN.{replicate, length-take}
use Rattle.board.specs.Columns.{typed}
use Rattle.message.proofs.Sent.{count_given, none_refused, list_fits, list_front}
use Rattle.message.proofs.write_whole.Goals as goal

pub returns-in_err-n : goal.returns-in_err-n
returns-in_err-n c = none_refused c.args.top (replicate 41 0) refl c.write_list.ensures.0 c.in_err-n.was

pub slice_bounds-payload-end : goal.slice_bounds-payload-end
slice_bounds-payload-end c = omega (arith, list_fits c.args.top (count_given c.args.top (replicate 41 0) refl c.write_list.ensures.0 c.in_ok-n.was))

pub slice_bounds-write_own-end : goal.slice_bounds-write_own-end
slice_bounds-write_own-end c = simp length-take (omega (arith, list_fits c.args.top (count_given c.args.top (replicate 41 0) refl c.write_list.ensures.0 c.in_ok-n.was)))

pub returns : goal.returns
returns c = let args = c.args in
    let count = count_given args.top (replicate 41 0) refl c.write_list.ensures.0 c.in_ok-n.was in
    let front = list_front args.top args.setup.internal (typed args.kinds.now) (replicate 41 0) _ refl c.write_list.ensures.1 count in
    rw front at c.write_own.ensures
