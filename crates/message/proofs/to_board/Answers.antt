-- `message::to_board` meets its contract, by what `address_at` and `subnet_of` ensure.
use mathlib.Core.Path.{refl}
use Rattle.message.specs.Message.{to_board}
use Rattle.message.proofs.to_board.Goals as goal

pub returns : goal.returns
unfolding to_board
returns c = rw (c.address_at.ensures, c.subnet_of.ensures) refl
