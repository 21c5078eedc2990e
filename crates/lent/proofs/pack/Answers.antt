-- `lent::pack` meets its contract: its eight bytes are the parts, and the word is their worth.
use native.Mathlib.Omega.{arith}
use Rattle.word.specs.Words.{value_of}
use Rattle.lent.proofs.pack.Goals as goal

pub returns : goal.returns
unfolding value_of
returns c = rw (c.from_le_bytes.ensures, c.saying.ensures, c.to_le_bytes.ensures, c.to_le_bytes-2.ensures, c.to_le_bytes-3.ensures) (omega arith)
