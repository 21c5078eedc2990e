-- `nodelist::write_list` meets its contract: byte 0 and the types behind it are the list.
use Rattle.nodelist.proofs.Bytes.{refused, accepted, list_laid}
use Rattle.nodelist.proofs.write_list.Goals as goal

pub returns-then-out-n : goal.returns-then-out-n
returns-then-out-n c = refused _ _ _ _ c.list_length-n.ensures c.if-out-n.true

pub returns : goal.returns
returns c = accepted _ _ _ c.args.out.now _ c.list_length-n.ensures c.if-out-n.false (list_laid _ _ _ c.args.kinds.now c.args.out.now _ c.told-kinds c.list_length-n.ensures c.if-out-n.false c.copy_from_slice.ensures.after)
