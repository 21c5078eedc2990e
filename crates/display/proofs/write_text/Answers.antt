-- `display::write_text` meets its contract.
use borrow.Author.Tests.{lt-ltb, le-ltb}
use mathlib.Core.Path.{refl, sym}
use Rattle.ground.specs.Choose.{choose}
use Rattle.display.specs.Text.{write_text, text_bytes}
use Rattle.display.proofs.Laws.{payload_laid}
use Rattle.ground.proofs.Choices.{not_yes}
use Rattle.ground.proofs.Choices.{not_no}
use Rattle.display.proofs.write_text.Goals as goal

pub returns-then-most-n : goal.returns-then-most-n
unfolding write_text text_bytes choose
returns-then-most-n c = rw (lt-ltb _ _ c.if-most-n.true) (refl, refl)

pub returns-then-not-all_text : goal.returns-then-not-all_text
unfolding write_text text_bytes choose
returns-then-not-all_text c = rw (le-ltb _ _ c.if-most-n.false, sym c.all_text.ensures, (not_yes _ c.if-not-all_text.true)) (refl, refl)

pub returns-then-out-start : goal.returns-then-out-start
unfolding write_text text_bytes choose
returns-then-out-start c = rw (le-ltb _ _ c.if-most-n.false, sym c.all_text.ensures, (not_no _ c.if-not-all_text.false), lt-ltb _ _ c.if-out-start.true) (refl, refl)

pub returns : goal.returns
unfolding write_text text_bytes choose
returns c =
    let args = c.args in
    rw (le-ltb _ _ c.if-most-n.false, sym c.all_text.ensures, not_no _ c.if-not-all_text.false, le-ltb _ _ c.if-out-start.false)
    (refl, payload_laid args.own.now args.text.now args.out.now _ _ _ c.if-out-start.false c.lay.ensures c.lay-2.ensures c.lay-3.ensures)
