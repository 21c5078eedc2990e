-- `message::write_list` meets its contract: the form is the version's.
use borrow.Author.Tests.{eq-eqb, ne_eqb}
use Rattle.ground.proofs.Choices.{chosen, unchosen}
use Rattle.nodelist.specs.List.{list_over}
use Rattle.message.proofs.write_list.Goals as goal

pub returns-then-to-eq1 : goal.returns-then-to-eq1
unfolding list_over
returns-then-to-eq1 c = rw (eq-eqb _ 1 c.if-to-eq1.true, chosen _ _) c.write_condensed.ensures

pub returns : goal.returns
unfolding list_over
returns c = rw (ne_eqb _ 1 c.if-to-eq1.false, unchosen _ _) c.write_whole.ensures
