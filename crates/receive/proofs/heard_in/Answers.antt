-- `receive::heard_in` meets its contract: after a list the payload is compared with the list that was sent.
use mathlib.Core.Path.{refl, ap, ◌∙◌}
use Rattle.board.specs.declared.Node.{Node}
use Rattle.receive.proofs.Leaving.{list_seen}
use Rattle.receive.proofs.heard_in.Goals as goal

pub returns-in-List : goal.returns-in-List
returns-in-List c = λ co t board s k v n. rw c.in-List.is (c.after_list.ensures ∙ rw (c.same_list-same.ensures, list_seen s k v (ap (λ (m : Node). m.version) n) _) refl)
