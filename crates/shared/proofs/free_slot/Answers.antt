-- `shared::free_slot` meets its contract.
use mathlib.Core.Path.{ap, ◌∙◌}
use Rattle.shared.specs.Looking.{numbered}
use Rattle.shared.proofs.Slots.{lowest_same, occupant_free}
use Rattle.shared.proofs.free_slot.Goals as goal

pub returns : goal.returns
returns c =
    let image = c.args.image.now in
    c.lowest_with.ensures ∙ ap numbered (lowest_same _ _ (λ slot l u. occupant_free image slot))
