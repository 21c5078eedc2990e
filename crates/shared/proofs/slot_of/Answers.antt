-- `shared::slot_of` meets its contract: what holds of the lowest is that it holds the sector's record.
use mathlib.Core.Path.{ap, ◌∙◌}
use Rattle.shared.specs.Looking.{numbered}
use Rattle.shared.proofs.Slots.{lowest_same, occupant_holds, slot_holds}
use Rattle.shared.proofs.slot_of.Goals as goal

pub returns : goal.returns
returns c =
    let image = c.args.image.now in
    let lowest = c.lowest_with.ensures ∙ ap numbered (lowest_same _ _ (λ slot l u. occupant_holds image slot c.args.sector)) in
    record { lowest = lowest; holds = slot_holds image c.args.sector _ lowest }
