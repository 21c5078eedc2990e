-- `shared::taken` meets its contract.
use borrow.Author.Rules.{rules}
use Rattle.shared.specs.Store.{taken}
use Rattle.shared.proofs.Slots.{or_else_slot}
use Rattle.shared.proofs.Laying.{taken_slot}
use Rattle.shared.proofs.taken.Goals as goal

pub returns : goal.returns
unfolding taken
returns c =
    let number = or_else_slot _ _ _ _ c.slot_of.ensures.lowest c.or_else.ensures (λ p. search rules) in
    record { number = number; within = taken_slot c.args.network.now c.args.sector _ number }
