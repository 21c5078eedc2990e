-- `seek::present` meets its contract: what the calls gave.
use Rattle.steps.specs.declared.Seek.TheVariants.{Identify}
use Rattle.steps.specs.declared.Answer.TheVariants.{Seek}
use Rattle.seek.proofs.Seen.{makes_heard}
use Rattle.seek.proofs.present.Goals as goal

pub returns : goal.returns
returns c = λ p co t s k.
    let args = c.args in
    makes_heard s p co args.position args.mac k c.hearing-edit.ensures (Seek args.position Identify) c.changing.ensures
