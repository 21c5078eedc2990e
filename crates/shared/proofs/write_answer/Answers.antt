-- `shared::write_answer` meets its contract: what is written is the payload of what is served.
use native.Mathlib.Omega.{arith}
use mathlib.Core.Path.{refl, ap, ◌∙◌}
use Rattle.std.specs.Prelude.{[], None}
use Rattle.frame.specs.Frame.{told_written}
use Rattle.refusal.proofs.Numbers.{exit}
use Rattle.shared.proofs.Answers.{fits_in, answered, answer_refused}
use Rattle.shared.proofs.write_answer.Goals as goal

pub returns-in_err-held : goal.returns-in_err-held
returns-in_err-held c =
    let refused = answer_refused _ _ _ _ c.args.out.now c.in_err-held.ensures in
    (ap told_written (exit _ _ c.from_residual.ensures.1) ∙ refused.0, refused.1)

pub returns-in-Some : goal.returns-in-Some
returns-in-Some c = answered _ _ _ _ c.args.out.now _ (rw c.in-Some.is at c.in_ok-held.ensures) c.write_record.ensures

pub returns-in-None : goal.returns-in-None
returns-in-None c =
    let out = c.args.out.now in
    answered _ _ _ None out _ (rw c.in-None.is at c.in_ok-held.ensures) (fits_in [] out _ 0 refl (omega arith) refl)
