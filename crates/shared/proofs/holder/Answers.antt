-- `shared::holder` meets its contract: who holds the record is who serves it.
use borrow.Author.Rules.{rules}
use mathlib.Core.Path.{ap, ◌∙◌}
use Rattle.std.specs.Prelude.{Option}
use Rattle.refusal.specs.Refusal.{gives}
use Rattle.shared.specs.declared.Found.{Found}
use Rattle.shared.specs.Holder.{found_values, told_found}
use Rattle.refusal.proofs.Numbers.{exit}
use Rattle.shared.proofs.Looking.{mapped, who_is}
use Rattle.shared.proofs.holder.Goals as goal

pub returns-in_err-serve : goal.returns-in_err-serve
returns-in_err-serve c = ap told_found (exit _ _ c.from_residual.ensures.1) ∙ who_is _ _ _ _ c.in_err-serve.ensures

pub returns : goal.returns
returns c =
    ap (λ (x : Option Found). gives (found_values x)) (mapped _ _ c.map.ensures.cases (λ h p. search rules)) ∙ who_is _ _ _ _ c.in_ok-serve.ensures
