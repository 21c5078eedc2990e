-- `start::begin` meets its contract: what the judgement says is what setup does.
use Prim.Native.Nat.{ℕ}
use mathlib.Core.Path.{sym, ap, ◌∙◌}
use mathlib.Core.List.{List}
use lib.ListN.{length}
use Rattle.ground.proofs.Laid.{padded_whole}
use Rattle.coordinator.specs.declared.Coordinator.{Coordinator}
use Rattle.coordinator.specs.Fresh.{fresh}
use Rattle.setup.specs.declared.Setup.{Setup}
use Rattle.steps.specs.declared.Answer.TheVariants.{Rest}
use Rattle.start.specs.Begin.{begun}
use Rattle.start.proofs.Cases.{fine_length, begin_refused, begin_fine}
use Rattle.start.proofs.begin.Goals as goal

pub returns-in-Err : goal.returns-in-Err
returns-in-Err c =
    let args = c.args in
    c.leaving.ensures ∙ sym (begin_refused args.coordinator args.count args.addresses.now args.subnet args.internal args.mac args.session c.in-Err.refusal (sym c.in-Err.ensures))

pub returns : goal.returns
returns c =
    let args = c.args in
    let forty = fine_length args.coordinator args.count args.addresses.now args.subnet args.internal args.mac args.session (sym c.in_default.ensures) in
    let setup : List ℕ → Setup = λ pool. record { pool = pool; k = length args.addresses.now; subnet = args.subnet; internal = args.internal; mac = args.mac; session = args.session } in
    c.leaving-2.ensures ∙
    ap (λ (k : Coordinator). begun k args.count Rest) (c.fresh-fresh.ensures ∙ ap (λ (pool : List ℕ). fresh (setup pool)) (c.padded.ensures ∙ padded_whole args.addresses.now 40 forty)) ∙
    sym (begin_fine args.coordinator args.count args.addresses.now args.subnet args.internal args.mac args.session (sym c.in_default.ensures))
