-- `receive::sought` meets its contract: the source is compared with the one that the part awaits.
use mathlib.Core.Path.{sym, ◌∙◌}
use borrow.Author.Tests.{eq-eqb, ne_eqb}
use Rattle.ground.proofs.Choices.{both, not_left, not_right, not_yes, not_no}
use Rattle.refusal.specs.declared.Refusal.TheVariants.{NotAwaited}
use Rattle.coordinator.specs.declared.Phase.TheVariants.{Seeking}
use Rattle.change.proofs.Making.{shows_as}
use Rattle.receive.proofs.Leaving.{shows_refused, waited_other, waited_taken}
use Rattle.receive.proofs.sought.Goals as goal
use Rattle.receive.proofs.sought.Goals.{then-not-is_waiting-via-then-not-is_waiting, then-not-is_waiting-via-else-not-is_waiting+then-header-source_in}

pub returns-then-not-is_waiting : goal.returns-then-not-is_waiting
returns-then-not-is_waiting c =
    let args = c.args in
    λ b co t s k. shows_refused b args.out.now co t NotAwaited (waited_other s args.header args.payload.now _ (Seeking args.position args.part) (elim c.then-not-is_waiting.branch [
      | then-not-is_waiting-via-then-not-is_waiting w ↦ not_yes _ (not_left _ _ (sym w.if-not-is_waiting.ensures))
      | then-not-is_waiting-via-else-not-is_waiting+then-header-source_in w ↦ not_yes _ (not_right _ _ (ne_eqb _ _ (rw w.source_in.ensures at w.if-header-source_in.true)))
    ])) c.refusing.ensures

pub returns : goal.returns
returns c =
    let args = c.args in
    λ b co t s k. shows_as args.out.now _ (waited_taken s args.header args.payload.now _ (Seeking args.position args.part) (not_no _ (both _ _ (sym c.if-not-is_waiting.ensures) (eq-eqb _ _ (c.if-header-source_in.false ∙ c.source_in.ensures))))) (c.sought.ensures b co t s k)
