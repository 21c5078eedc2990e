-- `seek::quieted` meets its contract: in each arm the case is known; the exchange breaks off in the last.
use mathlib.Core.Path.{◌∙◌}
use mathlib.Core.Logic.{inl, inr}
use Rattle.refusal.specs.declared.Refusal.TheVariants.{NotWaiting}
use Rattle.coordinator.specs.Change.{ended}
use Rattle.steps.specs.declared.Answer.TheVariants.{Rest}
use Rattle.change.specs.declared.Edit.TheVariants.{Nothing}
use Rattle.change.proofs.Making.{makes_none, makes_refusal, makes_ended}
use Rattle.seek.proofs.quieted.Goals as goal

pub returns-in-IdentifyDue : goal.returns-in-IdentifyDue
returns-in-IdentifyDue c = λ p co t.
    let h = makes_refusal p co t NotWaiting c.refusing.ensures in
    elim c.in-IdentifyDue.is [ inl e ↦ rw e h | inr e ↦ rw e h ]

pub returns-in-Identify : goal.returns-in-Identify
returns-in-Identify c = λ p co t. rw c.in-Identify.is (makes_none p co t Nothing Rest 0 0 0 c.resting.ensures)

pub returns-in-Search : goal.returns-in-Search
returns-in-Search c = λ p co t.
    let h = makes_ended p co t _ c.ending.ensures ∙ makes_none p (ended co) t Nothing Rest 0 0 0 c.resting-in-Search.ensures in
    elim c.in-Search.is [ inl e ↦ rw e h | inr d ↦ elim d [ inl e ↦ rw e h | inr e ↦ rw e h ] ]
