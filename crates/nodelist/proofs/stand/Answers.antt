-- `nodelist::stand` meets its contract: the 1.0 boards of the first i positions stand, and their types are marked.
use Rattle.std.proofs.Common.{refl, ◌∙◌}
use Rattle.ground.proofs.Choices.{choose_yes, choose_no}
use Rattle.nodelist.proofs.Passes.{stood_begun, stood_over, stood_more}
use Rattle.nodelist.proofs.stand.Goals as goal
use Rattle.nodelist.proofs.stand.Goals.{then-columns-i-eq1+then-mark, else-columns-i-eq1, else-columns-i-eq1-via-then-columns-i-eq1+else-mark, else-columns-i-eq1-via-else-columns-i-eq1}

pub loop-i-init : goal.loop-i-init
loop-i-init c = stood_begun _ _ _ c.requires

pub loop-i-preserved : goal.loop-i-preserved
loop-i-preserved c =
    let at = c.loop-i in
    let n = at.invariant in
    elim c.if-columns-i-eq1.branch [
      | then-columns-i-eq1+then-mark w ↦
          stood_more _ _ _ at.i n c.loop-i-test.true w.if-columns-i-eq1.true w.mark.ensures.2 w.mark.ensures.0 (w.marks-is ∙ w.mark.ensures.1) (w.list-is ∙ choose_yes _ _ _ _ w.if-mark.true refl)
      | else-columns-i-eq1 w ↦
          elim w.else-columns-i-eq1.branch [
            | else-columns-i-eq1-via-then-columns-i-eq1+else-mark v ↦
                stood_more _ _ _ at.i n c.loop-i-test.true v.if-columns-i-eq1.true v.mark.ensures.2 v.mark.ensures.0 (w.marks-is ∙ v.marks-is ∙ v.mark.ensures.1) (w.list-is ∙ choose_no _ _ _ _ v.if-mark.false refl)
            | else-columns-i-eq1-via-else-columns-i-eq1 v ↦
                rw (w.marks-is, v.marks-is, w.list-is) (stood_over _ _ _ at.i n v.if-columns-i-eq1.false)
          ]
    ]
