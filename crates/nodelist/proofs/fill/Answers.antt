-- `nodelist::fill` meets its contract: the types passed are filled in, and marked as long as a byte is open.
use Rattle.std.proofs.Common.{◌≡◌, ℕ, ◌+◌, ◌<◌, List, ◌∷◌, Option, unwrap_or, get_or, sym, ap, ◌∙◌, arith, rules}
use Rattle.nodelist.proofs.Open.{open_from}
use Rattle.nodelist.proofs.Passes.{filling_begun, filling_full, filling_over, filling_more}
use Rattle.nodelist.proofs.fill.Goals as goal
use Rattle.nodelist.proofs.fill.Goals.{then-mark, else-mark}

pub loop-kind-init : goal.loop-kind-init
loop-kind-init c = record { filling = filling_begun _ c.told-list c.requires _ c.open_from-lowest.ensures.found; within = c.open_from-lowest.ensures.within }

pub loop-kind-preserved : goal.loop-kind-preserved
loop-kind-preserved c =
    let at = c.loop-kind in
    let f = rw c.in-Some.is at at.invariant.filling in
    let fits : c.in-Some.i < 16 = search rules in
    elim c.if-mark.branch [
      | then-mark w ↦
          record {
            filling = filling_more _ _ _ at.kind-index f fits c.mark.ensures.2 c.mark.ensures.0 c.mark.ensures.1 w.if-mark.true w.list-is (ap (λ (o : Option ℕ). unwrap_or o 16) w.lowest-is ∙ w.open_from-lowest-then-mark.ensures.found ∙ ap (λ (l : List ℕ). open_from l (c.in-Some.i + 1)) (sym w.list-is));
            within = rw w.lowest-is w.open_from-lowest-then-mark.ensures.within;
          }
      | else-mark w ↦
          rw (w.list-is, w.lowest-is) (record { filling = filling_over _ _ _ at.kind-index f fits c.mark.ensures.2 c.mark.ensures.0 c.mark.ensures.1 w.if-mark.false; within = fits })
    ]

pub returns-in_default : goal.returns-in_default
returns-in_default c =
    let at = c.loop-kind in
    let full : unwrap_or at.lowest 16 ≡ 16 = ap (λ (o : Option ℕ). unwrap_or o 16) c.in_default.is in
    at.invariant.filling.0.0 ∙ ap (λ (l : List ℕ). get_or c.args.list.now 0 0 ∷ l) (sym (filling_full _ _ _ at.kind-index at.invariant.filling (omega (arith, full)) 40 at.auto.kind-index-end))
