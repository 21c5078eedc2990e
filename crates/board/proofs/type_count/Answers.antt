-- `board::type_count` meets its contract: the marks tell the types passed, and n how many they are.
use Rattle.std.proofs.Common.{◌≡◌, ℕ, ◌+◌, ◌<◌, Bool, true, false, List, [], ◌∷◌, ◌++◌, set, refl, sym, subst, ap, ◌∙◌, arith}
use Rattle.std.proofs.Math.Seq.{take_all}
use Rattle.std.proofs.lemmas.List.{take_more}
use Rattle.std.specs.Int.{from_bool}
use Rattle.ground.specs.Below.{one}
use Rattle.ground.proofs.Loops.{one_le}
use Rattle.board.specs.Types.{type_count, Marks, is_unmarked}
use Rattle.board.proofs.Column.{forty_whole}
use Rattle.board.proofs.Types.{last_more, marks_none, marks_more, unmarked_new, type_more}
use Rattle.board.proofs.type_count.Invariants.{Passed}
use Rattle.board.proofs.type_count.Goals as goal

none_counted : 0 ≡ type_count []
unfolding type_count
none_counted = refl

-- one type more
passed : (kinds marks : List ℕ) (n kind : ℕ) → Passed kinds marks n → kind < 256 → {r : Bool} {marked : List ℕ} (met total : ℕ) → total ≡ n + met → r ≡ is_unmarked marks kind → marked ≡ set marks kind 1 → met ≡ one r → Passed (kinds ++ kind ∷ []) marked total
passed kinds marks n kind (m, e) fits met total sum r marked counted =
    (subst (Marks (kinds ++ kind ∷ [])) (sym marked) (marks_more m kind fits (kinds ++ kind ∷ []) (last_more kinds kind)), sum ∙ ap (λ (x : ℕ). x + met) e ∙ ap (λ (x : ℕ). type_count kinds + x) (counted ∙ ap one (r ∙ unmarked_new m kind fits)) ∙ sym (type_more kinds kind))

-- what a test adds to the count
added : (b : Bool) → from_bool b ≡ one b
added true = refl
added false = refl

pub loop-other-init : goal.loop-other-init
loop-other-init c =
    let e : c.from-n.result ≡ one c.mark.result = c.from-n.ensures ∙ added c.mark.result in
    record { few = omega (arith, e, one_le c.mark.result); passed = passed [] _ 0 _ (marks_none, none_counted) c.mark.ensures.2 c.from-n.result _ (omega arith) c.mark.ensures.0 c.mark.ensures.1 e }

pub loop-other-preserved : goal.loop-other-preserved
loop-other-preserved c =
    let at = c.loop-other in
    let met = c.mark-in-loop-other in
    let e : c.from-n-in-loop-other.result ≡ one met.result = c.from-n-in-loop-other.ensures ∙ added met.result in
    let next = take_more c.args.kinds.now at.other-index 0 (omega (arith, c.told-kinds)) in
    record {
      few = omega (arith, at.invariant.few, e, one_le met.result);
      passed = subst (λ (l : List ℕ). Passed (c.args.kind ∷ l) met.new.marks (at.n + c.from-n-in-loop-other.result)) (sym next) (passed _ _ _ _ at.invariant.passed met.ensures.2 c.from-n-in-loop-other.result _ refl met.ensures.0 met.ensures.1 e);
    }

pub returns : goal.returns
returns c = c.loop-other.invariant.passed.1 ∙ ap (λ (l : List ℕ). type_count (c.args.kind ∷ l)) (take_all c.loop-other.other-index c.args.kinds.now (omega (arith, c.told-kinds)) ∙ sym (forty_whole c.args.kinds.now c.told-kinds))
