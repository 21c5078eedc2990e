-- `encapsulation::read_message` and `encapsulation::read_payload`, which call each other, meet their contracts.
use native.Mathlib.Omega.{arith}
use mathlib.Core.Path.{sym, ap, ◌∙◌}
use lib.ListN.{length}
use borrow.Author.Tests.{ltb-false, eq-eqb, ne_eqb}
use Rattle.ground.proofs.Runs.{rest_is}
use Rattle.encapsulation.specs.Making.{answer_of}
use Rattle.refusal.proofs.Numbers.{exit}
use Rattle.encapsulation.proofs.Laws.{plain_answer, deep_opened, inner_opened, bad_inner, inner_passes, inside_answer, inside_refused, depth_within}
use Rattle.encapsulation.proofs.+read_message_read_payload.Goals as goal

pub read_message-returns-then-message-ne-ENCAPSULATION : goal.read_message-returns-then-message-ne-ENCAPSULATION
read_message-returns-then-message-ne-ENCAPSULATION t c = plain_answer _ _ _ c.default.ensures (ne_eqb _ _ c.if-message-ne-ENCAPSULATION.true)

pub read_message-returns-then-left-eq0 : goal.read_message-returns-then-left-eq0
read_message-returns-then-left-eq0 t c = ap answer_of (sym (deep_opened _ _ (eq-eqb _ _ c.if-message-ne-ENCAPSULATION.false) c.if-left-eq0.true))

pub read_message-returns : goal.read_message-returns
read_message-returns t c = c.read_payload.ensures ∙ ap answer_of (sym (inner_opened _ _ (eq-eqb _ _ c.if-message-ne-ENCAPSULATION.false) c.if-left-eq0.false))

pub read_payload-returns-in_default : goal.read_payload-returns-in_default
read_payload-returns-in_default t c = ap answer_of (sym (bad_inner _ _ _ (λ ok. omega (arith, ltb-false (length c.args.payload.now) 7 ok.0, c.in_default.len_below))))

pub read_payload-returns-then-inner-n : goal.read_payload-returns-then-inner-n
read_payload-returns-then-inner-n t c = ap answer_of (sym (bad_inner _ _ _ (λ ok. c.if-inner-n.true ((inner_passes c.args.payload.now c.in-len7-up.len_at_least).1 ok))))

pub read_payload-overflow_add-result : goal.read_payload-overflow_add-result
read_payload-overflow_add-result t c = let deep = depth_within _ _ _ c.in_ok-plain.ensures in record { fits = omega (arith, deep, c.requires) }

pub read_payload-returns-in_err-plain : goal.read_payload-returns-in_err-plain
read_payload-returns-in_err-plain t c =
    let whole = (inner_passes c.args.payload.now c.in-len7-up.len_at_least).0 c.if-inner-n.false in
    exit _ _ c.from_residual.ensures.1 ∙ inside_refused _ _ _ whole _ (rw (rest_is c.args.payload.now 7) at c.in_err-plain.ensures)

pub read_payload-returns : goal.read_payload-returns
read_payload-returns t c =
    let whole = (inner_passes c.args.payload.now c.in-len7-up.len_at_least).0 c.if-inner-n.false in
    inside_answer _ _ _ whole _ (rw (rest_is c.args.payload.now 7) at c.in_ok-plain.ensures)
