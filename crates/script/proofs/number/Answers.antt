-- `script::number` meets its contract: the bytes so far are digits, and n is what they are worth.
use native.Mathlib.Omega.{arith}
use mathlib.Core.Path.{refl, sym, ◌∙◌}
use borrow.Author.Tests.{eqb-true, eqb-false}
use borrow.Author.Rules.{rules}
use lib.ListN.{length}
use Rattle.script.specs.Numbers.{worth_to}
use Rattle.script.proofs.Numbers.{digits_none, empty_told, other_told, over_told, number_told, digit_told}
use Rattle.script.proofs.number.Goals as goal

pub returns-then-is_empty : goal.returns-then-is_empty
returns-then-is_empty c = empty_told c.args.word.now (eqb-true _ _ (sym c.if-is_empty.ensures))

pub loop-b-init : goal.loop-b-init
unfolding worth_to
loop-b-init c = (refl, digits_none _, search rules)

pub returns-then-not-is_ascii_digit : goal.returns-then-not-is_ascii_digit
returns-then-not-is_ascii_digit c = other_told _ c.loop-b.b-index c.loop-b-test.true (λ a b. omega (arith, c.if-not-is_ascii_digit.ensures.cases))

pub returns-in_err-checked_mul : goal.returns-in_err-checked_mul
returns-in_err-checked_mul c = let over = c.in_err-checked_mul.ensures in
    c.from_residual.ensures ∙ over_told _ c.loop-b.b-index c.loop-b.n c.loop-b.invariant.0 c.loop-b-test.true (omega arith)

pub returns-in_err-n : goal.returns-in_err-n
returns-in_err-n c = let over = c.in_err-n.ensures in let tens = c.in_ok-checked_mul.ensures in
    c.from_residual-in_err-n.ensures ∙ over_told _ c.loop-b.b-index c.loop-b.n c.loop-b.invariant.0 c.loop-b-test.true (omega (arith, c.from.ensures))

pub loop-b-preserved : goal.loop-b-preserved
loop-b-preserved c = let tens = c.in_ok-checked_mul.ensures in let sum = c.in_ok-n.ensures in let digit = c.if-not-is_ascii_digit.ensures.cases in
    digit_told _ c.loop-b.b-index c.loop-b.n _ c.loop-b.invariant.0 c.loop-b.invariant.1 digit.0 digit.1 (omega (arith, c.from.ensures)) (omega arith)

pub returns : goal.returns
returns c = let some = eqb-false (length c.args.word.now) 0 (sym c.if-is_empty.ensures) in
    number_told _ c.loop-b.b-index c.loop-b.n c.loop-b.invariant.0 c.loop-b.invariant.1 (omega arith) (omega arith) c.loop-b.invariant.2
