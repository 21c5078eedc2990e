-- `script::field_at` meets its contract, by what `word_at` and `number` ensure of the word there.
use Rattle.std.proofs.Common.{arith}
use Rattle.script.proofs.Words.{past_end}
use Rattle.script.proofs.Numbers.{no_field, field_fits, field_over, field_other}
use Rattle.script.proofs.field_at.Goals as goal

pub returns-in_default-clause-value : goal.returns-in_default-clause-value
returns-in_default-clause-value c = no_field c.args.line.now c.args.at c.args.most c.in_default.ensures.value

pub returns-in_default-clause-next : goal.returns-in_default-clause-next
returns-in_default-clause-next c within = let past = past_end 32 c.args.line.now c.args.at c.in_default.ensures.value in omega arith

pub returns-in-Some-number-clause-value : goal.returns-in-Some-number-clause-value
returns-in-Some-number-clause-value c = let args = c.args in let word = c.in-Some in
    field_fits args.line.now word.word.now args.at args.most word.next word.ensures.value c.in-Some-number.value c.in-Some-number.ensures c.if-value-most.true

pub returns-in_default-number-clause-value : goal.returns-in_default-number-clause-value
returns-in_default-number-clause-value c = let args = c.args in let word = c.in-Some in
    field_over args.line.now word.word.now args.at args.most word.next word.ensures.value c.in-Some-number.value c.in-Some-number.ensures c.if-value-most.false

pub returns-in_default-number-2-clause-value : goal.returns-in_default-number-2-clause-value
returns-in_default-number-2-clause-value c = let args = c.args in let word = c.in-Some in
    field_other args.line.now word.word.now args.at args.most word.next word.ensures.value c.in_default-number.ensures (omega arith)
