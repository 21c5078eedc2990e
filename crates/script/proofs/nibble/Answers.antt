-- `script::nibble` meets its contract, arm by arm.
use native.Mathlib.Omega.{arith}
use Rattle.script.proofs.Hex.{digit_nibble, upper_nibble, lower_nibble, no_nibble}
use Rattle.script.proofs.nibble.Goals as goal

pub returns-in-48-to-57 : goal.returns-in-48-to-57
returns-in-48-to-57 c = digit_nibble _ (omega arith) (omega arith)

pub returns-in-65-to-70 : goal.returns-in-65-to-70
returns-in-65-to-70 c = let worth = upper_nibble c.args.b (omega arith) (omega arith) in omega (arith, worth)

pub returns-in-97-to-102 : goal.returns-in-97-to-102
returns-in-97-to-102 c = let worth = lower_nibble c.args.b (omega arith) (omega arith) in omega (arith, worth)

pub returns-in_default : goal.returns-in_default
returns-in_default c = no_nibble _ (λ x y. omega arith) (λ x y. omega arith) (λ x y. omega arith)

pub returns-in_default-2 : goal.returns-in_default-2
returns-in_default-2 c = no_nibble _ (λ x y. omega arith) (λ x y. omega arith) (λ x y. omega arith)

pub returns-in_default-3 : goal.returns-in_default-3
returns-in_default-3 c = no_nibble _ (λ x y. omega arith) (λ x y. omega arith) (λ x y. omega arith)

pub returns-in_default-4 : goal.returns-in_default-4
returns-in_default-4 c = no_nibble _ (λ x y. omega arith) (λ x y. omega arith) (λ x y. omega arith)
