-- `script::bytes_from` meets its contract, by what `is_hex` and `lay_hex` ensure of the rest of the line.
use native.Mathlib.Omega.{arith}
use mathlib.Core.Path.{sym, ◌∙◌}
use borrow.Author.Rules.{rules}
use Rattle.io.proofs.Counting.{prefix_len_of_le}
use Rattle.script.proofs.Hex.{hex_told, no_bytes, other_bytes, these_bytes}
use Rattle.script.proofs.bytes_from.Goals as goal

pub returns-in_default : goal.returns-in_default
returns-in_default c = let none = no_bytes c.args.line.now c.args.out.now c.args.at (grind (arith, c.in_default.ensures.lookup.0)) in
    record { value = none.0; bytes = none.1; prefix_len = prefix_len_of_le _ _ (omega arith) }

pub returns-then-not-is_hex : goal.returns-then-not-is_hex
returns-then-not-is_hex c = let args = c.args in let found = c.in-Some.ensures.lookup.0 in
    let other = other_bytes args.line.now args.out.now args.at c.in-Some.word.now found.0 found.2 (sym c.is_hex.ensures ∙ c.if-not-is_hex.true) in
    record { value = other.0; bytes = other.1; prefix_len = search rules }

pub lay_hex-requires : goal.lay_hex-requires
lay_hex-requires c = hex_told _ _ (sym c.is_hex.ensures ∙ c.if-not-is_hex.false)

pub returns : goal.returns
returns c = let args = c.args in let found = c.in-Some.ensures.lookup.0 in
    let is_hex = sym c.is_hex.ensures ∙ c.if-not-is_hex.false in
    let these = these_bytes args.line.now args.out.now args.at c.in-Some.word.now found.0 found.2 _ is_hex c.lay_hex.ensures in
    record { value = these.0; bytes = these.1; prefix_len = prefix_len_of_le _ _ (omega (arith, (hex_told _ _ is_hex).1)) }
