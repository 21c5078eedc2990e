-- `frame::read` meets its contract: each return follows the tests that led there.
use Prim.Native.Nat.{ℕ, ◌+◌, ◌≤◌}
use native.Mathlib.Omega.{arith}
use borrow.Author.Tests.{le-ltb, eq-eqb}
use mathlib.Core.Path.{◌≡◌, refl, sym, ap, ◌∙◌}
use mathlib.Core.Bool.{Bool, true, false, not}
use mathlib.Core.List.{List}
use lib.ListN.{length}
use Rattle.ground.proofs.Choices.{tests, choose_yes, choose_no, not_no}
use Rattle.refusal.specs.Refusal.{refuses}
use Rattle.fletcher.specs.Fletcher.{is_good}
use Rattle.frame.specs.Frame.{header_of, length_byte, takes_subnet, reading}
use Rattle.frame.proofs.Told.{Whole}
use Rattle.frame.proofs.Subnets.{taken_reads, other_refused}
use Rattle.frame.proofs.read.Goals as goal

-- past the first four tests the bytes are a frame
frame-there : (b : List ℕ) → length_byte b ≤ 240 → length b ≡ 12 + length_byte b → (r : Bool) → r ≡ is_good b → r ≡ true → Whole b
frame-there b small long r e g = record { small = small; long = long; good = sym e ∙ g }

pub returns-then-bytes-lt12 : goal.returns-then-bytes-lt12
unfolding reading
returns-then-bytes-lt12 c = search tests

pub returns-then-n-gt240 : goal.returns-then-n-gt240
unfolding reading
returns-then-n-gt240 c = search tests

pub returns-then-bytes-n : goal.returns-then-bytes-n
unfolding reading
returns-then-bytes-n c = search tests

pub returns-then-not-good : goal.returns-then-not-good
unfolding reading
returns-then-not-good c = choose_no _ _ _ _ (le-ltb _ _ c.if-bytes-lt12.false) (choose_no _ _ _ _ (le-ltb _ _ c.if-n-gt240.false) (choose_no _ _ _ _ (not_no _ (eq-eqb _ _ c.if-bytes-n.false)) (choose_yes _ _ _ _ (ap not (sym c.good.ensures ∙ c.if-not-good.true)) refl)))

pub returns-then-not-takes_subnet : goal.returns-then-not-takes_subnet
unfolding reading
returns-then-not-takes_subnet c = let args = c.args in
    let other : takes_subnet args.ours (header_of args.bytes.now).subnet ≡ false = sym (rw c.header_of-header.ensures at c.takes_subnet.ensures) ∙ c.if-not-takes_subnet.true in
    sym (other_refused _ _ (frame-there _ c.if-n-gt240.false c.if-bytes-n.false _ c.good.ensures c.if-not-good.false) refuses _ other)

pub returns : goal.returns
unfolding reading
returns c = let args = c.args in
    let ours : takes_subnet args.ours (header_of args.bytes.now).subnet ≡ true = sym (rw c.header_of-header.ensures at c.takes_subnet.ensures) ∙ c.if-not-takes_subnet.false in
    rw c.header_of-header.ensures (sym (taken_reads _ _ (frame-there _ c.if-n-gt240.false c.if-bytes-n.false _ c.good.ensures c.if-not-good.false) refuses _ ours))
