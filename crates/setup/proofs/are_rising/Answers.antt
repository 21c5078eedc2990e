-- `setup::are_rising` meets its contract: rising says that those passed are below their next, and the pairs that are left are those of the rest.
use Prim.Native.Nat.{ℕ, ◌+◌}
use native.Mathlib.Omega.{arith}
use native.Mathlib.Nat.{add-zero}
use mathlib.Core.Path.{◌≡◌, refl, sym, ap, ◌∙◌}
use mathlib.Core.Bool.{Bool, ◌&&◌}
use mathlib.Core.List.{List, [], ◌∷◌}
use lib.Dec.{ltb}
use lib.ListN.{length, get_or, take, drop, length-append, length-drop}
use Rattle.std.proofs.lemmas.List.{get_or-take, get_or-drop, drop-drop}
use Rattle.ground.proofs.Loops.{all_none, all_step}
use Rattle.setup.specs.Setup.{are_rising}
use Rattle.setup.proofs.are_rising.Goals as goal

-- a pair more, which the rest from n on begins with: the address at n, and the next
pair_more : (a rest pair : List ℕ) (n : ℕ) → rest ≡ drop n a → pair ≡ take 2 rest → {rising : Bool} → rising ≡ are_rising a n → (rising && ltb (get_or pair 0 0) (get_or pair 1 0)) ≡ are_rising a (n + 1)
pair_more a rest pair n e f rising = all_step (λ i. ltb (get_or a i 0) (get_or a (i + 1) 0)) n rising (rw (f, get_or-take 2 rest 0 0 (omega arith), get_or-take 2 rest 1 0 (omega arith), e, get_or-drop n a 0 0, get_or-drop n a 1 0, add-zero) refl)

pub loop-pair-init : goal.loop-pair-init
loop-pair-init c = record { size = cc; rest = cc; passed = omega arith; rising = all_none _ }

pub loop-pair-preserved : goal.loop-pair-preserved
loop-pair-preserved c =
    let a = c.args.addresses.now in
    let n = length c.loop-pair.yielded in
    let before = c.loop-pair.invariant in
    let turn = c.in-Some.ensures.steps in
    let more = length-append c.loop-pair.yielded (c.in-Some.pair ∷ []) in
    record {
      size = cc;
      rest = turn.1.2 ∙ ap (drop 1) before.rest ∙ drop-drop 1 n a ∙ ap (λ m. drop m a) (sym more);
      passed = omega (arith, more, before.size, ap length before.rest, length-drop n a, turn.1.0);
      rising = pair_more a _ _ n before.rest (rw before.size at turn.1.1) before.rising ∙ ap (are_rising a) (sym more);
    }
