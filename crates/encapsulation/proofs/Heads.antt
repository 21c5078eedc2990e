-- A wrapped message: each level takes seven bytes, and behind them all stands the plain message's payload.
use Prim.Native.Nat.{ℕ, ◌+◌, ◌*◌}
use native.Mathlib.Omega.{arith}
use mathlib.Core.Path.{◌≡◌, refl, ap, ◌∙◌}
use mathlib.Core.List.{List, [], ◌∷◌, ◌++◌}
use lib.ListN.{length, length-append}
use Rattle.encapsulation.specs.declared.Level.{Level}
use Rattle.encapsulation.specs.Message.{Message, wrapped}
use Rattle.encapsulation.specs.Making.{head_of, heads}

pub wrapped_payload : (ls : List Level) (m : Message) → (wrapped ls m).payload ≡ heads ls m ++ m.payload
unfolding wrapped heads
wrapped_payload [] m = refl
wrapped_payload (l ∷ ls) m = ap (λ (x : List ℕ). head_of l (wrapped ls m).message (wrapped ls m).packet (length (wrapped ls m).payload) ++ x) (wrapped_payload ls m)

pub heads_length : (ls : List Level) (m : Message) → length (heads ls m) ≡ 7 * length ls
unfolding heads
heads_length [] m = refl
heads_length (l ∷ ls) m = omega (arith, heads_length ls m)

-- "each level takes seven bytes"
pub wrapped_length : (ls : List Level) (m : Message) → length (wrapped ls m).payload ≡ 7 * length ls + length m.payload
wrapped_length ls m = ap length (wrapped_payload ls m) ∙ length-append (heads ls m) m.payload ∙ ap (λ (n : ℕ). n + length m.payload) (heads_length ls m)
