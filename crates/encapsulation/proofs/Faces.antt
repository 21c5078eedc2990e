-- What C is told points at the plain message's payload: the part of the received bytes that the numbers name is what is handed back, and lies in them.
use Prim.Native.Nat.{ℕ}
use native.Mathlib.Omega.{arith}
use mathlib.Core.Path.{◌≡◌, refl}
use mathlib.Core.List.{List}
use Rattle.ground.specs.Bytes.{Names}
use Rattle.encapsulation.specs.Unwrap.{Opened, plain, refused, unwrapping, payload_in}
use Rattle.encapsulation.specs.Answer.{unwrap_numbers}
use Rattle.encapsulation.proofs.Positions.{plain_stands}

-- what the numbers of an opened message name is its payload
abbrev Named : Opened → List ℕ → Type 0
Named f b = Names (unwrap_numbers f).start (unwrap_numbers f).length b (payload_in f)

pub unwrap_named : (ours : ℕ) (b : List ℕ) → Named (unwrapping ours b) b
unwrap_named ours b = go (unwrapping ours b) refl
  where
    go : (f : Opened) → unwrapping ours b ≡ f → Named (unwrapping ours b) b
    go (plain ls m) e = rw e (let w = plain_stands ours b ls m e in (omega (arith, w.within), w.part))
    go (refused r) e = rw e (omega arith, refl)
