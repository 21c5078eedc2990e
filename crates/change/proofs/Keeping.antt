-- What is kept of bytes received, by the counts that the code compares.
use Prim.Native.Nat.{ℕ, ◌-◌, ◌≤◌, min}
use native.Mathlib.Omega.{arith}
use mathlib.Core.Path.{◌≡◌, ap}
use mathlib.Core.List.{List}
use lib.ListN.{length, take, drop, replicate, length-take, length-drop}
use lib.Seq.{take_all}
use Rattle.std.proofs.lemmas.List.{take_min}
use Rattle.ground.specs.Bytes.{laid, padded}
use Rattle.frame.specs.Frame.{length_byte}
use Rattle.change.specs.Change.{kept_bytes, keepable}

-- from offset 10 on, as many as the length byte says, and there are
pub keeps_padded : (b : List ℕ) (n : ℕ) → n ≡ min (length_byte b) (length (take (length b - 10) (drop 10 b))) → padded 240 (take n (take (length b - 10) (drop 10 b))) ≡ kept_bytes (keepable b)
keeps_padded b n e =
    let rest : take (length b - 10) (drop 10 b) ≡ drop 10 b = take_all (length b - 10) (drop 10 b) (rw length-drop (omega arith)) in
    ap (λ (p : List ℕ). laid (take 240 p) (replicate 240 0)) (rw rest (rw (e, rest) (take_min (length_byte b) (drop 10 b))))

-- of a frame it is the whole payload
pub keeps_whole : (b : List ℕ) → length_byte b ≤ 240 → keepable b ≡ take (length_byte b) (drop 10 b)
keeps_whole b h = take_all 240 (take (length_byte b) (drop 10 b)) (rw length-take (omega arith))
