-- A frame written behind the first part of its payload is the frame of both parts, and past it all is as it was.
use Prim.Native.Nat.{ℕ, ◌+◌, ◌≤◌}
use native.Mathlib.Omega.{arith}
use mathlib.Core.Path.{◌≡◌, sym, ap, ◌∙◌}
use mathlib.Core.List.{List, [], ◌++◌}
use lib.ListN.{length, length-append}
use lib.Seq.{paste}
use borrow.Author.Tests.{le-ltb}
use Rattle.ground.specs.Bytes.{laid, fitting}
use Rattle.refusal.proofs.Rules.{passed}
use Rattle.fletcher.specs.Fletcher.{seed}
use Rattle.frame.specs.declared.Header.{Header}
use Rattle.frame.specs.Frame.{begun, write_rules, writing, written_bytes, frame_of, Writing, told_written}
use Rattle.frame.specs.ReadyHeader.{closed_bytes}
use Rattle.frame.proofs.Laying.{begun_long, begun_is, begun_past}
use Rattle.frame.proofs.ReadyHeader.{from_seed}
use Rattle.frame.proofs.RoundTrip.{long}

pub parts_written : (h : Header) (f p o u v : List ℕ) (r : Writing) → length f + length p ≤ 240 → 12 + length f + length p ≤ length o → u ≡ paste o 10 f (fitting (length f) 10 (length o)) → told_written r ≡ writing (begun (length f) u ++ p) (length u) → v ≡ laid (closed_bytes h seed 0 (begun (length f) u ++ p) (length u)) u → (told_written r ≡ writing (f ++ p) (length o)) × (v ≡ laid (written_bytes h (f ++ p) (length o)) o)
unfolding written_bytes
parts_written h f p o u v r small room e told written = (
  told ∙ (λ i. writing (is i ++ p) (same i)),
  from_seed h (begun (length f) u ++ p) u v written ∙ (λ i. laid (written_bytes h (is i ++ p) (same i)) u) ∙ ap (λ (x : List ℕ). laid x u) fits ∙ ap (λ (x : List ℕ). frame_of h (f ++ p) ++ x) (begun_past f o u (omega arith) e (length (frame_of h (f ++ p))) (omega (arith, size, whole))) ∙ ap (λ (x : List ℕ). laid x o) (sym fits),
)
  where
    whole : length (f ++ p) ≡ length f + length p
    whole = length-append f p

    size : length (frame_of h (f ++ p)) ≡ 12 + length (f ++ p)
    size = long h (f ++ p)

    same : length u ≡ length o
    same = begun_long f o u (omega arith) e

    is : begun (length f) u ≡ f
    is = begun_is f o u (omega arith) e

    fits : written_bytes h (f ++ p) (length o) ≡ frame_of h (f ++ p)
    fits = passed (write_rules (f ++ p) (length o)) (λ q. []) (frame_of h (f ++ p)) (le-ltb 240 (length (f ++ p)) (omega (arith, whole)), (le-ltb (length o) (12 + length (f ++ p)) (omega (arith, whole)), tt))
