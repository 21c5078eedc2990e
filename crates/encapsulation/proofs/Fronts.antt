-- The loop that wraps a message from the innermost level outwards: what it has made so far stands for the levels from a place on.
use Prim.Native.Nat.{ℕ, suc, ◌+◌, ◌-◌, ◌*◌, ◌≤◌, ◌<◌}
use native.Mathlib.Omega.{arith}
use mathlib.Core.Path.{◌≡◌, sym, ap, ◌∙◌}
use mathlib.Core.List.{List, [], ◌∷◌, ◌++◌}
use lib.ListN.{length, get_or, take, drop, length-drop, drop_of_length-le}
use lib.Seq.{paste, take-add, drop-drop, drop-cons, take-paste, drop-paste, length-paste, length-take-le}
use Rattle.ground.specs.Bytes.{fitting}
use Rattle.ground.proofs.Laid.{all_fit}
use Rattle.ground.proofs.Runs.{part_behind}
use Rattle.encapsulation.specs.declared.Level.{Level}
use Rattle.encapsulation.specs.Message.{Message, encapsulation, wrapped}
use Rattle.encapsulation.specs.Making.{head_of, heads}
use Rattle.encapsulation.proofs.Heads.{wrapped_length}

-- so far, from the level at a place on
pub record WrappedFrom (levels : List Level) (m : Message) (bytes : List ℕ) (message packet n at : ℕ) : Type 0 where
  pub within : at ≤ length levels
  pub long : length bytes ≡ 28
  pub same_message : message ≡ (wrapped (drop at levels) m).message
  pub same_packet : packet ≡ (wrapped (drop at levels) m).packet
  pub count : n ≡ 7 * (length levels - at) + length m.payload
  pub so_far : take (7 * (length levels - at)) (drop (7 * at) bytes) ≡ heads (drop at levels) m

module _ (levels : List Level) (m : Message) where
  -- behind the last no level is around the message
  pub none_wrapped : (bytes : List ℕ) → length bytes ≡ 28 → WrappedFrom levels m bytes m.message m.packet (length m.payload) (length levels)
  unfolding wrapped heads
  none_wrapped bytes long = record { within = omega arith; long = long; same_message = ap (λ (ls : List Level). (wrapped ls m).message) (sym past); same_packet = ap (λ (ls : List Level). (wrapped ls m).packet) (sym past); count = omega arith; so_far = ap (λ (k : ℕ). take k (drop (7 * length levels) bytes)) (let z : 7 * (length levels - length levels) ≡ 0 = omega arith in z) ∙ ap (λ (ls : List Level). heads ls m) (sym past) }
    where
      past : drop (length levels) levels ≡ []
      past = drop_of_length-le levels {i = length levels} (omega arith)

  -- one level more, the one before the place
  pub one_wrapped : (bytes more : List ℕ) (message packet n at : ℕ) (d : Level) → length levels ≤ 4 → 0 < at → WrappedFrom levels m bytes message packet n at → more ≡ paste bytes (7 * (at - 1)) (head_of (get_or levels (at - 1) d) message packet n) (fitting 7 (7 * (at - 1)) (length bytes)) → WrappedFrom levels m more encapsulation (get_or levels (at - 1) d).packet (n + 7) (at - 1)
  unfolding wrapped heads
  one_wrapped bytes more message packet n at d few some w e =
      record {
        within = omega (arith, w.within);
        long = ap length all ∙ length-paste bytes from head 7 (omega (arith, w.long, w.within)) (omega arith) ∙ w.long;
        same_message = ap (λ (ls : List Level). (wrapped ls m).message) (sym rest);
        same_packet = ap (λ (ls : List Level). (wrapped ls m).packet) (sym rest);
        count = omega (arith, w.within, w.count);
        so_far = ap (λ (k : ℕ). take k (drop from more)) (let z : 7 * (length levels - (at - 1)) ≡ 7 + 7 * (length levels - at) = omega (arith, w.within) in z) ∙ take-add 7 (7 * (length levels - at)) (drop from more) ∙ (λ i. front i ++ back i) ∙ ap (λ (ls : List Level). heads ls m) (sym rest);
      }
    where
      from : ℕ
      from = 7 * (at - 1)

      l : Level
      l = get_or levels (at - 1) d

      head : List ℕ
      head = head_of l message packet n

      later : List Level
      later = drop at levels

      rest : drop (at - 1) levels ≡ l ∷ later
      rest = drop-cons levels (at - 1) d (omega (arith, w.within)) ∙ ap (λ (k : ℕ). l ∷ drop k levels) (let z : suc (at - 1) ≡ at = omega arith in z)

      all : more ≡ paste bytes from head 7
      all = e ∙ ap (paste bytes from head) (all_fit 7 from (length bytes) (omega (arith, w.long, w.within)))

      inner : n ≡ length (wrapped later m).payload
      inner = omega (arith, w.count, wrapped_length later m, length-drop at levels)

      front : take 7 (drop from more) ≡ head_of l (wrapped later m).message (wrapped later m).packet (length (wrapped later m).payload)
      front = part_behind more (take from bytes) head from 7 (rw all (rw (length-paste bytes from head 7 (omega (arith, w.long, w.within)) (omega arith)) (omega (arith, w.long, w.within)))) (ap (take (from + 7)) all ∙ take-paste bytes from head 7 (omega (arith, w.long, w.within)) (omega arith)) (length-take-le from bytes (omega (arith, w.long, w.within))) ∙ (λ i. head_of l (w.same_message i) (w.same_packet i) (inner i))

      back : take (7 * (length levels - at)) (drop 7 (drop from more)) ≡ heads later m
      back = ap (take (7 * (length levels - at))) (drop-drop 7 from more ∙ ap (drop (from + 7)) all ∙ drop-paste bytes from head 7 (omega (arith, w.long, w.within)) (omega arith) ∙ ap (λ (k : ℕ). drop k bytes) (let z : from + 7 ≡ 7 * at = omega arith in z)) ∙ w.so_far
