-- The laws of the trail: the sums from one place to the next, what is noted of them, and what a difference of two tells.
use Prim.Native.Nat.{ℕ, zero, suc, ◌+◌, ◌-◌, ◌*◌, ◌%◌, ◌≤◌, ◌<◌}
use native.Mathlib.Omega.{arith}
use native.Mathlib.Decide.{ℕ_discrete}
use native.Mathlib.Numerals.{add-one}
use mathlib.Core.Path.{◌≡◌, sym, ap, ◌∙◌}
use mathlib.Core.List.{List, [], ◌∷◌}
use lib.ListN.{length, get_or, set, take, drop, length-drop, length-set}
use lib.Seq.{take-suc, take-add, length-take-le, get_or-set_same, get_or-set_other}
use Rattle.std.proofs.Common.{Fits, w8}
use Rattle.fletcher.specs.declared.Sums.{Sums}
use Rattle.fletcher.specs.Fletcher.{is_good}
use Rattle.fletcher.specs.Joined.{is_good_run, unreduced}
use Rattle.fletcher.proofs.Unreduced.{together, unreduced_append, good_unreduced}
use Rattle.finder.specs.Trail.{sums_to, apart, slot, NotedAt, NotedTo}

-- from one place to the next both sums grow by the byte between, and the second by the first
next : (s : List ℕ) (k : ℕ) → k < length s → sums_to s (suc k) ≡ record { first = (sums_to s k).first + get_or s k 0; second = (sums_to s k).second + ((sums_to s k).first + get_or s k 0) }
unfolding unreduced
next s k h = ap unreduced (take-suc s k 0 h) ∙ unreduced_append (take k s) (get_or s k 0 ∷ []) ∙ λ i. record { first = one i; second = two i }
  where
    one : (sums_to s k).first + (get_or s k 0 + 0) ≡ (sums_to s k).first + get_or s k 0
    one = omega arith

    two : (sums_to s k).second + (get_or s k 0 + 0 * get_or s k 0 + 0) + 1 * (sums_to s k).first ≡ (sums_to s k).second + ((sums_to s k).first + get_or s k 0)
    two = omega arith

pub first_next : (s : List ℕ) (k : ℕ) → k < length s → (sums_to s (k + 1)).first ≡ (sums_to s k).first + get_or s k 0
first_next s k h = rw (add-one k) (ap (λ (t : Sums). t.first) (next s k h))

pub second_next : (s : List ℕ) (k : ℕ) → k < length s → (sums_to s (k + 1)).second ≡ (sums_to s k).second + ((sums_to s k).first + get_or s k 0)
second_next s k h = rw (add-one k) (ap (λ (t : Sums). t.second) (next s k h))

-- the next fourth place is noted in its slot, and the 63 before it stay noted
pub note_next : (s firsts seconds : List ℕ) (j : ℕ) (m : Sums) → NotedTo s firsts seconds j → m ≡ sums_to s (4 * j + 4) → NotedTo s (set firsts ((j + 1) % 64) m.first) (set seconds ((j + 1) % 64) m.second) (j + 1)
note_next s firsts seconds j m h e =
    record {
      slots = (length-set firsts ((j + 1) % 64) m.first ∙ h.slots.0, length-set seconds ((j + 1) % 64) m.second ∙ h.slots.1);
      places = λ k l u. go k l u (ℕ_discrete k (j + 1));
    }
  where
    here : m ≡ sums_to s (4 * (j + 1))
    here = e ∙ ap (sums_to s) (let q : 4 * j + 4 ≡ 4 * (j + 1) = omega arith in q)

    other : (trail : List ℕ) (v k : ℕ) → k < j + 1 → j + 1 < k + 64 → slot (set trail ((j + 1) % 64) v) k ≡ slot trail k
    other trail v k l u = get_or-set_other trail ((j + 1) % 64) (k % 64) v 0 (λ q. omega arith)

    go : (k : ℕ) → k ≤ j + 1 → j + 1 < k + 64 → Dec (k ≡ j + 1) → NotedAt s (set firsts ((j + 1) % 64) m.first) (set seconds ((j + 1) % 64) m.second) k
    go k l u (yes q) =
        rw q
        (record {
          first = get_or-set_same firsts ((j + 1) % 64) m.first 0 (omega (arith, h.slots.0)) ∙ ap (λ (t : Sums). t.first) here;
          second = get_or-set_same seconds ((j + 1) % 64) m.second 0 (omega (arith, h.slots.1)) ∙ ap (λ (t : Sums). t.second) here;
        })
    go k l u (no ne) =
        let old = h.places k (omega (arith, ne)) (omega arith) in
        record {
          first = other firsts m.first k (omega (arith, ne)) u ∙ old.first;
          second = other seconds m.second k (omega (arith, ne)) u ∙ old.second;
        }

-- the sums over 4,096 bytes do not leave 32 bits
pub first_most : (s : List ℕ) → ((n : ℕ) → Fits w8 (get_or s n 0)) → (k : ℕ) → k ≤ length s → k ≤ 4096 → (sums_to s k).first ≤ 255 * k
unfolding unreduced
first_most s bytes zero h l = omega arith
first_most s bytes (suc k) h l = omega (arith, ap (λ (t : Sums). t.first) (next s k (omega arith)), bytes k, first_most s bytes k (omega arith) (omega arith))

pub second_most : (s : List ℕ) → ((n : ℕ) → Fits w8 (get_or s n 0)) → (k : ℕ) → k ≤ length s → k ≤ 4096 → (sums_to s k).second ≤ 1044480 * k
unfolding unreduced
second_most s bytes zero h l = omega arith
second_most s bytes (suc k) h l = omega (arith, ap (λ (t : Sums). t.second) (next s k (omega arith)), bytes k, first_most s bytes k (omega arith) (omega arith), second_most s bytes k (omega arith) (omega arith))

-- whether a frame is good is told by the difference of the sums before its end and before its start
module _ (s : List ℕ) (at long : ℕ) (inside : at + long ≤ length s) where
  count : length (take long (drop at s)) ≡ long
  count = length-take-le long (drop at s) (simp length-drop (omega arith))

  parts : sums_to s (at + long) ≡ together (sums_to s at) (unreduced (take long (drop at s))) long
  parts = ap unreduced (take-add at long s) ∙ unreduced_append (take at s) (take long (drop at s)) ∙ ap (together (sums_to s at) (unreduced (take long (drop at s)))) count

  pub first_after : (sums_to s (at + long)).first ≡ (sums_to s at).first + (unreduced (take long (drop at s))).first
  first_after = ap (λ (t : Sums). t.first) parts

  pub second_after : (sums_to s (at + long)).second ≡ (sums_to s at).second + (unreduced (take long (drop at s))).second + long * (sums_to s at).first
  second_after = ap (λ (t : Sums). t.second) parts

  pub judged : is_good_run (apart (sums_to s at) (sums_to s (at + long)) long) ≡ is_good (take long (drop at s))
  judged = ap is_good_run (λ i. record { first = one i; second = two i; length = sym count i }) ∙ good_unreduced (take long (drop at s))
    where
      one : (sums_to s (at + long)).first - (sums_to s at).first ≡ (unreduced (take long (drop at s))).first
      one = omega (arith, first_after)

      two : (sums_to s (at + long)).second - (sums_to s at).second - long * (sums_to s at).first ≡ (unreduced (take long (drop at s))).second
      two = omega (arith, second_after)
