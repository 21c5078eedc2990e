-- A loop that copies a list over a part of another; what stands in, before and behind what was pasted; bytes laid at a front.
use Prim.Native.Nat.{ℕ, ◌+◌, ◌-◌, ◌≤◌, ◌<◌, min}
use native.Mathlib.Omega.{arith}
use native.Mathlib.Numerals.{add-one}
use native.Mathlib.Nat.{add_assoc, zero-add}
use mathlib.Core.Path.{◌≡◌, refl, sym, ap, ◌∙◌}
use mathlib.Core.Logic.{◌⊎◌, inl, inr}
use mathlib.Core.Bool.{Bool, true, false}
use mathlib.Core.List.{List, ◌++◌, append_assoc}
use Rattle.std.proofs.lemmas.List.{take_min, length-take, length-replicate}
use lib.ListN.{length, get_or, set, take, drop, replicate, length-append, length-drop, get_or-append}
use lib.Seq.{paste, paste-zero, paste-suc, length-paste, length_paste_head, take-paste, drop-paste, take-length, take_all, take_at, drop_at, drop-drop, length-take-le, get_or-take, get_or-drop, get_or-append-add}
use lib.Dec.{ltb}
use borrow.Author.Tests.{ltb-true, ltb-false}
use Rattle.ground.specs.Bytes.{laid, fitting, padded}
use Rattle.ground.proofs.Runs.{run_alike}

pub paste_none : (d : List ℕ) (at : ℕ) (s : List ℕ) → d ≡ paste d at s 0
paste_none d at s = paste-zero d at s

pub paste_step : (d u : List ℕ) (at : ℕ) (s : List ℕ) (i : ℕ) → u ≡ paste d at s i → at + i < length d → i < length s → set u (at + i) (get_or s i 0) ≡ paste d at s (i + 1)
paste_step d u at s i e h l = rw (e, add-one) (paste-suc d at s i 0 h l)

pub paste_end : (d u : List ℕ) (at : ℕ) (s : List ℕ) (i n : ℕ) → u ≡ paste d at s i → i ≡ n → u ≡ paste d at s n
paste_end d u at s i n e q = rw e (rw q refl)

-- what was pasted stands from its place on
pub paste_in : (d s : List ℕ) (at n i : ℕ) → at ≤ length d → n ≤ length s → i < n → get_or (paste d at s n) (at + i) 0 ≡ get_or s i 0
paste_in d s at n i hd hs h =
    get_or-append (take at d ++ take n s) (drop (at + n) d) 0 (at + i) (rw (length_paste_head d at s n hd hs) (omega (arith, h))) ∙ ap (λ (k : ℕ). get_or (take at d ++ take n s) (k + i) 0) (sym (length-take-le at d hd)) ∙ get_or-append-add (take at d) (take n s) i 0 ∙ get_or-take n s i 0 h

-- and is a part of the whole
pub paste_part : (d s : List ℕ) (at : ℕ) → at ≤ length d → take (length s) (drop at (paste d at s (length s))) ≡ s
paste_part d s at h =
    rw (append_assoc (take at d) (take (length s) s) (drop (at + length s) d), drop_at (take at d) (take (length s) s ++ drop (at + length s) d) at (length-take-le at d h), take-length s) (take_at s (drop (at + length s) d) (length s) refl)

-- no byte before it or behind it is another
pub paste_out : (d s : List ℕ) (at n i : ℕ) → at ≤ length d → n ≤ length s → (i < at) ⊎ (at + n ≤ i) → get_or (paste d at s n) i 0 ≡ get_or d i 0
paste_out d s at n i hd hs (inl h) =
    get_or-append (take at d ++ take n s) (drop (at + n) d) 0 i (rw (length_paste_head d at s n hd hs) (omega (arith, h))) ∙ get_or-append (take at d) (take n s) 0 i (rw (length-take-le at d hd) h) ∙ get_or-take at d i 0 h
paste_out d s at n i hd hs (inr h) =
    ap (get_d_of (paste d at s n)) (let e : i ≡ at + n + (i - (at + n)) = omega (arith, h) in e) ∙ ap (λ (k : ℕ). get_or (paste d at s n) (k + (i - (at + n))) 0) (sym (length_paste_head d at s n hd hs)) ∙ get_or-append-add (take at d ++ take n s) (drop (at + n) d) (i - (at + n)) 0 ∙ get_or-drop (at + n) d (i - (at + n)) 0 ∙ ap (get_d_of d) (let e : at + n + (i - (at + n)) ≡ i = omega (arith, h) in e)
  where
    get_d_of : List ℕ → ℕ → ℕ
    get_d_of l k = get_or l k 0

-- what is pasted right after what was pasted is pasted with it
paste_more : (d a b : List ℕ) (at : ℕ) → at + length a + length b ≤ length d → paste (paste d at a (length a)) (at + length a) b (length b) ≡ paste d at (a ++ b) (length (a ++ b))
paste_more d a b at h =
    rw (take-paste d at a (length a) (omega arith) (omega arith), behind, take-length a, take-length b, take-length (a ++ b), append_assoc (take at d) a b, length-append a b, add_assoc at (length a) (length b)) refl
  where
    u : List ℕ
    u = paste d at a (length a)

    behind : drop (at + length a + length b) u ≡ drop (at + length a + length b) d
    behind = sym (drop-drop (length b) (at + length a) u) ∙ ap (drop (length b)) (drop-paste d at a (length a) (omega arith) (omega arith)) ∙ drop-drop (length b) (at + length a) d

-- bytes laid at a front are pasted there
laid_pasted : (a o : List ℕ) → laid a o ≡ paste o 0 a (length a)
laid_pasted a o = rw (take-length a, zero-add (length a)) refl

-- what is laid over is as long as before
pub laid_length : (a o : List ℕ) → length a ≤ length o → length (laid a o) ≡ length o
laid_length a o h = length-append a (drop (length a) o) ∙ rw (length-drop (length a) o) (omega arith)

-- bytes pasted at a front, as many as there is room for, are laid there
pasted_laid : (d s : List ℕ) → paste d 0 s (fitting (length s) 0 (length d)) ≡ laid (take (length d) s) d
unfolding fitting
pasted_laid d s = rw (front, behind) refl
  where
    front : take (min (length s) (length d - 0)) s ≡ take (length d) s
    front = rw (let e : min (length s) (length d - 0) ≡ min (length d) (length s) = omega arith in e) (take_min (length d) s)

    behind : 0 + min (length s) (length d - 0) ≡ length (take (length d) s)
    behind = rw length-take (omega arith)

-- and over zeros, they are padded
pub padded_pasted : (u s : List ℕ) (n : ℕ) → u ≡ paste (replicate n 0) 0 s (fitting (length s) 0 (length (replicate {A = ℕ} n 0))) → u ≡ padded n s
padded_pasted u s n h = h ∙ pasted_laid (replicate n 0) s ∙ ap (λ (k : ℕ). laid (take k s) (replicate n 0)) (length-replicate n 0)

-- bytes that all have a place are laid over zeros
pub padded_whole : (s : List ℕ) (n : ℕ) → length s ≤ n → padded n s ≡ laid s (replicate n 0)
padded_whole s n h = ap (λ (b : List ℕ). laid b (replicate n 0)) (take_all n s h)

-- where all of the bytes fit, all are laid
pub all_fit : (bytes at room : ℕ) → at + bytes ≤ room → fitting bytes at room ≡ bytes
unfolding fitting
all_fit bytes at room h = omega arith

-- one paste more, right after another: where both fit, they are one
paste_next : (d a b u v : List ℕ) (at : ℕ) → at + length a + length b ≤ length d → u ≡ paste d at a (length a) → v ≡ paste u (at + length a) b (fitting (length b) (at + length a) (length u)) → v ≡ paste d at (a ++ b) (length (a ++ b))
paste_next d a b u v at h q next =
    next ∙ ap (paste u (at + length a) b) (all_fit (length b) (at + length a) (length u) (rw (q, length-paste d at a (length a) (omega arith) (omega arith)) h)) ∙ ap (λ (x : List ℕ). paste x (at + length a) b (length b)) q ∙ paste_more d a b at h

-- one paste more, right before another: the same
pub paste_before : (d a b u v : List ℕ) (at : ℕ) → at + length a + length b ≤ length d → u ≡ paste d (at + length a) b (fitting (length b) (at + length a) (length d)) → v ≡ paste u at a (fitting (length a) at (length u)) → v ≡ paste d at (a ++ b) (length (a ++ b))
paste_before d a b u v at h first next =
    next ∙ ap (paste u at a) (all_fit (length a) at (length u) (rw (ap length pasted ∙ length-paste d (at + length a) b (length b) (omega (arith, h)) (omega arith)) (omega (arith, h)))) ∙ rw (front, behind, take-length a, take-length b, take-length (a ++ b), length-append a b, ← add_assoc at (length a) (length b)) joined
  where
    pasted : u ≡ paste d (at + length a) b (length b)
    pasted = first ∙ ap (paste d (at + length a) b) (all_fit (length b) (at + length a) (length d) h)

    front : take at u ≡ take at d
    front = ap (take at) pasted ∙ run_alike (paste d (at + length a) b (length b)) d 0 at (rw (length-paste d (at + length a) b (length b) (omega (arith, h)) (omega arith)) (omega (arith, h))) (omega (arith, h)) (λ i l r. paste_out d b (at + length a) (length b) i (omega (arith, h)) (omega arith) (inl (omega (arith, r))))

    behind : drop (at + length a) u ≡ take (length b) b ++ drop (at + length a + length b) d
    behind = ap (drop (at + length a)) pasted ∙ rw (append_assoc (take (at + length a) d) (take (length b) b) (drop (at + length a + length b) d)) (drop_at (take (at + length a) d) (take (length b) b ++ drop (at + length a + length b) d) (at + length a) (length-take-le (at + length a) d (omega (arith, h))))

    joined : take at d ++ a ++ (b ++ drop (at + length a + length b) d) ≡ take at d ++ (a ++ b) ++ drop (at + length a + length b) d
    joined = sym (append_assoc (take at d ++ a) b (drop (at + length a + length b) d)) ∙ ap (λ (r : List ℕ). r ++ drop (at + length a + length b) d) (append_assoc (take at d) a b)

-- one lay more, right after what was laid
pub laid_next : (a b o u v : List ℕ) (at : ℕ) → at ≡ length a → length a + length b ≤ length o → u ≡ laid a o → v ≡ paste u at b (fitting (length b) at (length u)) → v ≡ laid (a ++ b) o
laid_next a b o u v at e h q next =
    paste_next o a b u v 0 (omega arith) (q ∙ laid_pasted a o) (next ∙ ap (λ (k : ℕ). paste u k b (fitting (length b) k (length u))) (e ∙ sym (zero-add (length a)))) ∙ sym (laid_pasted (a ++ b) o)

-- the front of what was laid
pub taken_laid : (a o : List ℕ) → take (length a) (laid a o) ≡ a
taken_laid a o = take_at a (drop (length a) o) (length a) refl

-- the front of a list is the same where its length is cut at the length of the whole
pub front_cut : (a : List ℕ) (m n k : ℕ) → length a ≡ k → m ≡ min n k → take m a ≡ take n a
front_cut a m n k l e = go (ltb k n) refl
  where
    go : (b : Bool) → ltb k n ≡ b → take m a ≡ take n a
    go true h = take_all m a (omega (arith, ltb-true k n h)) ∙ sym (take_all n a (omega (arith, ltb-true k n h)))
    go false h = ap (λ (x : ℕ). take x a) (let q : m ≡ n = omega (arith, ltb-false k n h) in q)
