-- The laws of words: where a byte stands first, and which word begins at a place of a line.
use Prim.Native.Nat.{ℕ, ◌+◌, ◌-◌, ◌≤◌, ◌<◌}
use native.Mathlib.Omega.{arith}
use mathlib.Core.Path.{◌≡◌, refl, sym, ap, ◌∙◌}
use mathlib.Core.List.{List}
use mathlib.Core.Logic.{◌↔◌}
use mathlib.Core.Bool.{Bool, true, false, ◌&&◌, false≢true}
use native.Mathlib.Decide.{dec_lt}
use lib.ListN.{length, get_or, take, drop}
use lib.Seq.{ext_get_or}
use lib.Dec.{eqb, ltb}
use borrow.Author.Tests.{lt-ltb, le-ltb, ltb-true, eq-eqb, ne_eqb, eqb-true}
use Rattle.std.specs.Prelude.{Option, Some, None, nat_eq, not, unwrap_or, position}
use Rattle.std.specs.List.{position_or_len}
use Rattle.std.specs.Cmp.Lexicographic.{pointwise, same_text, other_text}
use Rattle.std.proofs.lemmas.List.Sums.{fails_before_first, passes_at_first, prefix_len-le-length}
use Rattle.io.specs.Counts.{IsPrefixLen}
use Rattle.io.proofs.Counting.{prefix_len_of_le}
use Rattle.ground.proofs.Firsts.{first_is, none_is}
use Rattle.ground.specs.Below.{all}
use Rattle.ground.proofs.Loops.{all_at, all_of}
use Rattle.ground.proofs.Choices.{choose_yes, choose_no, and_left, and_right, both}
use Rattle.ground.proofs.Runs.{rest_is}
use Rattle.script.specs.Words.{is_at, before, same, part_at, part_from}

-- what code reads from a place of the line on
abbrev pub rest : List ℕ → ℕ → List ℕ
rest line at = take (length line - at) (drop at line)

-- the byte is none of the first i
abbrev pub NoneBefore : ℕ → List ℕ → ℕ → Type 0
NoneBefore mark text i = (k : ℕ) → k < i → get_or text k 0 ≡ mark → ⊥

pub before_found : (mark : ℕ) (text : List ℕ) (i : ℕ) → NoneBefore mark text i → i < length text → get_or text i 0 ≡ mark → i ≡ before mark text
unfolding before
before_found mark text i none l e =
    sym (first_is (length text) (is_at mark text) 0 (length text) i (record { from = omega arith; within = omega arith; passes = eq-eqb _ _ e; before = λ k a b. ne_eqb _ _ (none k b) }))

pub before_none : (mark : ℕ) (text : List ℕ) (i : ℕ) → NoneBefore mark text i → i ≤ length text → length text ≤ i → i ≡ before mark text
unfolding before
before_none mark text i none a b =
    (let e : i ≡ length text = omega arith in e) ∙ sym (none_is (length text) (is_at mark text) 0 (length text) (λ k h l. ne_eqb _ _ (none k (omega arith))))

-- what the library's search answers, made a count, is the count of bytes before the first
pub before_told : (mark : ℕ) (text : List ℕ) (p : Option ℕ) (n : ℕ) → p ≡ position (λ b. eqb b mark) text → n ≡ unwrap_or p (length text) → (n ≡ before mark text) × IsPrefixLen n text
before_told mark text p n h e = go (dec_lt first (length text))
  where
    first : ℕ
    first = position_or_len (λ b. eqb b mark) text

    none : NoneBefore mark text first
    none k l q = false≢true (sym (fails_before_first (λ b. eqb b mark) text k 0 l) ∙ eq-eqb _ _ q)

    go : Dec (first < length text) → (n ≡ before mark text) × IsPrefixLen n text
    go (yes l) =
        let found : p ≡ Some first = h ∙ rw (lt-ltb first (length text) l) refl in
        let told : n ≡ first = e ∙ rw found refl in
        (told ∙ before_found mark text first none l (eqb-true _ _ (passes_at_first (λ b. eqb b mark) text 0 l)), prefix_len_of_le n text (omega arith))
    go (no f) =
        let most = prefix_len-le-length (λ b. not (eqb b mark)) text in
        let found : p ≡ None = h ∙ rw (le-ltb first (length text) (omega arith)) refl in
        let told : n ≡ length text = e ∙ rw found refl in
        ((let z : n ≡ first = omega arith in z) ∙ before_none mark text first none most (omega arith), prefix_len_of_le n text (omega arith))

-- the part at a place, as it is read: past the text's end, or the n bytes that begin there
pub no_part : (mark : ℕ) (text : List ℕ) (at : ℕ) → length text < at → None ≡ part_from mark text at
no_part mark text at l = choose_yes _ _ _ _ (lt-ltb _ _ l) refl

-- and none begins past its end alone
pub past_end : (mark : ℕ) (text : List ℕ) (at : ℕ) → None ≡ part_from mark text at → length text < at
past_end mark text at e = go (ltb (length text) at) refl
  where
    go : (b : Bool) → ltb (length text) at ≡ b → length text < at
    go true h = ltb-true _ _ h
    go false h =
        let there : Some (part_at mark text at, at + length (part_at mark text at) + 1) ≡ part_from mark text at = choose_no _ _ _ _ h refl in
        absurd (let z : ⊥ = cc in z)

pub part_there : (mark : ℕ) (text r : List ℕ) (at n : ℕ) → at ≤ length text → r ≡ rest text at → n ≡ before mark r → n ≡ length (take n r) → Some (take n r, at + n + 1) ≡ part_from mark text at
part_there mark text r at n within e b l =
    let part : take n r ≡ part_at mark text at = ap (λ (m : ℕ). take m r) b ∙ ap (λ (s : List ℕ). take (before mark s) s) (e ∙ rest_is text at) in
    choose_no _ _ _ _ (le-ltb _ _ within) (ap (λ (m : ℕ). Some (take n r, at + m + 1)) l ∙ ap (λ (w : List ℕ). Some (w, at + length w + 1)) part)

-- two words compare as one exactly where they are one
pub same_exactly : (a b : List ℕ) → (same a b ≡ true) ↔ (a ≡ b)
unfolding same
same_exactly a b = (told, λ e. rw e (both (eqb (length b) (length b)) (all (λ j. eqb (get_or b j 0) (get_or b j 0)) (length b)) (eq-eqb (length b) (length b) refl) (all_of (λ j. eqb (get_or b j 0) (get_or b j 0)) (length b) (λ i l. eq-eqb (get_or b i 0) (get_or b i 0) refl))))
  where
    long : Bool
    long = eqb (length a) (length b)

    alike : ℕ → Bool
    alike j = eqb (get_or a j 0) (get_or b j 0)

    told : (long && all alike (length b)) ≡ true → a ≡ b
    told h =
        let e = eqb-true (length a) (length b) (and_left long (all alike (length b)) h) in
        ext_get_or 0 a b e (λ i l. eqb-true _ _ (all_at alike (length b) i (and_right long (all alike (length b)) h) (omega arith)))

-- so they compare as the library compares them
pub same_told : (a b : List ℕ) (r : Bool) → r ≡ pointwise nat_eq a b → r ≡ same a b
same_told a b true e = sym ((same_exactly a b).1 (same_text a b e))
same_told a b false e = go (same a b) refl
  where
    go : (t : Bool) → same a b ≡ t → false ≡ same a b
    go true h = absurd (other_text a b e ((same_exactly a b).0 h))
    go false h = sym h
