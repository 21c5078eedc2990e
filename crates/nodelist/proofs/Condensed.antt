-- The laws of the condensed list: its sixteen bytes, no type twice, each board that stands at its position, and every listed type where fifteen are enough.
use Prim.Native.Nat.{ℕ, zero, suc, ◌+◌, ◌≤◌, ◌<◌}
use native.Mathlib.Omega.{arith}
use native.Mathlib.Decide.{ℕ_discrete}
use mathlib.Core.Path.{◌≡◌, refl, sym, ap, ◌∙◌}
use mathlib.Core.Logic.{◌⊎◌, inl, inr}
use mathlib.Core.Bool.{Bool, true, false, ◌&&◌, false≢true}
use mathlib.Core.List.{List, [], ◌∷◌}
use lib.Dec.{eqb}
use lib.ListN.{length, get_or, set, drop, replicate, get_or-eq_default}
use lib.Seq.{get_or-set_same, get_or-set_other}
use borrow.Author.Tests.{eqb-true, eqb-false, eq-eqb}
use Rattle.ground.specs.Choose.{choose}
use Rattle.ground.specs.Below.{one, among}
use Rattle.ground.proofs.Choices.{and_left, and_right, both, or_right, either, never, alike}
use Rattle.ground.proofs.Firsts.{None, FirstCase, first_case}
use Rattle.ground.proofs.Members.{member_at, member_stands, member_was}
use Rattle.ground.proofs.Runs.{run_same}
use Rattle.board.specs.Node.{is_old}
use Rattle.board.specs.Types.{is_new, type_count}
use Rattle.board.proofs.Types.{is_new_lem, types_within}
use Rattle.nodelist.specs.Condensed.{standing_to, open_byte, filled_to, condensed}
use Rattle.nodelist.proofs.Placed.{Once, Built, types_stay, placed_stays, placed_built, placed_more}

-- a byte that stays at each step stays over many
lasting : (s : ℕ → List ℕ) → ((i j : ℕ) → 0 < get_or (s i) j 0 → get_or (s (suc i)) j 0 ≡ get_or (s i) j 0) → (m n j : ℕ) → m ≤ n → 0 < get_or (s m) j 0 → get_or (s n) j 0 ≡ get_or (s m) j 0
lasting s step m zero j l p = ap (λ (n : ℕ). get_or (s n) j 0) (let e : 0 ≡ m = omega (arith, l) in e)
lasting s step m (suc n) j l p = go (ℕ_discrete m (suc n)) (λ (h : m ≤ n). lasting s step m n j h p)
  where
    go : Dec (m ≡ suc n) → (m ≤ n → get_or (s n) j 0 ≡ get_or (s m) j 0) → get_or (s (suc n)) j 0 ≡ get_or (s m) j 0
    go (yes e) r = ap (λ (x : ℕ). get_or (s x) j 0) (sym e)
    go (no ne) r = let before : get_or (s n) j 0 ≡ get_or (s m) j 0 = r (omega (arith, l, ne)) in step n j (omega (arith, p, before)) ∙ before

-- before the first pass all fifteen are open, and no type stands
abbrev pub all_free : List ℕ
all_free = replicate 15 0

free_at : (i : ℕ) → get_or all_free i 0 ≡ 0
free_at i = run_same 0 15 i

pub free_none : (k : ℕ) → 0 < k → among k all_free ≡ false
free_none k p = never (among k all_free) (λ h. let found = member_at k all_free h in let z : ⊥ = omega (arith, p, found.2, free_at found.0) in z)

free_built : (kinds : List ℕ) → Built kinds all_free
free_built kinds = record { size = refl; once = λ i j p e. absurd (let z : ⊥ = omega (arith, p, free_at i) in z); within = λ k p h. absurd (false≢true (sym (free_none k p) ∙ h)) }

-- the first pass: 1.0 boards at their positions
module _ (kinds versions : List ℕ) where
  -- the bytes from i on are open yet
  pub standing_free : (i j : ℕ) → i ≤ j → get_or (standing_to kinds versions i) j 0 ≡ 0
  unfolding standing_to choose
  standing_free zero j l = free_at j
  standing_free (suc i) j l = go (is_old (get_or versions i 0) && is_new (standing_to kinds versions i) (get_or kinds i 0)) (standing_free i j (omega (arith, l)))
    where
      go : (b : Bool) → get_or (standing_to kinds versions i) j 0 ≡ 0 → get_or (choose b (set (standing_to kinds versions i) i (get_or kinds i 0)) (standing_to kinds versions i)) j 0 ≡ 0
      go true r = get_or-set_other (standing_to kinds versions i) i j (get_or kinds i 0) 0 (λ e. omega (arith, l, e)) ∙ r
      go false r = r

  pub standing_built : (i : ℕ) → Built kinds (standing_to kinds versions i)
  unfolding standing_to
  standing_built zero = free_built kinds
  standing_built (suc i) = placed_built (standing_to kinds versions i) i (get_or kinds i 0) (standing_free i i (omega arith)) (standing_built i) (λ p. member_stands kinds i (get_or kinds i 0) p refl) _ (and_right (is_old (get_or versions i 0)) (is_new (standing_to kinds versions i) (get_or kinds i 0)))

  standing_lasts : (m n j : ℕ) → m ≤ n → 0 < get_or (standing_to kinds versions m) j 0 → get_or (standing_to kinds versions n) j 0 ≡ get_or (standing_to kinds versions m) j 0
  unfolding standing_to
  standing_lasts = lasting (standing_to kinds versions) (λ i j. placed_stays (standing_to kinds versions i) i (get_or kinds i 0) (standing_free i i (omega arith)) _ j)

  -- a type that stands is a lower 1.0 board's
  standing_whose : (i k : ℕ) → 0 < k → among k (standing_to kinds versions i) ≡ true → (j : ℕ) × (j < i) × (get_or versions j 0 ≡ 1) × (get_or kinds j 0 ≡ k)
  unfolding standing_to choose
  standing_whose zero k p h = absurd (false≢true (sym (free_none k p) ∙ h))
  standing_whose (suc i) k p h = go (is_old (get_or versions i 0) && is_new (standing_to kinds versions i) (get_or kinds i 0)) refl h (λ r. later (standing_whose i k p r))
    where
      Whose : ℕ → Type 0
      Whose n = (j : ℕ) × (j < n) × (get_or versions j 0 ≡ 1) × (get_or kinds j 0 ≡ k)

      later : Whose i → Whose (suc i)
      later (j, l, old, e) = (j, omega (arith, l), old, e)

      put : is_old (get_or versions i 0) ≡ true → (k ≡ get_or kinds i 0) ⊎ (among k (standing_to kinds versions i) ≡ true) → (among k (standing_to kinds versions i) ≡ true → Whose (suc i)) → Whose (suc i)
      put old (inl e) r = (i, omega arith, eqb-true (get_or versions i 0) 1 old, sym e)
      put old (inr before) r = r before

      go : (b : Bool) → (is_old (get_or versions i 0) && is_new (standing_to kinds versions i) (get_or kinds i 0)) ≡ b → among k (choose b (set (standing_to kinds versions i) i (get_or kinds i 0)) (standing_to kinds versions i)) ≡ true → (among k (standing_to kinds versions i) ≡ true → Whose (suc i)) → Whose (suc i)
      go true e m r = put (and_left _ _ e) (member_was (standing_to kinds versions i) i (get_or kinds i 0) k m) r
      go false e m r = r m

  -- so the first 1.0 board of a type stands at its position
  standing_first : (i : ℕ) → i < 15 → get_or versions i 0 ≡ 1 → 0 < get_or kinds i 0 → ((j : ℕ) → j < i → get_or versions j 0 ≡ 1 → get_or kinds j 0 ≡ get_or kinds i 0 → ⊥) → get_or (standing_to kinds versions 15) i 0 ≡ get_or kinds i 0
  unfolding standing_to choose
  standing_first i l old listed first = standing_lasts (suc i) 15 i (omega (arith, l)) (omega (arith, listed, here)) ∙ here
    where
      apart : among (get_or kinds i 0) (standing_to kinds versions i) ≡ false
      apart = never _ (λ h. let w = standing_whose i (get_or kinds i 0) listed h in first w.0 w.1 w.2 w.3)

      new : (is_old (get_or versions i 0) && is_new (standing_to kinds versions i) (get_or kinds i 0)) ≡ true
      new = both _ _ (eq-eqb (get_or versions i 0) 1 old) (is_new_lem (standing_to kinds versions i) (get_or kinds i 0) listed apart)

      here : get_or (standing_to kinds versions (suc i)) i 0 ≡ get_or kinds i 0
      here = ap (λ (b : Bool). get_or (choose b (set (standing_to kinds versions i) i (get_or kinds i 0)) (standing_to kinds versions i)) i 0) new ∙ get_or-set_same (standing_to kinds versions i) i (get_or kinds i 0) 0 (omega (arith, l, (standing_built i).size))

-- the lowest open byte is open; past the bytes where none is
pub open_free : (bytes : List ℕ) → length bytes ≡ 15 → get_or bytes (open_byte bytes) 0 ≡ 0
open_free bytes size = go (first_case 15 (λ i. eqb (get_or bytes i 0) 0) 0 15)
  where
    go : FirstCase 15 (λ i. eqb (get_or bytes i 0) 0) 0 15 (open_byte bytes) → get_or bytes (open_byte bytes) 0 ≡ 0
    go (inl (none, e)) = get_or-eq_default bytes 0 (let q : length bytes ≤ open_byte bytes = omega (arith, size, e) in q)
    go (inr f) = eqb-true (get_or bytes (open_byte bytes) 0) 0 f.passes

-- where none is open and no type stands twice, there are as many types as bytes
full : (bytes : List ℕ) → Once bytes → ((j : ℕ) → j < length bytes → 0 < get_or bytes j 0) → type_count bytes ≡ length bytes
unfolding type_count
full [] once taken = refl
full (x ∷ bytes) once taken = ap (λ (b : Bool). type_count bytes + one b) new ∙ omega (arith, full bytes (λ i j p e. let q : suc i ≡ suc j = once (suc i) (suc j) p e in omega (arith, q)) (λ j l. taken (suc j) (omega (arith, l))))
  where
    apart : among x bytes ≡ true → ⊥
    apart h = let found = member_at x bytes h in let q : 0 ≡ suc found.0 = once 0 (suc found.0) (taken 0 (omega arith)) (sym found.2) in omega (arith, q)

    new : is_new bytes x ≡ true
    new = is_new_lem bytes x (taken 0 (omega arith)) (never _ apart)

-- where none is open and there are at most fifteen types, every one of them stands: one besides would be the sixteenth
none_besides : (kinds bytes : List ℕ) → Built kinds bytes → type_count kinds ≤ 15 → None (λ i. eqb (get_or bytes i 0) 0) 0 15 → (k : ℕ) → 0 < k → among k kinds ≡ true → among k bytes ≡ true
unfolding type_count among
none_besides kinds bytes m few none k p listed = go (among k bytes) refl
  where
    fifteen : type_count bytes ≡ 15
    fifteen = full bytes m.once (λ j l. let ne : get_or bytes j 0 ≡ 0 → ⊥ = eqb-false (get_or bytes j 0) 0 (none j (omega arith) (omega (arith, l, m.size))) in omega (arith, ne)) ∙ m.size

    within : (x : ℕ) → 0 < x → (eqb x k ≡ true) ⊎ (among x bytes ≡ true) → among x kinds ≡ true
    within x q (inl e) = ap (λ (y : ℕ). among y kinds) (eqb-true x k e) ∙ listed
    within x q (inr h) = m.within x q h

    go : (b : Bool) → among k bytes ≡ b → b ≡ true
    go true e = refl
    go false e = absurd (let z : ⊥ = omega (arith, few, fifteen, ap one (is_new_lem bytes k p e), types_within kinds (k ∷ bytes) (λ x q h. within x q (either (eqb x k) (among x bytes) h))) in z)

-- the second pass: every other type into the lowest open byte
module _ (kinds bytes : List ℕ) (start : Built kinds bytes) where
  pub filled_built : (i : ℕ) → Built kinds (filled_to bytes kinds i)
  unfolding filled_to
  filled_built zero = start
  filled_built (suc i) = placed_built (filled_to bytes kinds i) (open_byte (filled_to bytes kinds i)) (get_or kinds i 0) (open_free (filled_to bytes kinds i) (filled_built i).size) (filled_built i) (λ p. member_stands kinds i (get_or kinds i 0) p refl) _ (λ e. e)

  filled_lasts : (m n j : ℕ) → m ≤ n → 0 < get_or (filled_to bytes kinds m) j 0 → get_or (filled_to bytes kinds n) j 0 ≡ get_or (filled_to bytes kinds m) j 0
  unfolding filled_to
  filled_lasts = lasting (filled_to bytes kinds) (λ i j. placed_stays (filled_to bytes kinds i) (open_byte (filled_to bytes kinds i)) (get_or kinds i 0) (open_free (filled_to bytes kinds i) (filled_built i).size) _ j)

  -- with at most fifteen types, the type of each position stands once it was met
  filled_has : type_count kinds ≤ 15 → (i : ℕ) → 0 < get_or kinds i 0 → among (get_or kinds i 0) (filled_to bytes kinds (suc i)) ≡ true
  unfolding filled_to
  filled_has few i p = go (first_case 15 (λ j. eqb (get_or now j 0) 0) 0 15)
    where
      now : List ℕ
      now = filled_to bytes kinds i

      k : ℕ
      k = get_or kinds i 0

      m : Built kinds now
      m = filled_built i

      next : List ℕ
      next = filled_to bytes kinds (suc i)

      go : FirstCase 15 (λ j. eqb (get_or now j 0) 0) 0 15 (open_byte now) → among k next ≡ true
      go (inl (none, e)) = types_stay now next (λ j. filled_lasts i (suc i) j (omega arith)) k p (none_besides kinds now m few none k p (member_stands kinds i k p refl))
      go (inr f) = placed_more now (open_byte now) k (open_free now m.size) (omega (arith, f.within, m.size)) k p ∙ or_right (among k now) (eqb k k) (eq-eqb k k refl)

-- sixteen bytes, byte 0 the internal type
pub condensed_size : (internal : ℕ) (kinds versions : List ℕ) → length (condensed internal kinds versions) ≡ 16
unfolding condensed
condensed_size internal kinds versions = omega (arith, (filled_built kinds (standing_to kinds versions 15) (standing_built kinds versions 15) 40).size)

pub condensed_first : (internal : ℕ) (kinds versions : List ℕ) → get_or (condensed internal kinds versions) 0 0 ≡ internal
unfolding condensed
condensed_first internal kinds versions = refl

-- no type stands twice past byte 0 (000, 8.1.2.4: "Only one indication of a node type is allowed")
pub condensed_once : (internal : ℕ) (kinds versions : List ℕ) (i j : ℕ) → 0 < i → 0 < j → 0 < get_or (condensed internal kinds versions) i 0 → get_or (condensed internal kinds versions) i 0 ≡ get_or (condensed internal kinds versions) j 0 → i ≡ j
unfolding condensed
condensed_once internal kinds versions zero j a b p e = absurd (let z : ⊥ = omega (arith, a) in z)
condensed_once internal kinds versions (suc i) zero a b p e = absurd (let z : ⊥ = omega (arith, b) in z)
condensed_once internal kinds versions (suc i) (suc j) a b p e = ap suc ((filled_built kinds (standing_to kinds versions 15) (standing_built kinds versions 15) 40).once i j p e)

-- past byte 0 each type of a column of forty is told, where there are at most fifteen, and no other
pub condensed_types : (internal : ℕ) (kinds versions : List ℕ) → length kinds ≤ 40 → type_count kinds ≤ 15 → (k : ℕ) → 0 < k → among k (drop 1 (condensed internal kinds versions)) ≡ among k kinds
unfolding condensed
condensed_types internal kinds versions size few k p = alike _ _ ((filled_built kinds start (standing_built kinds versions 15) 40).within k p) told
  where
    start : List ℕ
    start = standing_to kinds versions 15

    told : among k kinds ≡ true → among k (filled_to start kinds 40) ≡ true
    told h =
        let found = member_at k kinds h in
        types_stay (filled_to start kinds (suc found.0)) (filled_to start kinds 40) (λ j. filled_lasts kinds start (standing_built kinds versions 15) (suc found.0) 40 j (omega (arith, found.1, size))) k p (ap (λ (x : ℕ). among x (filled_to start kinds (suc found.0))) (sym found.2) ∙ filled_has kinds start (standing_built kinds versions 15) few found.0 (omega (arith, p, found.2)))

-- the first 1.0 board of a type, at index i below fifteen, stands at byte i + 1
pub condensed_standing : (internal : ℕ) (kinds versions : List ℕ) (i : ℕ) → i < 15 → get_or versions i 0 ≡ 1 → 0 < get_or kinds i 0 → ((j : ℕ) → j < i → get_or versions j 0 ≡ 1 → get_or kinds j 0 ≡ get_or kinds i 0 → ⊥) → get_or (condensed internal kinds versions) (suc i) 0 ≡ get_or kinds i 0
unfolding condensed filled_to
condensed_standing internal kinds versions i l old listed first =
    let here : get_or (standing_to kinds versions 15) i 0 ≡ get_or kinds i 0 = standing_first kinds versions i l old listed first in
    filled_lasts kinds (standing_to kinds versions 15) (standing_built kinds versions 15) 0 40 i (omega arith) (omega (arith, listed, here)) ∙ here
