-- One type put into an open byte where it is new: what stays, that no type stands twice, and how the marks tell those that stand.
use Prim.Native.Nat.{ℕ, ◌+◌, ◌≤◌, ◌<◌}
use native.Mathlib.Omega.{arith}
use native.Mathlib.Numerals.{add-one}
use native.Mathlib.Decide.{ℕ_discrete, dec_lt}
use mathlib.Core.Path.{◌≡◌, refl, sym, subst, ap, ◌∙◌}
use mathlib.Core.Logic.{◌⊎◌, inl, inr}
use mathlib.Core.Bool.{Bool, true, false, ◌||◌, false≢true}
use mathlib.Core.List.{List, ◌∷◌}
use lib.Dec.{eqb}
use lib.ListN.{length, get_or, set, length-set}
use lib.Seq.{get_or-set_same, get_or-set_other, set_out}
use borrow.Author.Tests.{eqb-true, eq-eqb}
use Rattle.ground.specs.Choose.{choose}
use Rattle.ground.specs.Below.{among}
use Rattle.ground.proofs.Choices.{of_choice, or_left, or_right, either, alike}
use Rattle.ground.proofs.Members.{member_at, member_stands, member_put, member_stays, member_was}
use Rattle.board.specs.Types.{is_new, Marks, is_unmarked}
use Rattle.board.proofs.Types.{OneMore, new_type, is_new_lem, unmarked_new, marks_more}

-- where each byte stays, each type does
pub types_stay : (l m : List ℕ) → ((j : ℕ) → 0 < get_or l j 0 → get_or m j 0 ≡ get_or l j 0) → (k : ℕ) → 0 < k → among k l ≡ true → among k m ≡ true
types_stay l m kept k p h = let found = member_at k l h in member_stands m found.0 k p (kept found.0 (omega (arith, p, found.2)) ∙ found.2)

-- each type stands once; 0 is nobody's
abbrev pub Once : List ℕ → Type 0
Once bytes = (i j : ℕ) → 0 < get_or bytes i 0 → get_or bytes i 0 ≡ get_or bytes j 0 → i ≡ j

-- the bytes of a condensed list, as far as they are written: fifteen, no type twice, and none but those of the column
pub record Built (kinds bytes : List ℕ) : Type 0 where
  pub size : length bytes ≡ 15
  pub once : Once bytes
  pub within : (k : ℕ) → 0 < k → among k bytes ≡ true → among k kinds ≡ true

-- a byte is open where it is 0, and so is what is past the bytes: there nothing is written
module _ (bytes : List ℕ) (i kind : ℕ) (free : get_or bytes i 0 ≡ 0) where
  -- a byte that is not open stays
  pub placed_stays : (b : Bool) (j : ℕ) → 0 < get_or bytes j 0 → get_or (choose b (set bytes i kind) bytes) j 0 ≡ get_or bytes j 0
  unfolding choose
  placed_stays true j h = get_or-set_other bytes i j kind 0 (λ e. omega (arith, h, free, ap (λ (k : ℕ). get_or bytes k 0) e))
  placed_stays false j h = refl

  -- what stands at the byte now is the type
  put_there : 0 < get_or (set bytes i kind) i 0 → get_or (set bytes i kind) i 0 ≡ kind
  put_there p = go (dec_lt i (length bytes))
    where
      go : Dec (i < length bytes) → get_or (set bytes i kind) i 0 ≡ kind
      go (yes h) = get_or-set_same bytes i kind 0 h
      go (no h) = absurd (let z : ⊥ = omega (arith, p, free, ap (λ (l : List ℕ). get_or l i 0) (set_out bytes i kind (let q : length bytes ≤ i = omega (arith, h) in q))) in z)

  -- and no other byte has it
  put_once : is_new bytes kind ≡ true → Once bytes → Once (set bytes i kind)
  put_once new once x y p e = go (ℕ_discrete x i) (ℕ_discrete y i)
    where
      after : ℕ → ℕ
      after j = get_or (set bytes i kind) j 0

      other : (z : ℕ) → (z ≡ i → ⊥) → after z ≡ get_or bytes z 0
      other z ne = get_or-set_other bytes i z kind 0 ne

      twice : (z : ℕ) → (z ≡ i → ⊥) → 0 < after i → after i ≡ after z → ⊥
      twice z ne q same = false≢true (sym (new_type bytes kind new).1 ∙ member_stands bytes z kind (new_type bytes kind new).0 (sym (other z ne) ∙ sym same ∙ put_there q))

      go : Dec (x ≡ i) → Dec (y ≡ i) → x ≡ y
      go (yes a) (yes b) = a ∙ sym b
      go (yes a) (no nb) = absurd (twice y nb (subst (λ (z : ℕ). 0 < after z) a p) (ap after (sym a) ∙ e))
      go (no na) (yes b) = absurd (twice x na (subst (λ (n : ℕ). 0 < n) (e ∙ ap after b) p) (ap after (sym b) ∙ sym e))
      go (no na) (no nb) = once x y (subst (λ (n : ℕ). 0 < n) (other x na) p) (sym (other x na) ∙ e ∙ other y nb)

  -- what is built stays so
  pub placed_built : {kinds : List ℕ} → Built kinds bytes → (0 < kind → among kind kinds ≡ true) → (b : Bool) → (b ≡ true → is_new bytes kind ≡ true) → Built kinds (choose b (set bytes i kind) bytes)
  unfolding choose
  placed_built {kinds} m listed true new = record { size = length-set bytes i kind ∙ m.size; once = put_once (new refl) m.once; within = λ k p h. go k p (member_was bytes i kind k h) }
    where
      go : (k : ℕ) → 0 < k → (k ≡ kind) ⊎ (among k bytes ≡ true) → among k kinds ≡ true
      go k p (inl e) = ap (λ (x : ℕ). among x kinds) e ∙ listed (omega (arith, p, e))
      go k p (inr h) = m.within k p h
  placed_built m listed false new = m

  -- the types that stand are those that stood, and this one
  pub placed_more : i < length bytes → OneMore bytes kind (choose (is_new bytes kind) (set bytes i kind) bytes)
  unfolding choose
  placed_more fits k p = go (is_new bytes kind) refl
    where
      met : (k ≡ kind) ⊎ (among k bytes ≡ true) → (among k bytes || eqb k kind) ≡ true
      met (inl e) = or_right (among k bytes) (eqb k kind) (eq-eqb k kind e)
      met (inr h) = or_left (among k bytes) (eqb k kind) h

      put : (among k bytes ≡ true) ⊎ (eqb k kind ≡ true) → among k (set bytes i kind) ≡ true
      put (inl h) = member_stays bytes i kind k (λ e. omega (arith, p, free, e)) h
      put (inr e) = ap (λ (x : ℕ). among x (set bytes i kind)) (eqb-true k kind e) ∙ member_put bytes i kind fits

      old : is_new bytes kind ≡ false → (among k bytes ≡ true) ⊎ (eqb k kind ≡ true) → among k bytes ≡ true
      old e (inl h) = h
      old e (inr h) = stood (among k bytes) refl
        where
          stood : (b : Bool) → among k bytes ≡ b → b ≡ true
          stood true z = refl
          stood false z = absurd (false≢true (sym e ∙ ap (is_new bytes) (sym (eqb-true k kind h)) ∙ is_new_lem bytes k p z))

      go : (b : Bool) → is_new bytes kind ≡ b → among k (choose b (set bytes i kind) bytes) ≡ (among k bytes || eqb k kind)
      go true e = alike _ _ (λ h. met (member_was bytes i kind k h)) (λ h. put (either (among k bytes) (eqb k kind) h))
      go false e = alike _ _ (or_left (among k bytes) (eqb k kind)) (λ h. old e (either (among k bytes) (eqb k kind) h))

-- the list that the code holds is byte 0 and these, and their types are marked
abbrev pub Noted : ℕ → List ℕ → List ℕ → List ℕ → Type 0
Noted internal bytes list marks = (list ≡ internal ∷ bytes) × Marks bytes marks

-- one type is marked, and put at an open byte where it was not marked before
pub noted_more : (internal : ℕ) (bytes : List ℕ) (i kind : ℕ) → get_or bytes i 0 ≡ 0 → i < length bytes → {list marks : List ℕ} → Noted internal bytes list marks → kind < 256 → {r : Bool} {marked after : List ℕ} → r ≡ is_unmarked marks kind → marked ≡ set marks kind 1 → after ≡ choose r (set list (i + 1) kind) list → Noted internal (choose (is_new bytes kind) (set bytes i kind) bytes) after marked
noted_more internal bytes i kind free fits {list} {marks} (held, m) byte {r} seen marked put =
    (put ∙ ap (λ (l : List ℕ). choose r (set l (i + 1) kind) l) held ∙ ap (λ (n : ℕ). choose r (set (internal ∷ bytes) n kind) (internal ∷ bytes)) (add-one i) ∙ ap (λ (b : Bool). choose b (internal ∷ set bytes i kind) (internal ∷ bytes)) (seen ∙ unmarked_new m kind byte) ∙ sym (of_choice (λ (l : List ℕ). internal ∷ l) (is_new bytes kind) (set bytes i kind) bytes), subst (Marks (choose (is_new bytes kind) (set bytes i kind) bytes)) (sym marked) (marks_more m kind byte _ (placed_more bytes i kind free fits)))
