-- Records that are edited one after another: one of them, none, or all.
use Prim.Native.Nat.{ℕ, zero, suc, ◌+◌, ◌-◌, ◌≤◌, ◌<◌, min}
use native.Mathlib.Omega.{arith}
use mathlib.Core.Path.{◌≡◌, refl, sym, ap, ◌∙◌}
use mathlib.Core.Bool.{Bool, true, false}
use mathlib.Core.List.{List, [], ◌∷◌, ◌++◌, map, append-nil}
use lib.Dec.{leb}
use lib.ListN.{length, get_or, set, take, drop, length-set, drop_of_length-le}
use lib.Seq.{set_out, take-length}
use borrow.Author.Tests.{lt-ltb, leb-true, leb-false}
use Rattle.ground.specs.Choose.{choose}
use Rattle.board.specs.declared.Node.{Node}
use Rattle.board.specs.Node.{none}
use Rattle.board.specs.Table.{put}
use Rattle.board.specs.Index.{numbered}
use Rattle.board.specs.Change.{owe_all, relisted}
use Rattle.board.proofs.Positions.{at_position}
use Rattle.change.specs.declared.Edit.{Edit}
use Rattle.change.specs.declared.Edit.TheVariants.{Owed}
use Rattle.change.specs.declared.Change.{Change}
use Rattle.change.specs.Change.{edited, edited_at, amended}
use Rattle.change.proofs.Making.{edits_none}
use Rattle.place.specs.Place.{edited_in, edited_from, edited_between, numbered_first}
use Rattle.place.proofs.Numbers.{numbered_if}

-- as many records stay
pub length_edited : (t : List Node) (a j : ℕ) (e : Edit) → length (edited_from t a j e) ≡ length t
unfolding edited_from
length_edited t a zero e = refl
length_edited t a (suc j) e = length-set (edited_from t a j e) (a + j) _ ∙ length_edited t a j e

-- one record more, and none yet
pub edited_more : (t : List Node) (a i : ℕ) (e : Edit) (r : Node) → a ≤ i → r ≡ edited e (get_or (edited_from t a (i - a) e) i none) → set (edited_from t a (i - a) e) i r ≡ edited_from t a (i + 1 - a) e
unfolding edited_from
edited_more t a i e r h q =
    rw (let n : i + 1 - a ≡ suc (i - a) = omega arith in n)
    (ap (set (edited_from t a (i - a) e) i) q ∙ ap (λ (k : ℕ). edited_in (edited_from t a (i - a) e) k e) (let n : i ≡ a + (i - a) = omega arith in n))

pub edited_none : (t : List Node) (a : ℕ) (e : Edit) → t ≡ edited_from t a (a - a) e
unfolding edited_from
edited_none t a e = rw (let n : a - a ≡ 0 = omega arith in n) refl

-- up to 0 the records are as they were
pub nothing_edited : (t : List Node) (from : ℕ) (e : Edit) → edited_between t from 0 e ≡ t
unfolding edited_from
nothing_edited t from e = rw (let n : min (length t) 0 - from ≡ 0 = omega arith in n) refl

-- over one index the record at that position is edited, and none where the position is past the records
pub one_edited : (t : List Node) (p : ℕ) (e : Edit) → 1 ≤ p → edited_between t (p - 1) p e ≡ edited_at t p e
unfolding edited_from put choose
one_edited t p e h = go (leb p (length t)) refl
  where
    go : (b : Bool) → leb p (length t) ≡ b → edited_between t (p - 1) p e ≡ edited_at t p e
    go true q =
        let l : p ≤ length t = leb-true p (length t) q in
        rw (let n : min (length t) p - (p - 1) ≡ suc zero = omega (arith, h, l) in n, lt-ltb 0 p h, at_position t p h, let n : p - 1 + 0 ≡ p - 1 = omega arith in n) refl
    go false q =
        let l : length t < p = leb-false p (length t) q in
        rw (let n : min (length t) p - (p - 1) ≡ zero = omega (arith, l) in n, lt-ltb 0 p h) (sym (set_out t (p - 1) _ (omega (arith, l))))

-- over all of them each is edited
module _ (e : Edit) where
  abbrev front : List Node → ℕ → List Node
  front t j = map (edited e) (take j t) ++ drop j t

  front_more : (t : List Node) (j : ℕ) → j < length t → edited_in (front t j) j e ≡ front t (suc j)
  front_more [] j h = absurd (let z : ⊥ = omega arith in z)
  front_more (n ∷ t) zero h = refl
  front_more (n ∷ t) (suc j) h = ap (λ (r : List Node). edited e n ∷ r) (front_more t j (omega arith))

  front_edited : (t : List Node) (j : ℕ) → j ≤ length t → edited_from t 0 j e ≡ front t j
  unfolding edited_from
  front_edited t zero h = refl
  front_edited t (suc j) h = ap (λ (l : List Node). edited_in l (0 + j) e) (front_edited t j (omega arith)) ∙ ap (λ (k : ℕ). edited_in (front t j) k e) (let n : 0 + j ≡ j = omega arith in n) ∙ front_more t j (omega arith)

  pub each_edited : (t : List Node) → edited_between t 0 (length t) e ≡ map (edited e) t
  each_edited t =
      ap (λ (j : ℕ). edited_from t 0 j e) (let n : min (length t) (length t) - 0 ≡ length t = omega arith in n) ∙ front_edited t (length t) (omega arith)
      ∙ rw (take-length t, drop_of_length-le t {i = length t} (omega arith), append-nil) refl

-- and so the list is owed to all
pub all_owed : (t : List Node) → edited_between t 0 (length t) Owed ≡ owe_all t
unfolding owe_all
all_owed t = each_edited Owed t

-- at any position the record there is edited, if there is one
pub position_edited : (t : List Node) (p : ℕ) (e : Edit) → edited_between t (p - 1) p e ≡ edited_at t p e
position_edited t zero e = nothing_edited t (0 - 1) e ∙ sym (edits_none t e)
position_edited t (suc p) e = one_edited t (suc p) e (omega arith)

-- all are owed the list, or none
pub owed_if : (b : Bool) (t : List Node) (n to : ℕ) → length t ≡ n → to ≡ choose b n 0 → edited_between t 0 to Owed ≡ choose b (owe_all t) t
unfolding choose
owed_if true t n to l e = ap (λ (m : ℕ). edited_between t 0 m Owed) (e ∙ sym l) ∙ all_owed t
owed_if false t n to l e = ap (λ (m : ℕ). edited_between t 0 m Owed) e ∙ nothing_edited t 0 Owed

-- what is numbered and then owed the list, or neither, is listed anew or not
listed_anew : (b : Bool) (t ns us : List Node) → ns ≡ choose b (numbered t) t → us ≡ choose b (owe_all ns) ns → us ≡ choose b (relisted t) t
unfolding choose relisted
listed_anew true t ns us en eu = eu ∙ ap owe_all en
listed_anew false t ns us en eu = eu ∙ en

-- so a change is made: the record at its position edited, and then all numbered and owed the list, or none
pub change_made : (x : Change) (t zs ns us : List Node) (from to : ℕ) → from ≡ x.position - 1 → zs ≡ edited_between t from x.position x.edit → length zs ≡ length t → to ≡ choose x.owe (length t) 0
    → ns ≡ numbered_first zs (min (length zs) to) → length ns ≡ length zs → us ≡ edited_between ns 0 to Owed → us ≡ amended x t
change_made x t zs ns us from to ef ez lz et en ln eu =
    listed_anew x.owe zs ns us (en ∙ numbered_if x.owe zs (length t) to lz et) (eu ∙ owed_if x.owe ns (length t) to (ln ∙ lz) et) ∙ ap (λ (l : List Node). choose x.owe (relisted l) l) one
  where
    one : zs ≡ edited_at t x.position x.edit
    one = ez ∙ ap (λ (i : ℕ). edited_between t i x.position x.edit) ef ∙ position_edited t x.position x.edit
