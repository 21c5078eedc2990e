-- The laws of the columns: what a column holds at a position is what the record there holds, and what is asked of the types is asked of records of which they alone are known.
use Prim.Native.Nat.{ℕ, zero, suc, ◌+◌, ◌-◌, ◌≤◌, ◌<◌, min}
use native.Mathlib.Omega.{arith}
use mathlib.Core.Path.{◌≡◌, refl, sym, ap, ◌∙◌}
use mathlib.Core.Logic.{◌⊎◌, inl, inr}
use mathlib.Core.Bool.{Bool, true, false, ◌&&◌, ◌||◌, not}
use mathlib.Core.List.{List, [], ◌∷◌, map}
use lib.Dec.{eqb, leb, ltb}
use lib.ListN.{get_or, set, length, take, drop, length-map, get_or-map, get_or-eq_default}
use lib.Seq.{ext_get_or}
use borrow.Author.Tests.{ne_eqb, leb-false, lt-ltb, le-ltb, le-leb, lt-leb}
use Rattle.ground.specs.Choose.{choose}
use Rattle.ground.specs.Below.{first_or, up_from, count, among}
use Rattle.ground.proofs.Choices.{chosen, unchosen, choose_yes, choose_no, both, not_left, not_right}
use Rattle.ground.proofs.Runs.{run_length, run_map_at}
use Rattle.board.specs.declared.Node.{Node}
use Rattle.board.specs.declared.Wanted.{Wanted}
use Rattle.board.specs.declared.Wanted.TheVariants.{Mac}
use Rattle.board.specs.Node.{none, is_listed}
use Rattle.board.specs.Table.{at, put, listed_at}
use Rattle.board.specs.Wanted.{wants, wanted_at, lowest_of, of_kind_below, index_of}
use Rattle.board.specs.Columns.{kind_of, kinds_of, mac_of, macs_of, typed_as, typed, in_column, column_at, column_with, forty, lowest_in}
use Rattle.board.proofs.Positions.{Outside, at_made, at_next, at_zero, at_past, at_outside, put_position, put_zero, put_past, position_case}
use Rattle.board.proofs.SameKinds.{SameKinds}
use Rattle.board.proofs.Searches.{first_in_part, front_counted, fold_among}
use Rattle.std.proofs.Common.{unwrap_or, position, count_by, fold}
use Rattle.std.specs.Option.{option_map}

-- a column of what is 0 in the blank record holds at a position what the record there has
pub column_at_lem : (f : Node → ℕ) → f none ≡ 0 → (t : List Node) (p : ℕ) → in_column (map f t) p ≡ f (at t p)
unfolding in_column at
column_at_lem f z t p = ap (λ (x : ℕ). get_or (x ∷ map f t) p x) (sym z) ∙ get_or-map f (none ∷ t) p none

-- at a position of the table it is the element before
pub column_position : (column : List ℕ) (p : ℕ) → 0 < p → in_column column p ≡ get_or column (p - 1) 0
unfolding in_column
column_position column p h = rw (let e : p ≡ suc (p - 1) = omega arith in e) (rw (let e : suc (p - 1) - 1 ≡ p - 1 = omega arith in e) refl)

-- index i of it, from 0, is position i + 1
pub column_next : (f : Node → ℕ) (t : List Node) (i : ℕ) → get_or (map f t) i (f none) ≡ f (at t (i + 1))
column_next f t i = get_or-map f t i none ∙ ap f (sym (at_next t i))

-- at position 0 nothing is held
pub column_zero : (column : List ℕ) (p : ℕ) → p ≤ 0 → 0 ≡ column_at column p
unfolding column_at in_column
column_zero column p h = rw (let e : p ≡ 0 = omega arith in e) (sym (chosen 0 0))

-- of forty elements that is the element, and nothing past them
pub column_held : (column : List ℕ) (p : ℕ) → length column ≡ 40 → get_or (0 ∷ column) p 0 ≡ column_at column p
unfolding column_at in_column choose
column_held column p e = go (leb p 40) refl
  where
    go : (b : Bool) → leb p 40 ≡ b → get_or (0 ∷ column) p 0 ≡ choose b (get_or (0 ∷ column) p 0) 0
    go true h = refl
    go false h = get_or-eq_default (0 ∷ column) 0 (omega (arith, e, leb-false p 40 h))

-- and past forty records there is nothing
pub column_of : (f : Node → ℕ) → f none ≡ 0 → (t : List Node) → length t ≡ 40 → (p : ℕ) → column_at (map f t) p ≡ f (at t p)
unfolding column_at
column_of f z t forty p = go (leb p 40) refl
  where
    go : (b : Bool) → leb p 40 ≡ b → choose b (in_column (map f t) p) 0 ≡ f (at t p)
    go true h = chosen _ _ ∙ column_at_lem f z t p
    go false h = unchosen _ _ ∙ sym (ap f (at_past t p 40 forty (leb-false p 40 h)) ∙ z)

-- the first forty of a column are forty, each as in the column; of forty they are the column itself
pub forty_length : (column : List ℕ) → length (forty column) ≡ 40
unfolding forty
forty_length column = length-map (up_from 0 40) (λ i. get_or column i 0) ∙ run_length 0 40

pub forty_at : (column : List ℕ) (i : ℕ) → i < 40 → get_or (forty column) i 0 ≡ get_or column i 0
unfolding forty
forty_at column i l = run_map_at (λ j. get_or column j 0) 0 40 i 0 l ∙ ap (λ (j : ℕ). get_or column j 0) (let e : 0 + i ≡ i = omega arith in e)

pub forty_whole : (column : List ℕ) → length column ≡ 40 → forty column ≡ column
forty_whole column e = ext_get_or 0 (forty column) column (forty_length column ∙ sym e) (λ i l. forty_at column i (omega (arith, l, forty_length column)))

-- so a fold over forty says whether a value is one of them
pub fold_forty : (x : ℕ) (column : List ℕ) → length column ≡ 40 → fold (λ met y. met || eqb y x) false column ≡ among x (forty column)
fold_forty x column e = fold_among x false column ∙ ap (among x) (sym (forty_whole column e))

-- a record put at a position of forty is put into each column
column_set : (f : Node → ℕ) (t : List Node) (i : ℕ) (n : Node) → map f (set t i n) ≡ set (map f t) i (f n)
column_set f [] i n = refl
column_set f (x ∷ t) zero n = refl
column_set f (x ∷ t) (suc i) n = ap (λ (l : List ℕ). f x ∷ l) (column_set f t i n)

pub column_put : (f : Node → ℕ) (t : List Node) → length t ≡ 40 → (p : ℕ) (n : Node) → column_with (map f t) p (f n) ≡ map f (put t p n)
column_put f t size p n = go (position_case 40 p)
  where
    outside : Outside 40 p → (ltb 0 p && leb p 40) ≡ false
    outside (inl h) = not_left (ltb 0 p) (leb p 40) (le-ltb 0 p h)
    outside (inr h) = not_right (ltb 0 p) (leb p 40) (lt-leb p 40 h)

    kept : Outside 40 p → put t p n ≡ t
    kept (inl h) = put_zero t p n h
    kept (inr h) = put_past t p n 40 size h

    go : Outside 40 p ⊎ ((0 < p) × (p ≤ 40)) → column_with (map f t) p (f n) ≡ map f (put t p n)
    go (inl o) = sym (choose_no _ _ _ _ (outside o) (ap (map f) (kept o)))
    go (inr (from, up_to)) = sym (choose_yes _ _ _ _ (both _ _ (lt-ltb 0 p from) (le-leb p 40 up_to)) (ap (map f) (put_position t p n from) ∙ column_set f t (p - 1) n))

-- the records of a column of types are forty, and have these types
pub typed_length : (kinds : List ℕ) → length (typed kinds) ≡ 40
unfolding typed
typed_length kinds = length-map (up_from 1 40) (λ p. typed_as (in_column kinds p)) ∙ run_length 1 40

pub typed_position : (kinds : List ℕ) (p : ℕ) → 0 < p → p ≤ 40 → at (typed kinds) p ≡ typed_as (get_or kinds (p - 1) 0)
unfolding typed
typed_position kinds p h l = at_made (λ q. typed_as (in_column kinds q)) 40 p h l ∙ ap typed_as (column_position kinds p h)

-- the index at a position, whose type is the element before it
pub index_here : (kinds : List ℕ) (p r : ℕ) → r ≡ of_kind_below (typed kinds) (get_or kinds (p - 1) 0) p → 0 < p → p ≤ 40 → r ≡ index_of (typed kinds) p
unfolding index_of
index_here kinds p r e h l = e ∙ ap (λ (n : Node). of_kind_below (typed kinds) n.kind p) (sym (typed_position kinds p h l))

-- what a column of types holds at any position is the type of the record there
pub typed_column : (kinds : List ℕ) (p : ℕ) → typed_as (column_at kinds p) ≡ at (typed kinds) p
unfolding column_at
typed_column kinds p = go (position_case 40 p)
  where
    past : 40 < p → column_at kinds p ≡ 0
    past h = sym (choose_no _ _ _ _ (lt-leb p 40 h) refl)

    here : 0 < p → p ≤ 40 → column_at kinds p ≡ get_or kinds (p - 1) 0
    here h l = sym (choose_yes _ _ _ _ (le-leb p 40 l) (sym (column_position kinds p h)))

    go : Outside 40 p ⊎ ((0 < p) × (p ≤ 40)) → typed_as (column_at kinds p) ≡ at (typed kinds) p
    go (inl (inl h)) = ap typed_as (sym (column_zero kinds p h)) ∙ sym (at_zero (typed kinds) p h)
    go (inl (inr h)) = ap typed_as (past h) ∙ sym (at_past (typed kinds) p 40 (typed_length kinds) h)
    go (inr (h, l)) = ap typed_as (here h l) ∙ sym (typed_position kinds p h l)

-- so is whether a board is listed there
pub listed_read : (kinds : List ℕ) (p : ℕ) → not (eqb (column_at kinds p) 0) ≡ listed_at (typed kinds) p
listed_read kinds p = ap is_listed (typed_column kinds p)

-- what is asked of the types, one by one, is asked of the positions
module _ (kinds : List ℕ) (w : Wanted) (forty : length kinds ≡ 40) where
  type_asked : (i : ℕ) → i < length kinds → wants w (typed_as (get_or kinds i 0)) ≡ wanted_at w (typed kinds) (1 + i)
  type_asked i l = ap (wants w) (sym (typed_position kinds (1 + i) (omega arith) (omega (arith, l, forty)) ∙ ap (λ (j : ℕ). typed_as (get_or kinds j 0)) (omega arith)))

  -- so the first position after one that is wanted is that of the first type that is, as the library finds it
  pub first_wanted : (after limit d : ℕ) → after ≤ limit → limit ≤ 40 → unwrap_or (option_map (λ i. after + 1 + i) (position (λ kind. wants w (typed_as kind)) (take (limit - after) (drop after kinds)))) d ≡ first_or d (wanted_at w (typed kinds)) (up_from (after + 1) (limit - after))
  first_wanted after limit d h l = first_in_part (λ kind. wants w (typed_as kind)) (wanted_at w (typed kinds)) kinds 1 after limit (after + 1) d (omega arith) h (omega (arith, l, forty)) type_asked

  -- and as many below a position are wanted as types before it
  pub wanted_below : (p : ℕ) → wants w none ≡ false → 0 < p → p ≤ 40 → count_by (λ kind. wants w (typed_as kind)) (take (p - 1) kinds) ≡ count (wanted_at w (typed kinds)) p
  wanted_below p z h l = front_counted (λ kind. wants w (typed_as kind)) (wanted_at w (typed kinds)) kinds (ap (wants w) (at_zero (typed kinds) 0 (omega arith)) ∙ z) (λ i k. type_asked i k ∙ ap (wanted_at w (typed kinds)) (omega arith)) (p - 1) (omega (arith, l, forty)) ∙ ap (count (wanted_at w (typed kinds))) (omega arith)

-- a column of forty records has at every position what the record there has
module _ (f : Node → ℕ) (z : f none ≡ 0) (t : List Node) (forty : length t ≡ 40) where
  pub typed_at : (p : ℕ) → at (typed (map f t)) p ≡ typed_as (f (at t p))
  typed_at p = go (position_case 40 p)
    where
      go : Outside 40 p ⊎ ((0 < p) × (p ≤ 40)) → at (typed (map f t)) p ≡ typed_as (f (at t p))
      go (inl o) = at_outside _ p 40 (typed_length _) o ∙ ap typed_as (sym (ap f (at_outside t p 40 forty o) ∙ z))
      go (inr (h, l)) = typed_position (map f t) p h l ∙ ap typed_as (sym (column_position (map f t) p h) ∙ column_at_lem f z t p)

-- so records of which the types alone are known have the types of those that they were taken from
pub typed_kinds : (t : List Node) → length t ≡ 40 → SameKinds (typed (kinds_of t)) t
typed_kinds t forty = record { kind = λ p. ap kind_of (typed_at kind_of refl t forty p) }

-- tables of one length that agree in something at every position have one column of it
pub same_column : (f : Node → ℕ) (t u : List Node) → ((p : ℕ) → f (at t p) ≡ f (at u p)) → length t ≡ length u → map f t ≡ map f u
same_column f t u same size = ext_get_or (f none) (map f t) (map f u) (length-map t f ∙ size ∙ sym (length-map u f)) (λ i l. column_next f t i ∙ same (i + 1) ∙ sym (column_next f u i))

-- so those with the same types have one column of types
pub same_kinds : {t u : List Node} → SameKinds t u → length t ≡ length u → kinds_of t ≡ kinds_of u
same_kinds {t} {u} same size = same_column kind_of t u same.kind size

-- what the test of the element before p says of what a column holds there
pub valued : (column : List ℕ) (value p : ℕ) {r : Bool} → r ≡ eqb (get_or column (p - 1) 0) value → 0 < p → r ≡ eqb (in_column column p) value
valued column value p e h = e ∙ ap (λ (x : ℕ). eqb x value) (sym (column_position column p h))

-- the lowest position of a MAC is that of the first element which is it, as the library finds it
pub first_mac : (macs : List ℕ) (mac limit n : ℕ) → length macs ≡ 40 → n ≡ min limit 40 → unwrap_or (option_map (λ i. 1 + i) (position (λ m. eqb m mac) (take n macs))) 0 ≡ lowest_in macs mac limit
unfolding lowest_in
first_mac macs mac limit n size e = ap (λ (m : ℕ). unwrap_or (option_map (λ i. 1 + i) (position (λ x. eqb x mac) (take m macs))) 0) (omega arith) ∙ first_in_part (λ m. eqb m mac) (λ p. eqb (in_column macs p) mac) macs 1 0 n 1 0 (omega arith) (omega arith) (omega (arith, size, e)) (λ i l. valued macs mac (1 + i) (ap (λ (j : ℕ). eqb (get_or macs j 0) mac) (omega arith)) (omega arith)) ∙ ap (λ (m : ℕ). first_or 0 (λ p. eqb (in_column macs p) mac) (up_from 1 m)) (omega (arith, e))

-- records that are blank where they are not listed
abbrev pub Blanks : List Node → Type 0
Blanks t = (p : ℕ) → listed_at t p ≡ false → at t p ≡ none

module _ (t : List Node) (blanks : Blanks t) where
  -- a value that no blank record has is a listed record's
  listed_value : (f : Node → ℕ) (v : ℕ) → (f none ≡ v → ⊥) → (p : ℕ) → eqb (f (at t p)) v ≡ (listed_at t p && eqb (f (at t p)) v)
  listed_value f v ne p = go (listed_at t p) refl
    where
      go : (b : Bool) → listed_at t p ≡ b → eqb (f (at t p)) v ≡ (b && eqb (f (at t p)) v)
      go true h = refl
      go false h = ne_eqb (f (at t p)) v (λ e. ne (sym (ap f (blanks p h)) ∙ e))

  -- so the lowest position of a MAC that is not 0 is that of a board with it
  pub lowest_of_mac : (mac limit : ℕ) → 0 < mac → lowest_in (macs_of t) mac limit ≡ lowest_of t (Mac mac) limit
  unfolding lowest_in lowest_of
  lowest_of_mac mac limit h = ap (λ (g : ℕ → Bool). first_or 0 g (up_from 1 (min limit 40))) (λ i p. (ap (λ (x : ℕ). eqb x mac) (column_at_lem mac_of refl t p) ∙ listed_value mac_of mac (λ e. omega (arith, e, h)) p) i)
