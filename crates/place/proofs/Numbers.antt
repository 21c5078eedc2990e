-- The indexes of records, counted one after another.
use Prim.Native.Nat.{ℕ, zero, suc, ◌+◌, ◌<◌, min}
use native.Mathlib.Omega.{arith}
use native.Mathlib.Numerals.{add-one}
use native.Mathlib.Decide.{dec_lt}
use mathlib.Core.Path.{◌≡◌, refl, sym, ap, ◌∙◌}
use mathlib.Core.Bool.{Bool, true, false}
use mathlib.Core.List.{List, [], ◌∷◌, append-nil}
use lib.ListN.{length, get_or, set, take, length-map}
use lib.Seq.{take_all, take-suc, drop-length}
use Rattle.std.specs.List.{fold}
use Rattle.std.proofs.lemmas.List.{get_or_past}
use Rattle.std.proofs.lemmas.List.Sums.{fold-append}
use Rattle.ground.specs.Choose.{choose}
use Rattle.ground.specs.Below.{one, count}
use Rattle.ground.proofs.Loops.{count_more}
use Rattle.ground.proofs.Fronts.{front_more, front_next, front_alike}
use Rattle.board.specs.declared.Node.{Node}
use Rattle.board.specs.declared.Wanted.TheVariants.{Kind}
use Rattle.board.specs.Node.{none}
use Rattle.board.specs.Table.{at}
use Rattle.board.specs.Wanted.{wants, wanted_at, of_kind_below, index_of}
use Rattle.board.specs.Index.{indexed, numbered}
use Rattle.board.specs.Columns.{kind_of, kinds_of}
use Rattle.board.proofs.Positions.{at_next, at_alike}
use Rattle.board.proofs.SameKinds.{kinds_index}
use Rattle.board.proofs.Column.{same_kinds}
use Rattle.board.proofs.Numbered.{numbered_length, numbered_kinds, at_numbered}
use Rattle.place.specs.Place.{numbered_first}

-- one record counted: one more if it is of the type, and no more than 255
abbrev pub counts : ℕ → ℕ → Node → ℕ
counts kind n node = min (n + one (wants (Kind kind) node)) 255

-- how many before an index are of a type: none before the first, and one more if the next is
module _ (t : List Node) (kind : ℕ) where
  pub kind_none : 0 ≡ min (of_kind_below t kind (0 + 1)) 255
  unfolding count at
  kind_none = refl

  pub kind_more : (j n r : ℕ) → n ≡ min (of_kind_below t kind (j + 1)) 255 → r ≡ counts kind n (get_or t j none) → r ≡ min (of_kind_below t kind (j + 1 + 1)) 255
  kind_more j n r en er = omega (arith, en, er, count_more (wanted_at (Kind kind) t) (j + 1), ap (λ (y : Node). one (wants (Kind kind) y)) (at_next t j))

  -- so many do the first records add up to, and past the records there is nobody
  pub kind_counted : (i : ℕ) → fold (counts kind) 0 (take i t) ≡ min (of_kind_below t kind (i + 1)) 255
  kind_counted zero = kind_none
  kind_counted (suc i) = rw (add-one i) at (kind_more i (fold (counts kind) 0 (take i t)) _ (kind_counted i) (next (kind_counted i) (dec_lt i (length t))))
    where
      next : fold (counts kind) 0 (take i t) ≡ min (of_kind_below t kind (i + 1)) 255 → Dec (i < length t) → fold (counts kind) 0 (take (suc i) t) ≡ counts kind (fold (counts kind) 0 (take i t)) (get_or t i none)
      next e (yes l) = rw (take-suc t i none l) (fold-append (counts kind) 0 (take i t) (get_or t i none ∷ []))
      next e (no l) = ap (fold (counts kind) 0) (take_all (suc i) t (omega arith) ∙ sym (take_all i t (omega arith))) ∙ (let z : fold (counts kind) 0 (take i t) ≡ counts kind (fold (counts kind) 0 (take i t)) (get_or t i none) = omega (arith, e, ap (λ (y : Node). one (wants (Kind kind) y)) (get_or_past t i none (omega arith))) in z)

-- numbering changes no type, whoever is numbered
first_kinds : (t : List Node) (j : ℕ) → kinds_of (numbered_first t j) ≡ kinds_of t
unfolding numbered_first
first_kinds t j = front_alike kind_of (numbered t) t j (same_kinds (numbered_kinds t) (numbered_length t))

-- and as many records stay
pub length_numbered : (t : List Node) (j : ℕ) → length (numbered_first t j) ≡ length t
length_numbered t j = sym (length-map (numbered_first t j) kind_of) ∙ ap length (first_kinds t j) ∙ length-map t kind_of

-- an index is a byte's, counted as one or not
as_byte : (n : Node) (a b : ℕ) → a ≡ min b 255 → indexed n a ≡ indexed n b
as_byte n a b e = rw (let m : min a 255 ≡ min b 255 = omega (arith, e) in m) refl

-- one record more has its index: what is counted among records of which some are numbered is what is counted among all as they were
pub numbered_more : (t : List Node) (i r : ℕ) (y : Node) → i < length t → r ≡ min (of_kind_below (numbered_first t i) (get_or (numbered_first t i) i none).kind (i + 1)) 255 → y ≡ indexed (get_or (numbered_first t i) i none) r → set (numbered_first t i) i y ≡ numbered_first t (i + 1)
unfolding numbered_first index_of
numbered_more t i r y l er ey = ap (set (numbered_first t i) i) (ey ∙ ap (λ (n : Node). indexed n r) here ∙ as_byte (at t (i + 1)) r (index_of t (i + 1)) (er ∙ ap (λ (k : ℕ). min k 255) counts) ∙ sym (at_numbered t (i + 1)) ∙ at_next (numbered t) i) ∙ front_more none (numbered t) t i (omega (arith, l, numbered_length t)) (omega (arith, numbered_length t)) ∙ ap (numbered_first t) (let n : suc i ≡ i + 1 = omega arith in n)
  where
    here : get_or (numbered_first t i) i none ≡ at t (i + 1)
    here = front_next none (numbered t) t i (omega (arith, l, numbered_length t)) l ∙ sym (at_next t i)

    counts : of_kind_below (numbered_first t i) (get_or (numbered_first t i) i none).kind (i + 1) ≡ index_of t (i + 1)
    counts = sym (ap (λ (n : Node). of_kind_below (numbered_first t i) n.kind (i + 1)) (at_next (numbered_first t i) i)) ∙ kinds_index (record { kind = at_alike kind_of (numbered_first t i) t (first_kinds t i) }) (i + 1)

-- none yet
pub none_numbered : (t : List Node) → numbered_first t 0 ≡ t
unfolding numbered_first
none_numbered t = refl

pub nothing_numbered : (t : List Node) → numbered_first t (min (length t) 0) ≡ t
nothing_numbered t = ap (numbered_first t) (let k : min (length t) 0 ≡ 0 = omega arith in k) ∙ none_numbered t

-- and all
pub all_numbered : (t : List Node) → numbered_first t (length t) ≡ numbered t
unfolding numbered_first
all_numbered t = rw (take_all (length t) (numbered t) (omega (arith, numbered_length t)), drop-length t, append-nil) refl

-- all are numbered, or none
pub numbered_if : (b : Bool) (t : List Node) (n to : ℕ) → length t ≡ n → to ≡ choose b n 0 → numbered_first t (min (length t) to) ≡ choose b (numbered t) t
unfolding choose
numbered_if true t n to l e = ap (numbered_first t) (let k : min (length t) to ≡ length t = omega (arith, l, e) in k) ∙ all_numbered t
numbered_if false t n to l e = ap (λ (j : ℕ). numbered_first t (min (length t) j)) e ∙ nothing_numbered t
