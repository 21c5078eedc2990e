-- The laws of the node list: how long it is, and what stands at each byte.
use Prim.Native.Nat.{ℕ, zero, suc, ◌+◌, ◌-◌, ◌≤◌, ◌<◌, min}
use native.Mathlib.Omega.{arith}
use native.Mathlib.Numerals.{add-one}
use mathlib.Core.Path.{◌≡◌, refl, ap, ◌∙◌, sym}
use mathlib.Core.List.{List, [], ◌∷◌, ◌++◌, map}
use mathlib.Core.Bool.{true, false}
use lib.ListN.{length, length-map, get_or, set, take, drop, get_or-map}
use lib.Dec.{ltb}
use borrow.Author.Tests.{lt-ltb, le-ltb, eq-eqb, ne_eqb}
use borrow.Rule.Slice.PartMut.{put_mid}
use Rattle.std.proofs.lemmas.List.{ext_get_or, get_or-take, length-take-le}
use Rattle.ground.specs.Below.{up_from}
use Rattle.ground.specs.Bytes.{laid}
use Rattle.ground.proofs.Choices.{choose_yes, choose_no}
use Rattle.ground.proofs.Runs.{run_length, run_at, run_map_at}
use Rattle.board.specs.declared.Node.{Node}
use Rattle.board.specs.Table.{at}
use Rattle.board.specs.Columns.{typed}
use Rattle.board.proofs.Column.{typed_position}
use Rattle.board.proofs.LowestWanted.{highest_within}
use Rattle.board.specs.Wanted.{highest_listed}
use Rattle.refusal.specs.Refusal.{refuses, gives}
use Rattle.refusal.specs.declared.Refusal.TheVariants.{NoRoom}
use Rattle.nodelist.specs.Condensed.{condensed}
use Rattle.nodelist.specs.List.{kind_at, node_list, list_length, list_to, length_to, written_to, output_to, list_over}

-- the list up to a position has one byte more
pub size_to : (top internal : ℕ) (t : List Node) → length (list_to top internal t) ≡ length_to top
unfolding list_to
size_to top internal t = rw add-one (ap suc (length-map (up_from 1 (min top 40)) (kind_at t) ∙ run_length 1 (min top 40)))

-- byte i is the type at position i
pub byte_to : (top internal : ℕ) (t : List Node) (i : ℕ) → 0 < i → i < length_to top → get_or (list_to top internal t) i 0 ≡ kind_at t i
unfolding list_to at
byte_to top internal t zero l h = absurd (let z : ⊥ = omega arith in z)
byte_to top internal t (suc i) l h =
    get_or-map (kind_at t) (up_from 1 (min top 40)) i 0 ∙ ap (kind_at t) (run_at 1 (min top 40) i 0 (omega arith) ∙ (let e : 1 + i ≡ suc i = omega arith in e))

-- of records of which the types alone are known it is the internal type and the front of their column
pub list_taken : (top internal : ℕ) (kinds : List ℕ) → length kinds ≡ 40 → list_to top internal (typed kinds) ≡ internal ∷ take (min top 40) kinds
unfolding list_to
list_taken top internal kinds size = ap (λ (l : List ℕ). internal ∷ l) (ext_get_or 0 (map (kind_at (typed kinds)) (up_from 1 (min top 40))) (take (min top 40) kinds) (length-map (up_from 1 (min top 40)) (kind_at (typed kinds)) ∙ run_length 1 (min top 40) ∙ sym long) each)
  where
    long : length (take (min top 40) kinds) ≡ min top 40
    long = length-take-le (min top 40) kinds (omega (arith, size))

    each : (i : ℕ) → i < length (map (kind_at (typed kinds)) (up_from 1 (min top 40))) → get_or (map (kind_at (typed kinds)) (up_from 1 (min top 40))) i 0 ≡ get_or (take (min top 40) kinds) i 0
    each i l =
        let within : i < min top 40 = omega (arith, l, length-map (up_from 1 (min top 40)) (kind_at (typed kinds)), run_length 1 (min top 40)) in
        run_map_at (kind_at (typed kinds)) 1 (min top 40) i 0 within ∙ ap (λ (n : Node). n.kind) (typed_position kinds (1 + i) (omega arith) (omega (arith, within))) ∙ ap (λ (j : ℕ). get_or kinds j 0) (omega arith) ∙ sym (get_or-take (min top 40) kinds i 0 within)

-- the list up to the highest listed position is the node list
pub length_to_top : (t : List Node) → length_to (highest_listed t) ≡ list_length t
length_to_top t = omega (arith, highest_within t)

pub list_to_top : (internal : ℕ) (t : List Node) → list_to (highest_listed t) internal t ≡ node_list internal t
unfolding node_list list_to
list_to_top internal t = ap (λ (n : ℕ). internal ∷ map (kind_at t) (up_from 1 n)) (let e : min (highest_listed t) 40 ≡ highest_listed t = omega (arith, highest_within t) in e)

-- so it is one byte longer than that position, and byte i is the type at position i
pub list_size : (internal : ℕ) (t : List Node) → length (node_list internal t) ≡ list_length t
list_size internal t = rw (← list_to_top internal t, ← length_to_top t) (size_to (highest_listed t) internal t)

pub list_byte : (internal : ℕ) (t : List Node) (i : ℕ) → 0 < i → i < list_length t → get_or (node_list internal t) i 0 ≡ kind_at t i
list_byte internal t i l h = rw (← list_to_top internal t) (byte_to (highest_listed t) internal t i l (omega (arith, highest_within t)))

-- byte 0 written, and the types copied behind it: the list is laid
pub list_laid : (top internal n : ℕ) (kinds o copied : List ℕ) → length kinds ≡ 40 → n ≡ length_to top → n ≤ length o → copied ≡ take (n - 1) kinds → put_mid 1 (n - 1) (set o 0 internal) copied ≡ laid (list_to top internal (typed kinds)) o
list_laid top internal n kinds [] copied size e h c = absurd (let z : ⊥ = omega arith in z)
list_laid top internal n kinds (x ∷ o) copied size e h c =
    ap (λ (k : ℕ). internal ∷ (copied ++ drop k o)) (let q : n - 1 ≡ length front = omega (arith, e, long) in q) ∙ ap (λ (l : List ℕ). internal ∷ (l ++ drop (length front) o)) (c ∙ ap (λ (k : ℕ). take k kinds) (let q : n - 1 ≡ min top 40 = omega (arith, e) in q)) ∙ ap (λ (l : List ℕ). laid l (x ∷ o)) (sym (list_taken top internal kinds size))
  where
    front : List ℕ
    front = take (min top 40) kinds

    long : length front ≡ min top 40
    long = length-take-le (min top 40) kinds (omega (arith, size))

-- what the writer answers and leaves: where the list does not fit, and where it is laid
pub refused : (top internal : ℕ) (t : List Node) (o : List ℕ) {n : ℕ} → n ≡ length_to top → length o < n → (refuses NoRoom ≡ written_to top o) × (o ≡ output_to top internal t o)
refused top internal t o e h = (choose_yes _ _ _ _ short refl, choose_yes _ _ _ _ short refl)
  where
    short : ltb (length o) (length_to top) ≡ true
    short = lt-ltb (length o) (length_to top) (omega arith)

pub accepted : (top internal : ℕ) (t : List Node) (o u : List ℕ) {n : ℕ} → n ≡ length_to top → n ≤ length o → u ≡ laid (list_to top internal t) o → (gives (n ∷ []) ≡ written_to top o) × (u ≡ output_to top internal t o)
accepted top internal t o u e h w = (choose_no _ _ _ _ roomy (ap (λ (n : ℕ). gives (n ∷ [])) e), choose_no _ _ _ _ roomy w)
  where
    roomy : ltb (length o) (length_to top) ≡ false
    roomy = le-ltb (length o) (length_to top) (omega arith)

-- over the columns it is the condensed list for a 1.0 board, and the whole one for another
pub over_old : (version top internal : ℕ) (kinds versions : List ℕ) → version ≡ 1 → condensed internal kinds versions ≡ list_over version top internal kinds versions
unfolding list_over
over_old version top internal kinds versions h = choose_yes _ _ _ _ (eq-eqb version 1 h) refl

pub over_later : (version top internal : ℕ) (kinds versions : List ℕ) → (version ≡ 1 → ⊥) → list_to top internal (typed kinds) ≡ list_over version top internal kinds versions
unfolding list_over
over_later version top internal kinds versions h = choose_no _ _ _ _ (ne_eqb version 1 h) refl
