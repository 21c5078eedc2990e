-- What a reader may rely on: each byte of the list, its length, that comparing decides equality, and that every listed type is told, in either form of the list.
use Prim.Native.Nat.{ℕ, zero, suc, ◌+◌, ◌-◌, ◌≤◌, ◌<◌, min}
use native.Mathlib.Omega.{arith}
use native.Mathlib.Numerals.{add-one}
use native.Mathlib.Decide.{dec_lt}
use mathlib.Core.Path.{◌≡◌, refl, ap, ◌∙◌, sym}
use mathlib.Core.Logic.{inl, inr}
use mathlib.Core.List.{List, [], ◌∷◌, map}
use mathlib.Core.Bool.{Bool, true, false, ◌&&◌, not, false≢true}
use lib.ListN.{length, get_or, take, drop, length-drop, length-map, get_or-eq_default}
use lib.Seq.{ext_get_or, get_or-drop, take_all}
use lib.Dec.{eqb}
use borrow.Author.Tests.{eq-eqb, ne_eqb, eqb-true}
use Rattle.std.specs.Str.{bytes_eq}
use Rattle.std.proofs.lemmas.Slice.Eq.{bytes_eq-Decides}
use Rattle.ground.specs.Choose.{choose}
use Rattle.ground.specs.Below.{all, among, up_from}
use Rattle.ground.proofs.Choices.{and_left, and_right, both, not_yes, alike}
use Rattle.ground.proofs.Loops.{all_at, all_of}
use Rattle.ground.proofs.Members.{member_at, member_stands}
use Rattle.ground.proofs.Highest.{HighestCase}
use Rattle.board.specs.declared.Node.{Node}
use Rattle.board.specs.Node.{is_old}
use Rattle.board.specs.Table.{at, listed_at}
use Rattle.board.specs.Columns.{kind_of, kinds_of, stored_version, versions_of, typed}
use Rattle.board.specs.Types.{type_count}
use Rattle.board.specs.Wanted.{highest_listed}
use Rattle.board.proofs.Positions.{at_alike, listed_within}
use Rattle.board.proofs.Column.{column_next, typed_kinds}
use Rattle.board.proofs.Types.{column_has, column_holds}
use Rattle.board.proofs.LowestWanted.{highest_listed_case, highest_within}
use Rattle.board.proofs.SameKinds.{SameKinds, kinds_highest}
use Rattle.nodelist.specs.Condensed.{condensed}
use Rattle.nodelist.specs.List.{kind_at, node_list, list_length, list_for, same_bytes, written, output, list_to, written_to, output_to, list_over}
use Rattle.nodelist.proofs.Bytes.{length_to_top, list_taken, list_to_top, list_size, list_byte}
use Rattle.nodelist.proofs.Condensed.{condensed_size, condensed_first, condensed_types, condensed_standing}

-- a position that is not listed has type 0
pub free_kind : (t : List Node) (p : ℕ) → listed_at t p ≡ false → kind_at t p ≡ 0
free_kind t p h = eqb-true (kind_at t p) 0 (flipped (eqb (kind_at t p) 0) h)
  where
    flipped : (b : Bool) → not b ≡ false → b ≡ true
    flipped true e = refl
    flipped false e = sym e

-- every listed position is in the list
pub listed_in_list : (t : List Node) (p : ℕ) → p ≤ 40 → listed_at t p ≡ true → p ≤ highest_listed t
listed_in_list t p h e = go (highest_listed_case t) (dec_lt (highest_listed t) p)
  where
    go : HighestCase (listed_at t) 40 (highest_listed t) → Dec (highest_listed t < p) → p ≤ highest_listed t
    go w (no l) = omega arith
    go (inl (none, zeroed)) (yes l) = absurd (false≢true (sym (none p (omega arith) h) ∙ e))
    go (inr f) (yes l) = absurd (false≢true (sym (f.above p l h) ∙ e))

-- byte i is the type at position i, 0 if free, also past the end of the list
pub byte_at : (internal : ℕ) (t : List Node) (i : ℕ) → 0 < i → i ≤ 40 → get_or (node_list internal t) i 0 ≡ kind_at t i
byte_at internal t i l h = go (dec_lt i (list_length t))
  where
    past : (b : Bool) → listed_at t i ≡ b → (i < list_length t → ⊥) → listed_at t i ≡ false
    past false e n = e
    past true e n = absurd (n (omega (arith, listed_in_list t i h e)))

    go : Dec (i < list_length t) → get_or (node_list internal t) i 0 ≡ kind_at t i
    go (yes k) = list_byte internal t i l k
    go (no n) = get_or-eq_default (node_list internal t) 0 (rw (list_size internal t) (omega arith)) ∙ sym (free_kind t i (past (listed_at t i) refl n))

-- byte 0 is the internal type
pub byte_first : (internal : ℕ) (t : List Node) → get_or (node_list internal t) 0 0 ≡ internal
unfolding node_list
byte_first internal t = refl

-- the list ends at the highest listed position, or has byte 0 alone where nobody is listed
pub ends_listed : (internal : ℕ) (t : List Node) → 1 < length (node_list internal t) → listed_at t (length (node_list internal t) - 1) ≡ true
ends_listed internal t h = ap (listed_at t) (let e : length (node_list internal t) - 1 ≡ highest_listed t = omega (arith, list_size internal t) in e) ∙ go (highest_listed_case t)
  where
    go : HighestCase (listed_at t) 40 (highest_listed t) → listed_at t (highest_listed t) ≡ true
    go (inl (none, zeroed)) = absurd (let z : ⊥ = omega (arith, list_size internal t) in z)
    go (inr f) = f.passes

-- the list has at most 41 bytes
pub at_most : (internal : ℕ) (t : List Node) → length (node_list internal t) ≤ 41
at_most internal t = rw (list_size internal t) (omega (arith, highest_within t))

-- what is compared, byte by byte
unfoldable pub same_byte : List ℕ → List ℕ → ℕ → Bool
same_byte sent bytes i = eqb (get_or bytes i 0) (get_or sent i 0)

-- comparing says yes exactly where the bytes are those sent
pub same_yes : (sent bytes : List ℕ) → same_bytes sent bytes ≡ true → bytes ≡ sent
unfolding same_bytes same_byte
same_yes sent bytes h = ext_get_or 0 bytes sent size each
  where
    size : length bytes ≡ length sent
    size = eqb-true (length bytes) (length sent) (and_left (eqb (length bytes) (length sent)) (all (same_byte sent bytes) (length sent)) h)

    each : (i : ℕ) → i < length bytes → get_or bytes i 0 ≡ get_or sent i 0
    each i l = eqb-true (get_or bytes i 0) (get_or sent i 0) (all_at (same_byte sent bytes) (length sent) i (and_right (eqb (length bytes) (length sent)) (all (same_byte sent bytes) (length sent)) h) (omega (arith, size, l)))

pub same_of : (sent bytes : List ℕ) → bytes ≡ sent → same_bytes sent bytes ≡ true
unfolding same_bytes same_byte
same_of sent bytes e = both _ _ (eq-eqb (length bytes) (length sent) (ap length e)) (all_of (same_byte sent bytes) (length sent) (λ i l. eq-eqb _ _ (ap (λ (b : List ℕ). get_or b i 0) e)))

-- so does the library, comparing slices
pub same_slices : (sent bytes : List ℕ) → bytes_eq bytes sent ≡ same_bytes sent bytes
same_slices sent bytes = alike _ _ (λ h. same_of sent bytes ((bytes_eq-Decides bytes sent).0 h)) (λ h. (bytes_eq-Decides bytes sent).1 (same_yes sent bytes h))

-- of the whole list: byte 0 is compared with the internal type, and the others with the front of the column
module _ (top internal : ℕ) (kinds : List ℕ) (size : length kinds ≡ 40) where
  whole : (received : List ℕ) → bytes_eq received (internal ∷ take (min top 40) kinds) ≡ same_bytes (list_to top internal (typed kinds)) received
  whole received = same_slices (internal ∷ take (min top 40) kinds) received ∙ ap (λ (l : List ℕ). same_bytes l received) (sym (list_taken top internal kinds size))

  pub whole_empty : (received : List ℕ) → length received < 1 → false ≡ same_bytes (list_to top internal (typed kinds)) received
  whole_empty [] l = whole []
  whole_empty (x ∷ received) l = absurd (let z : ⊥ = omega (arith, l) in z)

  pub whole_other : (received : List ℕ) → 1 ≤ length received → (get_or received 0 0 ≡ internal → ⊥) → eqb (get_or received 0 0) internal ≡ same_bytes (list_to top internal (typed kinds)) received
  whole_other [] l ne = absurd (let z : ⊥ = omega (arith, l) in z)
  whole_other (x ∷ received) l ne = go (eqb x internal) (ne_eqb x internal ne) ∙ whole (x ∷ received)
    where
      go : (b : Bool) → b ≡ false → b ≡ (b && bytes_eq received (take (min top 40) kinds))
      go b e = rw e refl

  pub whole_rest : (received : List ℕ) (n : ℕ) → n ≡ min top 40 → 1 ≤ length received → get_or received 0 0 ≡ internal → bytes_eq (take (length received - 1) (drop 1 received)) (take n kinds) ≡ same_bytes (list_to top internal (typed kinds)) received
  whole_rest [] n e l h = absurd (let z : ⊥ = omega (arith, l) in z)
  whole_rest (x ∷ received) n e l h = ap (λ (r : List ℕ). bytes_eq r (take n kinds)) (take_all _ received (omega arith)) ∙ ap (λ (m : ℕ). bytes_eq received (take m kinds)) e ∙ go (eqb x internal) (eq-eqb x internal h) ∙ whole (x ∷ received)
    where
      go : (b : Bool) → b ≡ true → bytes_eq received (take (min top 40) kinds) ≡ (b && bytes_eq received (take (min top 40) kinds))
      go b e = rw e refl

-- the list is made of the types alone
pub kinds_list : {t u : List Node} → SameKinds t u → (internal : ℕ) → node_list internal t ≡ node_list internal u
unfolding node_list
kinds_list same internal = λ i. internal ∷ map (λ p. same.kind p i) (up_from 1 (kinds_highest same i))

-- told the types alone and the highest listed position, the code measures and writes the node list
module _ {t u : List Node} (same : SameKinds t u) (internal : ℕ) where
  pub kinds_to_top : list_to (highest_listed u) internal t ≡ node_list internal u
  unfolding list_to
  kinds_to_top = (λ i. internal ∷ map (λ p. same.kind p i) (up_from 1 (min (highest_listed u) 40))) ∙ list_to_top internal u

  pub output_to_top : (out : List ℕ) → (written_to (highest_listed u) out ≡ written u out) × (output_to (highest_listed u) internal t out ≡ output internal u out)
  output_to_top out = (rw (length_to_top u) refl, rw (length_to_top u, kinds_to_top) refl)

-- told the versions besides, it compares with the list for a board of a version
pub columns_to_list : (version internal : ℕ) (t : List Node) → length t ≡ 40 → list_over version (highest_listed t) internal (kinds_of t) (versions_of t) ≡ list_for version internal t
unfolding list_over list_for
columns_to_list version internal t forty = ap (choose (is_old version) (condensed internal (kinds_of t) (versions_of t))) (kinds_to_top (typed_kinds t forty) internal)

-- it has at most 41 bytes, and byte 0 is the internal type
pub for_at_most : (version internal : ℕ) (t : List Node) → length (list_for version internal t) ≤ 41
unfolding list_for choose
for_at_most version internal t = go (is_old version)
  where
    go : (b : Bool) → length (choose b (condensed internal (kinds_of t) (versions_of t)) (node_list internal t)) ≤ 41
    go true = omega (arith, condensed_size internal (kinds_of t) (versions_of t))
    go false = at_most internal t

pub for_first : (version internal : ℕ) (t : List Node) → get_or (list_for version internal t) 0 0 ≡ internal
unfolding list_for choose
for_first version internal t = go (is_old version)
  where
    go : (b : Bool) → get_or (choose b (condensed internal (kinds_of t) (versions_of t)) (node_list internal t)) 0 0 ≡ internal
    go true = condensed_first internal (kinds_of t) (versions_of t)
    go false = byte_first internal t

-- it is made of the types and the versions alone
pub columns_list : (version internal : ℕ) (t u : List Node) → kinds_of t ≡ kinds_of u → versions_of t ≡ versions_of u → list_for version internal t ≡ list_for version internal u
unfolding list_for
columns_list version internal t u kinds versions = λ i. choose (is_old version) (condensed internal (kinds i) (versions i)) (kinds_list (record { kind = at_alike kind_of t u kinds }) internal i)

-- past byte 0 the whole list tells each listed type, and no other
whole_types : (internal : ℕ) (t : List Node) → length t ≡ 40 → (k : ℕ) → 0 < k → among k (drop 1 (node_list internal t)) ≡ among k (kinds_of t)
whole_types internal t forty k p = alike _ _ (λ h. listed (member_at k (drop 1 (node_list internal t)) h)) (λ h. told (column_holds kind_of refl t k h))
  where
    listed : (i : ℕ) × (i < length (drop 1 (node_list internal t))) × (get_or (drop 1 (node_list internal t)) i 0 ≡ k) → among k (kinds_of t) ≡ true
    listed (i, l, e) = column_has kind_of refl t (1 + i) k p (sym (byte_at internal t (1 + i) (omega arith) (omega (arith, l, length-drop 1 (node_list internal t), at_most internal t))) ∙ sym (get_or-drop 1 (node_list internal t) i 0) ∙ e)

    told : (q : ℕ) × (kind_at t q ≡ k) → among k (drop 1 (node_list internal t)) ≡ true
    told (q, e) =
        let within = listed_within t q forty (not_yes (eqb (kind_at t q) 0) (ne_eqb (kind_at t q) 0 (λ z. omega (arith, p, e, z)))) in
        member_stands (drop 1 (node_list internal t)) (q - 1) k p (get_or-drop 1 (node_list internal t) (q - 1) 0 ∙ ap (λ (j : ℕ). get_or (node_list internal t) j 0) (let z : 1 + (q - 1) ≡ q = omega (arith, within.0) in z) ∙ byte_at internal t q within.0 within.1 ∙ e)

-- the request: whatever a board's version, past byte 0 its list tells each listed type, and no other, where at most fifteen are listed with a 1.0 board (02, C-15)
pub types_told : (version internal : ℕ) (t : List Node) → length t ≡ 40 → (is_old version ≡ true → type_count (kinds_of t) ≤ 15) → (k : ℕ) → 0 < k → among k (drop 1 (list_for version internal t)) ≡ among k (kinds_of t)
unfolding list_for choose
types_told version internal t forty few k p = go (is_old version) refl
  where
    go : (b : Bool) → is_old version ≡ b → among k (drop 1 (choose b (condensed internal (kinds_of t) (versions_of t)) (node_list internal t))) ≡ among k (kinds_of t)
    go true e = condensed_types internal (kinds_of t) (versions_of t) (omega (arith, forty, length-map t kind_of)) (few e) k p
    go false e = whole_types internal t forty k p

-- a 1.0 board at one of the first fifteen positions stands there in the condensed list, where no lower one has its type (000, 8.1.2.4)
pub standing_stays : (internal : ℕ) (t : List Node) (p : ℕ) → 0 < p → p ≤ 15 → (at t p).version ≡ 1 → 0 < kind_at t p → ((q : ℕ) → q < p → (at t q).version ≡ 1 → kind_at t q ≡ kind_at t p → ⊥) → get_or (condensed internal (kinds_of t) (versions_of t)) p 0 ≡ kind_at t p
standing_stays internal t zero from up_to old listed first = absurd (let z : ⊥ = omega (arith, from) in z)
standing_stays internal t (suc i) from up_to old listed first =
    condensed_standing internal (kinds_of t) (versions_of t) i (omega (arith, up_to)) (version i ∙ old) (omega (arith, listed, kind i)) (λ j l o e. first (suc j) (omega (arith, l)) (sym (version j) ∙ o) (sym (kind j) ∙ e ∙ kind i)) ∙ kind i
  where
    version : (j : ℕ) → get_or (versions_of t) j 0 ≡ (at t (suc j)).version
    version j = column_next stored_version t j ∙ ap (λ (q : ℕ). (at t q).version) (add-one j)

    kind : (j : ℕ) → get_or (kinds_of t) j 0 ≡ kind_at t (suc j)
    kind j = column_next kind_of t j ∙ ap (kind_at t) (add-one j)
