-- The laws of the types that are listed: how many there are, how marks tell those met before, and the rule on them where a 1.0 board is listed.
use Prim.Native.Nat.{ℕ, ◌+◌, ◌-◌, ◌≤◌, ◌<◌}
use native.Mathlib.Omega.{arith}
use native.Mathlib.Decide.{ℕ_discrete}
use mathlib.Core.Path.{◌≡◌, refl, sym, ap, ◌∙◌}
use mathlib.Core.Bool.{Bool, true, false, ◌&&◌, ◌||◌, not, false≢true}
use mathlib.Core.Logic.{◌⊎◌, inl, inr}
use mathlib.Core.List.{List, [], ◌∷◌, ◌++◌, map}
use lib.Dec.{eqb, ltb}
use lib.ListN.{length, get_or, set, replicate, length-set, length-map}
use lib.Seq.{get_or-set_same, get_or-set_other}
use borrow.Author.Tests.{eqb-true, eqb-false, eq-eqb, ne_eqb, not-true, ltb-false, le-ltb}
use Rattle.ground.specs.Choose.{choose}
use Rattle.ground.specs.Below.{one, among}
use Rattle.ground.proofs.Choices.{and_left, and_right, and_all, both, not_right, not_yes, not_no, or_left, or_right, or_none}
use Rattle.ground.proofs.Members.{member_at, member_of, member_last}
use Rattle.ground.proofs.Runs.{run_same}
use Rattle.board.specs.declared.Node.{Node}
use Rattle.board.specs.Node.{none}
use Rattle.board.specs.Table.{at}
use Rattle.board.specs.Columns.{kind_of, kinds_of, stored_version, versions_of}
use Rattle.board.specs.Types.{type_count, too_many_types, FewTypes, is_new, Marks, is_unmarked}
use Rattle.board.proofs.Positions.{Outside, at_outside, position_case}
use Rattle.board.proofs.Column.{column_at_lem, column_position, column_next}

-- what is new is somebody's type, and none of these
pub new_type : (kinds : List ℕ) (kind : ℕ) → is_new kinds kind ≡ true → (0 < kind) × (among kind kinds ≡ false)
new_type kinds kind h = (omega (arith, eqb-false kind 0 (not-true (eqb kind 0) (and_left _ _ h))), not-true (among kind kinds) (and_right (not (eqb kind 0)) _ h))

pub is_new_lem : (kinds : List ℕ) (kind : ℕ) → 0 < kind → among kind kinds ≡ false → is_new kinds kind ≡ true
is_new_lem kinds kind p h = both _ _ (not_yes (eqb kind 0) (ne_eqb kind 0 (λ e. omega (arith, p, e)))) (not_yes (among kind kinds) h)

-- the types of one list are those of another and this one besides; 0 is nobody's type
abbrev pub OneMore : List ℕ → ℕ → List ℕ → Type 0
OneMore kinds kind after = (k : ℕ) → 0 < k → among k after ≡ (among k kinds || eqb k kind)

pub last_more : (kinds : List ℕ) (kind : ℕ) → OneMore kinds kind (kinds ++ kind ∷ [])
last_more kinds kind k _ = member_last kinds kind k

-- at first none is marked
pub marks_none : Marks [] (replicate 256 0)
unfolding among
marks_none = record { size = refl; each = λ kind _ _. run_same 0 256 kind }

module _ {kinds marks : List ℕ} (m : Marks kinds marks) (kind : ℕ) (fits : kind < 256) where
  -- what is marked was met before
  pub unmarked_new : is_unmarked marks kind ≡ is_new kinds kind
  unmarked_new = go (eqb kind 0) refl
    where
      marked : (b : Bool) → eqb (one b) 0 ≡ not b
      marked true = refl
      marked false = refl

      go : (b : Bool) → eqb kind 0 ≡ b → (not b && eqb (get_or marks kind 0) 0) ≡ (not b && not (among kind kinds))
      go true e = refl
      go false e = ap (λ (n : ℕ). eqb n 0) (m.each kind (let p : 0 < kind = omega (arith, eqb-false kind 0 e) in p) fits) ∙ marked (among kind kinds)

  -- one type more is marked
  pub marks_more : (after : List ℕ) → OneMore kinds kind after → Marks after (set marks kind 1)
  marks_more after more = record { size = length-set marks kind 1 ∙ m.size; each = λ k p l. go k p l (ℕ_discrete k kind) }
    where
      go : (k : ℕ) → 0 < k → k < 256 → Dec (k ≡ kind) → get_or (set marks kind 1) k 0 ≡ one (among k after)
      go k p l (yes e) = ap (λ (j : ℕ). get_or (set marks kind 1) j 0) e ∙ get_or-set_same marks kind 1 0 (omega (arith, m.size, fits)) ∙ sym (ap one (more k p ∙ or_right (among k kinds) (eqb k kind) (eq-eqb k kind e)))
      go k p l (no ne) = get_or-set_other marks kind k 1 0 ne ∙ m.each k p l ∙ ap one (sym (more k p ∙ ap (λ (b : Bool). among k kinds || b) (ne_eqb k kind ne) ∙ or_none (among k kinds)))

-- one type more at the end: one more is counted where it is new
pub type_more : (kinds : List ℕ) (kind : ℕ) → type_count (kinds ++ kind ∷ []) ≡ type_count kinds + one (is_new kinds kind)
unfolding type_count among
type_more [] kind = refl
type_more (x ∷ kinds) kind = ap (λ (n : ℕ). n + one (is_new (kinds ++ kind ∷ []) x)) (type_more kinds kind) ∙ go (ℕ_discrete x kind)
  where
    -- of two that are alike the later is counted, and one that differs changes nothing
    go : Dec (x ≡ kind) → type_count kinds + one (is_new kinds kind) + one (is_new (kinds ++ kind ∷ []) x) ≡ type_count kinds + one (is_new kinds x) + one (is_new (x ∷ kinds) kind)
    go (yes e) =
        let before : is_new (x ∷ kinds) kind ≡ false = not_right (not (eqb kind 0)) _ (not_no _ (or_left (eqb kind x) (among kind kinds) (eq-eqb kind x (sym e)))) in
        let after : is_new (kinds ++ kind ∷ []) x ≡ false = not_right (not (eqb x 0)) _ (not_no _ (member_last kinds kind x ∙ or_right (among x kinds) (eqb x kind) (eq-eqb x kind e))) in
        rw (before, after, e) refl
    go (no ne) =
        let same : among x (kinds ++ kind ∷ []) ≡ among x kinds = member_last kinds kind x ∙ ap (λ (b : Bool). among x kinds || b) (ne_eqb x kind ne) ∙ or_none (among x kinds) in
        let other : among kind (x ∷ kinds) ≡ among kind kinds = ap (λ (b : Bool). b || among kind kinds) (ne_eqb kind x (λ z. ne (sym z))) in
        rw (same, other) (omega arith)

-- without a type: as many members but this one, and one type fewer where it was one
without : ℕ → List ℕ → List ℕ
without kind [] = []
without kind (x ∷ kinds) = choose (eqb kind x) (without kind kinds) (x ∷ without kind kinds)

without_member : (kind : ℕ) (kinds : List ℕ) (k : ℕ) → among k (without kind kinds) ≡ (among k kinds && not (eqb k kind))
unfolding without among choose
without_member kind [] k = refl
without_member kind (x ∷ kinds) k = go (without_member kind kinds k) (eqb kind x) refl
  where
    go : among k (without kind kinds) ≡ (among k kinds && not (eqb k kind)) → (b : Bool) → eqb kind x ≡ b → among k (choose b (without kind kinds) (x ∷ without kind kinds)) ≡ ((eqb k x || among k kinds) && not (eqb k kind))
    go h true e = h ∙ here (eqb k x) (eqb k kind) (among k kinds) (ap (eqb k) (sym (eqb-true kind x e)))
      where
        here : (a b c : Bool) → a ≡ b → (c && not b) ≡ ((a || c) && not b)
        here true true true z = refl
        here true true false z = refl
        here true false c z = absurd (false≢true (sym z))
        here false b c z = refl
    go h false e = ap (λ (b : Bool). eqb k x || b) h ∙ there (eqb k x) (eqb k kind) (among k kinds) (λ a. ne_eqb k kind (λ z. eqb-false kind x e (sym z ∙ eqb-true k x a)))
      where
        there : (a b c : Bool) → (a ≡ true → b ≡ false) → (a || (c && not b)) ≡ ((a || c) && not b)
        there true b c z = sym (ap not (z refl))
        there false b c z = refl

without_count : (kind : ℕ) (kinds : List ℕ) → type_count kinds ≡ type_count (without kind kinds) + one (not (eqb kind 0) && among kind kinds)
unfolding without type_count among choose
without_count kind [] = go (eqb kind 0)
  where
    go : (b : Bool) → 0 ≡ 0 + one (not b && false)
    go true = omega arith
    go false = omega arith
without_count kind (x ∷ kinds) = ap (λ (n : ℕ). n + one (is_new kinds x)) (without_count kind kinds) ∙ go (eqb kind x) refl
  where
    split : (a b : Bool) (n : ℕ) → n + one (not a && b) + one (not a && not b) ≡ n + one (not a && true)
    split true b n = omega arith
    split false true n = omega arith
    split false false n = omega arith

    go : (b : Bool) → eqb kind x ≡ b → type_count (without kind kinds) + one (not (eqb kind 0) && among kind kinds) + one (is_new kinds x) ≡ type_count (choose b (without kind kinds) (x ∷ without kind kinds)) + one (not (eqb kind 0) && (b || among kind kinds))
    go true e = rw (sym (eqb-true kind x e)) (split (eqb kind 0) (among kind kinds) (type_count (without kind kinds)))
    go false e =
        let same : among x (without kind kinds) ≡ among x kinds = without_member kind kinds x ∙ ap (λ (b : Bool). among x kinds && not b) (ne_eqb x kind (λ z. eqb-false kind x e (sym z))) ∙ and_all (among x kinds) in
        rw same (omega arith)

-- what has no type besides has no more types
pub types_within : (kinds after : List ℕ) → ((k : ℕ) → 0 < k → among k after ≡ true → among k kinds ≡ true) → type_count after ≤ type_count kinds
unfolding type_count among
types_within kinds [] h = omega arith
types_within kinds (x ∷ after) h = go (is_new after x) refl (λ m. types_within m after)
  where
    later : (k : ℕ) → 0 < k → among k after ≡ true → among k kinds ≡ true
    later k l m = h k l (or_right (eqb k x) (among k after) m)

    go : (b : Bool) → is_new after x ≡ b → ((m : List ℕ) → ((k : ℕ) → 0 < k → among k after ≡ true → among k m ≡ true) → type_count after ≤ type_count m) → type_count after + one b ≤ type_count kinds
    go false e r = omega (arith, r kinds later)
    go true e r = omega (arith, r (without x kinds) but, without_count x kinds, ap one (both (not (eqb x 0)) (among x kinds) (and_left _ _ e) (h x positive (or_left (eqb x x) (among x after) (eq-eqb x x refl)))))
      where
        positive : 0 < x
        positive = (new_type after x e).0

        but : (k : ℕ) → 0 < k → among k after ≡ true → among k (without x kinds) ≡ true
        but k l m = without_member x kinds k ∙ both (among k kinds) _ (later k l m) (not_yes _ (ne_eqb k x (λ z. false≢true (sym (new_type after x e).1 ∙ ap (λ (y : ℕ). among y after) (sym z) ∙ m))))

-- a type that is 0 is nobody's, and changes nothing
pub nobody_more : (kinds versions : List ℕ) → too_many_types (0 ∷ kinds) (0 ∷ versions) ≡ too_many_types kinds versions
unfolding too_many_types type_count among
nobody_more kinds versions = ap (λ (n : ℕ). among 1 versions && ltb 15 n) (let e : type_count kinds + 0 ≡ type_count kinds = omega arith in e)

-- a value that is not 0 is one of a column exactly where some position has it
pub column_has : (f : Node → ℕ) → f none ≡ 0 → (t : List Node) (p v : ℕ) → 0 < v → f (at t p) ≡ v → among v (map f t) ≡ true
column_has f z t p v l h = go (position_case (length t) p)
  where
    go : Outside (length t) p ⊎ ((0 < p) × (p ≤ length t)) → among v (map f t) ≡ true
    go (inl o) = absurd (let e : ⊥ = omega (arith, l, sym h ∙ ap f (at_outside t p (length t) refl o) ∙ z) in e)
    go (inr (from, up_to)) = ap (λ (x : ℕ). among x (map f t)) (sym (sym (column_position (map f t) p from) ∙ column_at_lem f z t p ∙ h)) ∙ member_of (map f t) (p - 1) (omega (arith, from, up_to, length-map t f))

pub column_holds : (f : Node → ℕ) → f none ≡ 0 → (t : List Node) (v : ℕ) → among v (map f t) ≡ true → (p : ℕ) × (f (at t p) ≡ v)
column_holds f z t v h = let found = member_at v (map f t) h in (found.0 + 1, sym (column_next f t found.0) ∙ ap (get_or (map f t) found.0) z ∙ found.2)

-- the rule is kept over columns exactly where a 1.0 board means at most 15 types
pub rule_columns : (kinds versions : List ℕ) → too_many_types kinds versions ≡ false → among 1 versions ≡ true → type_count kinds ≤ 15
unfolding too_many_types
rule_columns kinds versions h old = go (ltb 15 (type_count kinds)) refl
  where
    go : (b : Bool) → ltb 15 (type_count kinds) ≡ b → type_count kinds ≤ 15
    go true e = absurd (false≢true (sym h ∙ both _ _ old e))
    go false e = ltb-false 15 (type_count kinds) e

pub columns_rule : (kinds versions : List ℕ) → (among 1 versions ≡ true → type_count kinds ≤ 15) → too_many_types kinds versions ≡ false
unfolding too_many_types
columns_rule kinds versions few = go (among 1 versions) refl
  where
    go : (b : Bool) → among 1 versions ≡ b → (b && ltb 15 (type_count kinds)) ≡ false
    go true e = le-ltb 15 (type_count kinds) (few e)
    go false e = refl

-- so the test of the rule decides what it should
pub rule_told : (t : List Node) → too_many_types (kinds_of t) (versions_of t) ≡ false → FewTypes t
rule_told t h p old = rule_columns (kinds_of t) (versions_of t) h (column_has stored_version refl t p 1 (omega arith) old)

pub rule_passes : (t : List Node) → FewTypes t → too_many_types (kinds_of t) (versions_of t) ≡ false
rule_passes t h = columns_rule (kinds_of t) (versions_of t) (λ old. let found = column_holds stored_version refl t 1 old in h found.0 found.1)

-- where a table has a type, another has it at the same position: then it has no more types than that
pub types_kept : (t u : List Node) → ((p : ℕ) → 0 < (at u p).kind → (at u p).kind ≡ (at t p).kind) → type_count (kinds_of u) ≤ type_count (kinds_of t)
types_kept t u same = types_within (kinds_of t) (kinds_of u) (λ k l m. let found = column_holds kind_of refl u k m in column_has kind_of refl t found.0 k l (sym (same found.0 (omega (arith, l, found.1))) ∙ found.1))

-- so where types and 1.0 boards are among those of another, the rule stays kept
pub few_kept : (t u : List Node) → ((p : ℕ) → 0 < (at u p).kind → (at u p).kind ≡ (at t p).kind) → ((p : ℕ) → (at u p).version ≡ 1 → (at t p).version ≡ 1) → FewTypes t → FewTypes u
few_kept t u kinds olds few p old = omega (arith, types_kept t u kinds, few p (olds p old))
