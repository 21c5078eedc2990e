-- What is noted of records, of which only listed ones go into the columns: where each of forty fits, it is what there is to be seen of them.
use Prim.Native.Nat.{ℕ, zero, suc, ◌+◌, ◌≤◌, ◌<◌, min}
use native.Mathlib.Omega.{arith}
use native.Mathlib.Numerals.{add-one}
use mathlib.Core.Path.{◌≡◌, refl, sym, ap, ◌∙◌}
use mathlib.Core.Logic.{inl, inr}
use mathlib.Core.Bool.{Bool, true, false, ◌&&◌, ◌||◌, not}
use mathlib.Core.List.{List, [], ◌∷◌, ◌++◌, map}
use lib.ListN.{length, get_or, set, take, drop, replicate, length-map}
use lib.Dec.{eqb, ltb}
use borrow.Author.Tests.{lt-ltb, eq-eqb, eqb-true}
use Rattle.std.proofs.lemmas.List.{get_or-take, length-take}
use Rattle.ground.specs.Choose.{choose}
use Rattle.ground.specs.Below.{all, highest, up_from, first_or}
use Rattle.ground.proofs.Choices.{of_choice, choose_yes, choose_no, not_right, and_left, and_right}
use Rattle.ground.proofs.Firsts.{FirstCase, first_case, first_more}
use Rattle.ground.proofs.Fronts.{front_next, made_step, made_end}
use Rattle.ground.proofs.Runs.{run_same}
use Rattle.board.specs.declared.Node.{Node}
use Rattle.board.specs.Node.{none, is_blank, in_range}
use Rattle.board.specs.Table.{at, listed_at}
use Rattle.board.specs.declared.Wanted.TheVariants.{Owed}
use Rattle.board.specs.Wanted.{wanted_at, lowest_of, highest_listed}
use Rattle.board.specs.Columns.{kind_of, stored_index, stored_version, mac_of, kinds_of, stored_indexes, versions_of, macs_of}
use Rattle.setup.specs.Fit.{record_fits, records_fit}
use Rattle.setup.proofs.Tables.{blank_told}
use Rattle.board.specs.declared.Columns.{Columns}
use Rattle.look.specs.declared.Seen.{Seen}
use Rattle.look.specs.declared.Digest.{Digest}
use Rattle.look.specs.Seen.{Columned}
use Rattle.look.specs.Digest.{zeroed, owed_first, digest_of, noted, digest_to, digest_all}

-- below forty the record is noted
pub noted_below : (k i : ℕ) (n : Node) (s : Digest) → i < 40 → noted k i n s ≡ digest_of k i n s
noted_below k i n s h = sym (choose_yes (ltb i 40) _ _ _ (lt-ltb i 40 h) refl)

-- one record more, and none yet
pub digest_more : (k : ℕ) (t : List Node) (s : Digest) (i : ℕ) → digest_of k i (get_or t i none) (digest_to k t s i) ≡ digest_to k t s (i + 1)
unfolding digest_to
digest_more k t s i = ap (digest_to k t s) (sym (add-one i))

pub digest_next : (k i m : ℕ) (t : List Node) (s d : Digest) → d ≡ digest_to k t s i → i < length (take m t) → m ≤ 40 → noted k i (get_or (take m t) i none) d ≡ digest_to k t s (i + 1)
digest_next k i m t s d e h l =
    let below : i < m = omega (arith, length-take m t) in
    rw (e, get_or-take m t i none below) (noted_below k i (get_or t i none) (digest_to k t s i) (omega arith) ∙ digest_more k t s i)

pub digest_none : (k : ℕ) (t : List Node) (s : Digest) → digest_to k t s 0 ≡ s
unfolding digest_to
digest_none k t s = refl

same_either {ℓ} : {B : Type ℓ} (b : Bool) (x : B) → choose b x x ≡ x
unfolding choose
same_either true x = refl
same_either false x = refl

choose_not {ℓ} : {B : Type ℓ} (b : Bool) (x y : B) → choose b x y ≡ choose (not b) y x
unfolding choose
choose_not true x y = refl
choose_not false x y = refl

module _ (k : ℕ) (t : List Node) (columns : Columns) where
  abbrev begun : Digest
  begun = record { ok = true; top = 0; owed = 0; columns = columns }

  -- each fits, or not
  each_digested : (i : ℕ) → (digest_to k t begun i).ok ≡ all (λ j. record_fits k j (get_or t j none)) i
  unfolding digest_to all
  each_digested zero = refl
  each_digested (suc i) = of_choice (λ (z : Digest). z.ok) (eqb (get_or t i none).kind 0) _ _ ∙ same_either (eqb (get_or t i none).kind 0) _ ∙ ap (λ (b : Bool). b && record_fits k i (get_or t i none)) (each_digested i)

  -- what is noted as the highest is the highest listed position of those passed, fit or not
  top_digested : (i : ℕ) → (digest_to k t begun i).top ≡ highest (listed_at t) i
  unfolding digest_to highest at
  top_digested zero = refl
  top_digested (suc i) = of_choice (λ (z : Digest). z.top) (eqb (get_or t i none).kind 0) _ _ ∙ choose_not (eqb (get_or t i none).kind 0) _ _ ∙ (λ j. choose (listed_at t (suc i)) (add-one i j) (top_digested i j))

  owed_more : (b m : Bool) (y i : ℕ) → choose b y (choose (eqb y 0 && m) (i + 1) y) ≡ choose (eqb y 0 && (not b && m)) (suc i) y
  unfolding choose
  owed_more true m y i = choose_no _ _ _ _ (not_right (eqb y 0) false refl) refl
  owed_more false m y i = ap (λ (j : ℕ). choose (eqb y 0 && m) j y) (add-one i)

  owed_here : (i : ℕ) → first_or 0 (wanted_at Owed t) (up_from 1 (suc i)) ≡ choose (eqb (first_or 0 (wanted_at Owed t) (up_from 1 i)) 0 && (not (eqb (get_or t i none).kind 0) && eqb (get_or t i none).owed 1)) (suc i) (first_or 0 (wanted_at Owed t) (up_from 1 i))
  unfolding at
  owed_here i = first_more (wanted_at Owed t) i

  -- what is noted as owed is the lowest position owed the list of those passed
  owed_digested : (i : ℕ) → (digest_to k t begun i).owed ≡ first_or 0 (wanted_at Owed t) (up_from 1 i)
  unfolding digest_to up_from first_or
  owed_digested zero = refl
  owed_digested (suc i) = of_choice (λ (z : Digest). z.owed) (eqb (get_or t i none).kind 0) _ _ ∙ ap (λ (y : ℕ). choose (eqb (get_or t i none).kind 0) y (owed_first y i (get_or t i none).owed)) (owed_digested i) ∙ owed_more (eqb (get_or t i none).kind 0) (eqb (get_or t i none).owed 1) (first_or 0 (wanted_at Owed t) (up_from 1 i)) i ∙ sym (owed_here i)

-- the highest that is noted is one of them
highest_le : (p : ℕ → Bool) (n : ℕ) → highest p n ≤ n
unfolding highest choose
highest_le p zero = omega arith
highest_le p (suc n) = go (p (suc n)) (highest_le p n)
  where
    go : (b : Bool) → highest p n ≤ n → choose b (suc n) (highest p n) ≤ suc n
    go true h = omega arith
    go false h = omega arith

pub top_small : (k : ℕ) (t : List Node) (columns : Columns) (i : ℕ) → (digest_to k t (record { ok = true; top = 0; owed = 0; columns = columns }) i).top ≤ i
top_small k t columns i = rw (top_digested k t columns i) (highest_le (listed_at t) i)

-- and so is the lowest owed
pub owed_small : (k : ℕ) (t : List Node) (columns : Columns) (i : ℕ) → (digest_to k t (record { ok = true; top = 0; owed = 0; columns = columns }) i).owed ≤ i
owed_small k t columns i = rw (owed_digested k t columns i) (go (first_case 0 (wanted_at Owed t) 1 i))
  where
    go : FirstCase 0 (wanted_at Owed t) 1 i (first_or 0 (wanted_at Owed t) (up_from 1 i)) → first_or 0 (wanted_at Owed t) (up_from 1 i) ≤ i
    go (inl (none, e)) = omega (arith, e)
    go (inr f) = omega (arith, f.within)

-- a column of zeros in which what f makes of listed records is written; where each record fits, that is f of each
set_same : (l : List ℕ) (i : ℕ) → get_or l i 0 ≡ 0 → set l i 0 ≡ l
set_same [] i e = refl
set_same (x ∷ l) zero e = ap (λ (y : ℕ). y ∷ l) (sym e)
set_same (x ∷ l) (suc i) e = ap (λ (r : List ℕ). x ∷ r) (set_same l i e)

blank_kind : (k i : ℕ) (n : Node) → record_fits k i n ≡ true → n.kind ≡ 0 → is_blank n ≡ true
unfolding record_fits
blank_kind k i n e z = sym (ap (λ (b : Bool). b || is_blank n) (not_right (ltb i k) (in_range n) (rw (eq-eqb _ _ z) refl))) ∙ e

module _ (f : Node → ℕ) (zf : (n : Node) → is_blank n ≡ true → f n ≡ 0) (k : ℕ) (t : List Node) (a : length t ≡ 40) (u : ℕ → List ℕ) (z : u 0 ≡ replicate 40 0)
    (s : (i : ℕ) → u (suc i) ≡ choose (eqb (get_or t i none).kind 0) (u i) (set (u i) i (f (get_or t i none)))) where
  abbrev F : List ℕ
  F = map f t

  abbrev Z : List ℕ
  Z = replicate 40 0

  more : (i : ℕ) → i < 40 → record_fits k i (get_or t i none) ≡ true → u i ≡ take i F ++ drop i Z → (b : Bool) → eqb (get_or t i none).kind 0 ≡ b → choose b (u i) (set (u i) i (f (get_or t i none))) ≡ take (suc i) F ++ drop (suc i) Z
  unfolding choose
  more i h r e b q = go b q
    where
      made : set (u i) i (f (get_or t i none)) ≡ take (suc i) F ++ drop (suc i) Z
      made = made_step f t none Z (u i) i 40 (zf none refl) e a refl h ∙ ap (λ (j : ℕ). take j F ++ drop j Z) (add-one i)

      go : (b : Bool) → eqb (get_or t i none).kind 0 ≡ b → choose b (u i) (set (u i) i (f (get_or t i none))) ≡ take (suc i) F ++ drop (suc i) Z
      go true q = sym (ap (set (u i) i) (zf _ (blank_kind k i _ r (eqb-true _ _ q))) ∙ set_same (u i) i (ap (λ (l : List ℕ). get_or l i 0) e ∙ front_next 0 F Z i (rw length-map (omega (arith, a, h))) h ∙ run_same 0 40 i)) ∙ made
      go false q = made

  up : (i : ℕ) → i ≤ 40 → all (λ j. record_fits k j (get_or t j none)) i ≡ true → u i ≡ take i F ++ drop i Z
  unfolding all
  up zero h e = z
  up (suc i) h e = s i ∙ more i (omega arith) (and_right (all (λ j. record_fits k j (get_or t j none)) i) (record_fits k i (get_or t i none)) e) (up i (omega arith) (and_left (all (λ j. record_fits k j (get_or t j none)) i) (record_fits k i (get_or t i none)) e)) _ refl

  column : all (λ j. record_fits k j (get_or t j none)) 40 ≡ true → u 40 ≡ map f t
  column e = made_end f t Z (u 40) 40 40 (up 40 (omega arith) e) a refl (omega arith)

-- a blank record has no type, no index, no version and no MAC
blank_is : (n : Node) → is_blank n ≡ true → (n.kind ≡ 0) × (n.mac ≡ 0) × (n.index ≡ 0) × (n.version ≡ 0)
blank_is n p = rw (blank_told n p) (refl, refl, refl, refl)

module _ (k : ℕ) (t : List Node) (forty : length t ≡ 40) where
  all_forty : digest_all k t zeroed ≡ digest_to k t zeroed 40
  all_forty = ap (digest_to k t zeroed) (let e : min (length t) 40 ≡ 40 = omega (arith, forty) in e)

  -- of forty records it is told whether each fits, which position is the highest listed, and which the lowest that is owed the list
  digest_ok : (digest_all k t zeroed).ok ≡ records_fit k t
  digest_ok = ap (λ (z : Digest). z.ok) all_forty ∙ each_digested k t _ 40

  digest_top : (digest_all k t zeroed).top ≡ highest_listed t
  unfolding highest_listed
  digest_top = ap (λ (z : Digest). z.top) all_forty ∙ top_digested k t _ 40

  digest_owed : (digest_all k t zeroed).owed ≡ lowest_of t Owed 40
  unfolding lowest_of
  digest_owed = ap (λ (z : Digest). z.owed) all_forty ∙ owed_digested k t _ 40

  -- where each fits, the columns are those of the records
  module _ (fit : records_fit k t ≡ true) where
    digest_kinds : (digest_all k t zeroed).columns.kinds ≡ kinds_of t
    unfolding digest_to
    digest_kinds = ap (λ (z : Digest). z.columns.kinds) all_forty ∙ column kind_of (λ n e. (blank_is n e).0) k t forty (λ i. (digest_to k t zeroed i).columns.kinds) refl (λ i. of_choice (λ (z : Digest). z.columns.kinds) _ _ _) fit

    digest_indexes : (digest_all k t zeroed).columns.indexes ≡ stored_indexes t
    unfolding digest_to
    digest_indexes = ap (λ (z : Digest). z.columns.indexes) all_forty ∙ column stored_index (λ n e. (blank_is n e).2) k t forty (λ i. (digest_to k t zeroed i).columns.indexes) refl (λ i. of_choice (λ (z : Digest). z.columns.indexes) _ _ _) fit

    digest_versions : (digest_all k t zeroed).columns.versions ≡ versions_of t
    unfolding digest_to
    digest_versions = ap (λ (z : Digest). z.columns.versions) all_forty ∙ column stored_version (λ n e. (blank_is n e).3) k t forty (λ i. (digest_to k t zeroed i).columns.versions) refl (λ i. of_choice (λ (z : Digest). z.columns.versions) _ _ _) fit

    digest_macs : (digest_all k t zeroed).columns.macs ≡ macs_of t
    unfolding digest_to
    digest_macs = ap (λ (z : Digest). z.columns.macs) all_forty ∙ column mac_of (λ n e. (blank_is n e).1) k t forty (λ i. (digest_to k t zeroed i).columns.macs) refl (λ i. of_choice (λ (z : Digest). z.columns.macs) _ _ _) fit

-- what was noted of forty records tells whether each fits, and where each does, it is what there is to be seen of them
pub digest_columned : (s : Seen) (k : ℕ) (t : List Node) (d : Digest) → length t ≡ 40 → d ≡ digest_all k t zeroed
    → (d.ok ≡ records_fit k t) × (records_fit k t ≡ true → s.top ≡ d.top → s.owed ≡ d.owed → Columned s d.columns t)
digest_columned s k t d forty e = (
  ap (λ (z : Digest). z.ok) e ∙ digest_ok k t forty,
  λ fit top owed.
      record {
        kinds = ap (λ (z : Digest). z.columns.kinds) e ∙ digest_kinds k t forty fit;
        indexes = ap (λ (z : Digest). z.columns.indexes) e ∙ digest_indexes k t forty fit;
        versions = ap (λ (z : Digest). z.columns.versions) e ∙ digest_versions k t forty fit;
        macs = ap (λ (z : Digest). z.columns.macs) e ∙ digest_macs k t forty fit;
        top = top ∙ ap (λ (z : Digest). z.top) e ∙ digest_top k t forty;
        owed = owed ∙ ap (λ (z : Digest). z.owed) e ∙ digest_owed k t forty;
      },
)
