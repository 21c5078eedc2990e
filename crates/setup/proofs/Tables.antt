-- The test of a table decides what it should.
use Prim.Native.Nat.{ℕ, ◌+◌, ◌-◌, ◌≤◌, ◌<◌, min}
use native.Mathlib.Omega.{arith}
use native.Mathlib.Decide.{ℕ_discrete}
use mathlib.Core.Path.{◌≡◌, refl, sym, ap, ◌∙◌}
use mathlib.Core.Logic.{◌⊎◌, inl, inr}
use mathlib.Core.Bool.{Bool, true, false, ◌&&◌, ◌||◌, not}
use mathlib.Core.List.{List, map}
use lib.Dec.{eqb, leb, ltb}
use lib.ListN.{get_or, length, length-map}
use borrow.Author.Tests.{ltb-true, ltb-false, leb-true, eqb-true, eqb-false, not-true, not-false, lt-ltb, le-leb, eq-eqb, ne_eqb}
use Rattle.ground.proofs.Choices.{and_left, and_right, both, or_left, or_right, either, not_yes}
use Rattle.ground.specs.Below.{all}
use Rattle.ground.proofs.Loops.{all_at, all_of, all_past, all_both}
use Rattle.board.specs.declared.Node.{Node}
use Rattle.board.specs.Node.{none, is_blank, is_mac, is_kind, is_version, in_range}
use Rattle.board.specs.Table.{at, listed_at}
use Rattle.board.specs.Wanted.{highest_listed}
use Rattle.board.specs.Columns.{mac_of, macs_of, kinds_of, stored_index, stored_indexes, versions_of, typed}
use Rattle.board.specs.Types.{too_many_types}
use Rattle.board.proofs.Versions.{version_told, version_passes}
use Rattle.board.proofs.Types.{rule_told, rule_passes}
use Rattle.board.proofs.Column.{column_next}
use Rattle.board.proofs.Index.{index_nobody}
use Rattle.board.proofs.LowestWanted.{none_above}
use Rattle.board.proofs.Positions.{Outside, at_position, at_next, at_outside, position_case}
use Rattle.setup.specs.Fit.{record_fits, records_fit, apart_from, are_apart, numbered_at, are_numbered, board_fits, table_fits}
use Rattle.setup.specs.Fitness.{Listed, InRanges, FitBoards, FitTable}
use Rattle.setup.proofs.Lower.{apart_zero}
use Rattle.setup.proofs.Indexes.{numbered_told, numbered_passes, numbered_types}
use Rattle.setup.proofs.Pools.{mac_told, mac_passes}

-- one record

zeros : (k m s i o x v : ℕ) → k ≡ 0 → m ≡ 0 → s ≡ 0 → i ≡ 0 → o ≡ 0 → x ≡ 0 → v ≡ 0 → ◌≡◌ {A = Node} (record { kind = k; mac = m; session = s; misses = i; owed = o; index = x; version = v }) none
zeros k m s i o x v a b c d e f g = rw (a, b, c, d, e, f, g) refl

pub blank_told : (n : Node) → is_blank n ≡ true → n ≡ none
blank_told n h = zeros n.kind n.mac n.session n.misses n.owed n.index n.version (eqb-true n.kind 0 (and_left _ _ h4)) (eqb-true n.mac 0 (and_right (eqb n.kind 0) _ h4)) (eqb-true n.session 0 (and_right (eqb n.kind 0 && eqb n.mac 0) _ h3)) (eqb-true n.misses 0 (and_right (eqb n.kind 0 && eqb n.mac 0 && eqb n.session 0) _ h2)) (eqb-true n.owed 0 (and_right (eqb n.kind 0 && eqb n.mac 0 && eqb n.session 0 && eqb n.misses 0) _ h1)) (eqb-true n.index 0 (and_right (eqb n.kind 0 && eqb n.mac 0 && eqb n.session 0 && eqb n.misses 0 && eqb n.owed 0) _ h0)) (eqb-true n.version 0 (and_right (eqb n.kind 0 && eqb n.mac 0 && eqb n.session 0 && eqb n.misses 0 && eqb n.owed 0 && eqb n.index 0) _ h))
  where
    h0 : (eqb n.kind 0 && eqb n.mac 0 && eqb n.session 0 && eqb n.misses 0 && eqb n.owed 0 && eqb n.index 0) ≡ true
    h0 = and_left _ (eqb n.version 0) h

    h1 : (eqb n.kind 0 && eqb n.mac 0 && eqb n.session 0 && eqb n.misses 0 && eqb n.owed 0) ≡ true
    h1 = and_left _ (eqb n.index 0) h0

    h2 : (eqb n.kind 0 && eqb n.mac 0 && eqb n.session 0 && eqb n.misses 0) ≡ true
    h2 = and_left _ (eqb n.owed 0) h1

    h3 : (eqb n.kind 0 && eqb n.mac 0 && eqb n.session 0) ≡ true
    h3 = and_left _ (eqb n.misses 0) h2

    h4 : (eqb n.kind 0 && eqb n.mac 0) ≡ true
    h4 = and_left _ (eqb n.session 0) h3

ranges_told : (n : Node) → in_range n ≡ true → InRanges n
ranges_told n h =
    record {
      listed = eqb-false n.kind 0 (not-true (eqb n.kind 0) (and_left (not (eqb n.kind 0)) (not (eqb n.kind 165)) h3));
      kind = eqb-false n.kind 165 (not-true (eqb n.kind 165) (and_right (not (eqb n.kind 0)) (not (eqb n.kind 165)) h3));
      mac = mac_told n.mac (and_right (is_kind n.kind) (is_mac n.mac) h2);
      misses = leb-true n.misses 2 (and_right (is_kind n.kind && is_mac n.mac) (leb n.misses 2) h1);
      owed = leb-true n.owed 1 (and_right (is_kind n.kind && is_mac n.mac && leb n.misses 2) (leb n.owed 1) h0);
      version = version_told n.version (and_right (is_kind n.kind && is_mac n.mac && leb n.misses 2 && leb n.owed 1) (is_version n.version) h);
    }
  where
    h0 : (is_kind n.kind && is_mac n.mac && leb n.misses 2 && leb n.owed 1) ≡ true
    h0 = and_left (is_kind n.kind && is_mac n.mac && leb n.misses 2 && leb n.owed 1) (is_version n.version) h

    h1 : (is_kind n.kind && is_mac n.mac && leb n.misses 2) ≡ true
    h1 = and_left (is_kind n.kind && is_mac n.mac && leb n.misses 2) (leb n.owed 1) h0

    h2 : (is_kind n.kind && is_mac n.mac) ≡ true
    h2 = and_left (is_kind n.kind && is_mac n.mac) (leb n.misses 2) h1

    h3 : is_kind n.kind ≡ true
    h3 = and_left (is_kind n.kind) (is_mac n.mac) h2

ranges_pass : (n : Node) → InRanges n → in_range n ≡ true
ranges_pass n f = both _ _ (both _ _ (both _ _ (both _ _ (both _ _ (not_yes _ (ne_eqb n.kind 0 f.listed)) (not_yes _ (ne_eqb n.kind 165 f.kind))) (mac_passes n.mac f.mac)) (le-leb n.misses 2 f.misses)) (le-leb n.owed 1 f.owed)) (version_passes n.version f.version)

-- a listed record that is fit is within k and its ranges, an unlisted one is blank
listed_told : (k i : ℕ) (n : Node) → record_fits k i n ≡ true → (n.kind ≡ 0 → ⊥) → (i < k) × InRanges n
unfolding record_fits
listed_told k i n h l = go (either (ltb i k && in_range n) (is_blank n) h)
  where
    go : ((ltb i k && in_range n) ≡ true) ⊎ (is_blank n ≡ true) → (i < k) × InRanges n
    go (inl e) = (ltb-true i k (and_left (ltb i k) (in_range n) e), ranges_told n (and_right (ltb i k) (in_range n) e))
    go (inr e) = absurd (l (ap (λ (m : Node). m.kind) (blank_told n e)))

free_told : (k i : ℕ) (n : Node) → record_fits k i n ≡ true → n.kind ≡ 0 → n ≡ none
unfolding record_fits
free_told k i n h l = go (either (ltb i k && in_range n) (is_blank n) h)
  where
    go : ((ltb i k && in_range n) ≡ true) ⊎ (is_blank n ≡ true) → n ≡ none
    go (inl e) = absurd ((ranges_told n (and_right (ltb i k) (in_range n) e)).listed l)
    go (inr e) = blank_told n e

-- the records by position

inside : (t : List Node) (p : ℕ) → length t ≡ 40 → Listed t p → (0 < p) × (p ≤ 40)
inside t p e l = go (position_case 40 p)
  where
    go : Outside 40 p ⊎ ((0 < p) × (p ≤ 40)) → (0 < p) × (p ≤ 40)
    go (inl o) = absurd (l (ap (λ (n : Node). n.kind) (at_outside t p 40 e o)))
    go (inr within) = within

fit_at : (k : ℕ) (t : List Node) (p : ℕ) → records_fit k t ≡ true → 0 < p → p ≤ 40 → record_fits k (p - 1) (at t p) ≡ true
fit_at k t p h a b = rw (at_position t p a) (all_at (λ i. record_fits k i (get_or t i none)) 40 (p - 1) h (omega arith))

mac_of_lem : (t : List Node) (p : ℕ) → 0 < p → get_or (map mac_of t) (p - 1) 0 ≡ (at t p).mac
mac_of_lem t p h = column_next mac_of t (p - 1) ∙ ap (λ (n : ℕ). (at t n).mac) (let e : p - 1 + 1 ≡ p = omega arith in e)

lower_apart : (macs : List ℕ) (i j : ℕ) → are_apart macs ≡ true → j < i → i < length macs → 0 < get_or macs i 0 → get_or macs i 0 ≡ get_or macs j 0 → ⊥
unfolding are_apart
lower_apart macs i j h l m above e = go (either (eqb (get_or macs i 0) 0) (not (eqb (get_or macs i 0) (get_or macs j 0))) (all_at (λ x. eqb (get_or macs i 0) 0 || not (eqb (get_or macs i 0) (get_or macs x 0))) i j (all_at (apart_from macs) (length macs) i h m) l))
  where
    go : (eqb (get_or macs i 0) 0 ≡ true) ⊎ (not (eqb (get_or macs i 0) (get_or macs j 0)) ≡ true) → ⊥
    go (inl q) = omega (arith, eqb-true (get_or macs i 0) 0 q)
    go (inr q) = eqb-false (get_or macs i 0) (get_or macs j 0) (not-true (eqb (get_or macs i 0) (get_or macs j 0)) q) e

pub table_told : (k : ℕ) (t : List Node) → length t ≡ 40 → table_fits k t ≡ true → FitTable k t
unfolding table_fits
table_told k t e h =
    record {
      boards =
          record {
            forty = e;
            within = λ p l. record { from = (inside t p e l).0; up_to = omega (arith, (fits p l).0, (inside t p e l).0) };
            ranges = λ p l. (fits p l).1;
            apart = λ p q lp lq ne. different (ltb p q) p q refl lp lq ne;
            blank = blanks;
          };
      numbered = numbered_told t e (and_right (are_apart (map mac_of t)) (are_numbered t) boards);
      types = rule_told t (not-true (too_many_types (kinds_of t) (versions_of t)) (and_right (are_apart (map mac_of t) && are_numbered t) (not (too_many_types (kinds_of t) (versions_of t))) together));
    }
  where
    records : records_fit k t ≡ true
    records = and_left (records_fit k t) (are_apart (map mac_of t) && are_numbered t && not (too_many_types (kinds_of t) (versions_of t))) h

    together : (are_apart (map mac_of t) && are_numbered t && not (too_many_types (kinds_of t) (versions_of t))) ≡ true
    together = and_right (records_fit k t) (are_apart (map mac_of t) && are_numbered t && not (too_many_types (kinds_of t) (versions_of t))) h

    boards : (are_apart (map mac_of t) && are_numbered t) ≡ true
    boards = and_left (are_apart (map mac_of t) && are_numbered t) (not (too_many_types (kinds_of t) (versions_of t))) together

    macs : are_apart (map mac_of t) ≡ true
    macs = and_left (are_apart (map mac_of t)) (are_numbered t) boards

    fits : (p : ℕ) → Listed t p → (p - 1 < k) × InRanges (at t p)
    fits p l = listed_told k (p - 1) (at t p) (fit_at k t p records (inside t p e l).0 (inside t p e l).1) l

    blanks : (p : ℕ) → (at t p).kind ≡ 0 → at t p ≡ none
    blanks p l = go (position_case 40 p)
      where
        go : Outside 40 p ⊎ ((0 < p) × (p ≤ 40)) → at t p ≡ none
        go (inl o) = at_outside t p 40 e o
        go (inr (a, b)) = free_told k (p - 1) (at t p) (fit_at k t p records a b) l

    lower : (p q : ℕ) → Listed t p → Listed t q → p < q → (at t q).mac ≡ (at t p).mac → ⊥
    lower p q lp lq l s = lower_apart (map mac_of t) (q - 1) (p - 1) macs (omega (arith, (inside t p e lp).0)) (rw length-map (omega (arith, (inside t q e lq).0, (inside t q e lq).1))) (rw (mac_of_lem t q (inside t q e lq).0) (fits q lq).1.mac.from) (mac_of_lem t q (inside t q e lq).0 ∙ s ∙ sym (mac_of_lem t p (inside t p e lp).0))

    different : (b : Bool) (p q : ℕ) → ltb p q ≡ b → Listed t p → Listed t q → (p ≡ q → ⊥) → (at t p).mac ≡ (at t q).mac → ⊥
    different true p q b lp lq ne s = lower p q lp lq (ltb-true p q b) (sym s)
    different false p q b lp lq ne s = lower q p lq lp (omega (arith, ltb-false p q b)) s

-- of records that are fit by themselves, those that are not listed have no MAC and no index, so that boards are to be looked at up to the highest listed position
pub boards_listed : (k : ℕ) (t : List Node) → length t ≡ 40 → records_fit k t ≡ true → all (board_fits (kinds_of t) (stored_indexes t) (macs_of t)) (min (highest_listed t) 40) ≡ (are_apart (macs_of t) && are_numbered t)
unfolding are_apart are_numbered
boards_listed k t e h = rw (length-map t mac_of ∙ e) (all_past (board_fits (kinds_of t) (stored_indexes t) (macs_of t)) (min (highest_listed t) 40) 40 (omega arith) (λ i a b. passes i (free i b (none_above t (i + 1) (omega (arith, a, b)) (omega arith)))) ∙ all_both (apart_from (macs_of t)) (numbered_at (stored_indexes t) (typed (kinds_of t))) 40 ∙ ap (λ (f : ℕ → Bool). all (apart_from (macs_of t)) 40 && all f 40) (numbered_types t e))
  where
    passes : (i : ℕ) → at t (i + 1) ≡ none → board_fits (kinds_of t) (stored_indexes t) (macs_of t) i ≡ true
    passes i z = both _ _ (sym (apart_zero (macs_of t) i (column_next mac_of t i ∙ ap mac_of z))) (ap (λ (f : ℕ → Bool). f i) (numbered_types t e) ∙ eq-eqb _ _ (column_next stored_index t i ∙ ap stored_index z ∙ index_nobody t (i + 1) (ap (λ (n : Node). n.kind) z)))

    free : (i : ℕ) → i < 40 → listed_at t (i + 1) ≡ false → at t (i + 1) ≡ none
    free i b l = free_told k i (at t (i + 1)) (rw (at_next t i) (all_at (λ j. record_fits k j (get_or t j none)) 40 i h b)) (eqb-true (at t (i + 1)).kind 0 (not-false (eqb (at t (i + 1)).kind 0) l))

record_passes : (k : ℕ) (t : List Node) → FitBoards k t → (i : ℕ) → record_fits k i (at t (i + 1)) ≡ true
unfolding record_fits
record_passes k t f i = go (ℕ_discrete (at t (i + 1)).kind 0)
  where
    go : Dec ((at t (i + 1)).kind ≡ 0) → record_fits k i (at t (i + 1)) ≡ true
    go (yes e) = rw (f.blank (i + 1) e) (or_right (ltb i k && in_range none) (is_blank none) refl)
    go (no ne) = or_left (ltb i k && in_range (at t (i + 1))) (is_blank (at t (i + 1))) (both (ltb i k) (in_range (at t (i + 1))) (lt-ltb i k (omega (arith, (f.within (i + 1) ne).up_to))) (ranges_pass (at t (i + 1)) (f.ranges (i + 1) ne)))

pair_passes : (m n : ℕ) → ((m ≡ 0 → ⊥) → m ≡ n → ⊥) → (eqb m 0 || not (eqb m n)) ≡ true
pair_passes m n h = go (ℕ_discrete m 0)
  where
    go : Dec (m ≡ 0) → (eqb m 0 || not (eqb m n)) ≡ true
    go (yes e) = or_left (eqb m 0) (not (eqb m n)) (eq-eqb m 0 e)
    go (no ne) = or_right (eqb m 0) (not (eqb m n)) (not_yes (eqb m n) (ne_eqb m n (h ne)))

pub table_passes : (k : ℕ) (t : List Node) → FitTable k t → table_fits k t ≡ true
unfolding table_fits are_apart
table_passes k t f = both _ _ (all_of _ 40 (λ i l. rw (← at_next t i) (record_passes k t f.boards i))) (both _ _ (both _ _ (all_of _ (length (map mac_of t)) (λ i l. all_of _ i (λ j m. pair_passes (get_or (map mac_of t) i 0) (get_or (map mac_of t) j 0) (λ ne e. f.boards.apart (i + 1) (j + 1) (listed i ne) (listed j (λ z. ne (e ∙ z))) (λ q. omega arith) (sym (column_next mac_of t i) ∙ e ∙ column_next mac_of t j))))) (numbered_passes t f.numbered)) (not_yes _ (rule_passes t f.types)))
  where
    listed : (i : ℕ) → (get_or (map mac_of t) i 0 ≡ 0 → ⊥) → Listed t (i + 1)
    listed i ne z = ne (column_next mac_of t i ∙ ap mac_of (f.boards.blank (i + 1) z))
