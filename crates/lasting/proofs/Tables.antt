-- What a step may do to the table, and that the table stays fit.
use Prim.Native.Nat.{ℕ, ◌≤◌}
use native.Mathlib.Omega.{arith}
use native.Mathlib.Decide.{ℕ_discrete}
use mathlib.Core.Path.{◌≡◌, refl, sym, ap, subst, ◌∙◌}
use mathlib.Core.Logic.{◌⊎◌, inl, inr}
use mathlib.Core.Bool.{Bool, true, false}
use mathlib.Core.List.{List}
use lib.ListN.{length}
use lib.Dec.{eqb}
use borrow.Author.Tests.{ne_eqb}
use Rattle.ground.specs.Choose.{choose}
use Rattle.ground.proofs.Choices.{not_yes}
use Rattle.board.specs.declared.Node.{Node}
use Rattle.board.specs.Node.{none, is_listed}
use Rattle.board.specs.Table.{at, put, listed_at}
use Rattle.board.specs.Wanted.{index_of}
use Rattle.board.specs.Index.{indexed}
use Rattle.board.specs.Change.{owe, unmarked, heard, missed, renewed, owe_all, relisted}
use Rattle.board.proofs.Positions.{listed_within}
use Rattle.board.proofs.Index.{index_nobody}
use Rattle.board.proofs.SameKinds.{SameKinds}
use Rattle.board.specs.Types.{FewTypes}
use Rattle.board.proofs.Types.{few_kept}
use Rattle.board.proofs.Changes.{put_length, at_put, at_put_other}
use Rattle.board.proofs.Numbered.{same_numbered, at_relisted, relisted_length, relisted_stored, relisted_again}
use Rattle.setup.specs.Fitness.{Position, Listed, InRanges, FitBoards, FitTable}
use Rattle.coordinator.proofs.Fitting.{listed_passes}

-- one record

-- a record that may come after another of the same board: kind, MAC and version are the same, and the ranges are kept
pub record Follows (old new : Node) : Type 0 where
  pub kind : new.kind ≡ old.kind
  pub mac : new.mac ≡ old.mac
  pub version : new.version ≡ old.version
  pub misses : old.misses ≤ 2 → new.misses ≤ 2
  pub owed : old.owed ≤ 1 → new.owed ≤ 1

pub unmarked_follows : (n : Node) → Follows n (unmarked n)
unmarked_follows n = record { kind = refl; mac = refl; version = refl; misses = λ h. h; owed = λ h. omega arith }

pub heard_follows : (n : Node) → Follows n (heard n)
heard_follows n = record { kind = refl; mac = refl; version = refl; misses = λ h. omega arith; owed = λ h. h }

pub renewed_follows : (n : Node) (session : ℕ) → Follows n (renewed (heard n) session)
renewed_follows n session = record { kind = refl; mac = refl; version = refl; misses = λ h. omega arith; owed = λ h. h }

-- one miss more is in range where there was one at most
pub missed_follows : (n : Node) → n.misses ≤ 1 → Follows n (missed n)
missed_follows n l = record { kind = refl; mac = refl; version = refl; misses = λ h. omega arith; owed = λ h. h }

-- the list owed and the index counted anew
relist_follows : (n : Node) (index : ℕ) → Follows n (owe (indexed n index))
unfolding choose
relist_follows n index = record { kind = refl; mac = refl; version = refl; misses = λ h. h; owed = λ h. mark (is_listed n) n.owed h }
  where
    mark : (b : Bool) (m : ℕ) → m ≤ 1 → choose b 1 m ≤ 1
    mark true m h = omega arith
    mark false m h = h

-- every record

-- what a change may do to a record: clear it, or leave its board there; a blank record stays blank
abbrev pub Changed : Node → Node → Type 0
Changed old new = (new ≡ none) ⊎ ((Follows old new) × (old ≡ none → new ≡ none))

-- a record that is as it was
unchanged : (n : Node) → Changed n n
unchanged n = inr (record { kind = refl; mac = refl; version = refl; misses = λ h. h; owed = λ h. h }, λ e. e)

module _ (k : ℕ) (t u : List Node) (size : length u ≡ length t) (kept : (p : ℕ) → Changed (at t p) (at u p)) (f : FitBoards k t) where
  -- what is listed after the change was listed before, and is of the same board
  follows : (p : ℕ) → Listed u p → Follows (at t p) (at u p)
  follows p l = go (kept p)
    where
      go : Changed (at t p) (at u p) → Follows (at t p) (at u p)
      go (inl e) = absurd (l (ap (λ (n : Node). n.kind) e))
      go (inr (s, b)) = s

  was_listed : (p : ℕ) → Listed u p → Listed t p
  was_listed p l e = l ((follows p l).kind ∙ e)

  in_ranges : (p : ℕ) → Listed u p → InRanges (at t p) → InRanges (at u p)
  in_ranges p l r = record { listed = l; kind = λ e. r.kind (sym (follows p l).kind ∙ e); mac = rw (follows p l).mac r.mac; misses = (follows p l).misses r.misses; owed = (follows p l).owed r.owed; version = rw (follows p l).version r.version }

  blanks : (p : ℕ) → Changed (at t p) (at u p) → (at u p).kind ≡ 0 → at u p ≡ none
  blanks p (inl e) z = e
  blanks p (inr (s, b)) z = b (f.blank p (sym s.kind ∙ z))

  -- where every record is cleared, or keeps its board and stays in its ranges, the boards stay fit
  kept_boards : FitBoards k u
  kept_boards =
      record {
        forty = size ∙ f.forty;
        within = λ p l. f.within p (was_listed p l);
        ranges = λ p l. in_ranges p l (f.ranges p (was_listed p l));
        apart = λ p q lp lq ne e. f.apart p q (was_listed p lp) (was_listed q lq) ne (sym (follows p lp).mac ∙ e ∙ (follows q lq).mac);
        blank = λ p z. blanks p (kept p) z;
      }

  -- and the rule on the types stays kept
  kept_few : FewTypes t → FewTypes u
  kept_few = few_kept t u (λ p l. (follows p (λ e. omega (arith, l, e))).kind) (λ p old. same p old (kept p))
    where
      same : (p : ℕ) → (at u p).version ≡ 1 → Changed (at t p) (at u p) → (at t p).version ≡ 1
      same p old (inl e) = absurd (let z : ⊥ = omega (arith, old, ap (λ (n : Node). n.version) e) in z)
      same p old (inr (s, b)) = sym s.version ∙ old

-- the record at a position after one was put: that one there, elsewhere what was there
pub at_put_each {ℓ} : (P : Node → Type ℓ) (t : List Node) (p : ℕ) (n : Node) → 1 ≤ p → p ≤ length t → (q : ℕ) → (q ≡ p → P n) → ((q ≡ p → ⊥) → P (at t q)) → P (at (put t p n) q)
at_put_each P t p n from up_to q here other = go (ℕ_discrete q p)
  where
    go : Dec (q ≡ p) → P (at (put t p n) q)
    go (yes e) = rw (e, at_put t p n from up_to) (here e)
    go (no ne) = rw (at_put_other t p q n ne) (other ne)

-- every index counted anew and the list owed to all: where the boards are fit and the rule on the types is kept the table is
pub relisted_fit : (k : ℕ) (t : List Node) → FitBoards k t → FewTypes t → FitTable k (relisted t)
unfolding choose
relisted_fit k t f few = record { boards = kept_boards k t (relisted t) (relisted_length t) kept f; numbered = relisted_stored t f.forty; types = kept_few k t (relisted t) (relisted_length t) kept f few }
  where
    blank : (p : ℕ) → at t p ≡ none → owe (indexed (at t p) (index_of t p)) ≡ none
    blank p e = rw (e, ← index_nobody t p (ap (λ (n : Node). n.kind) e)) refl

    kept : (p : ℕ) → Changed (at t p) (at (relisted t) p)
    kept p = rw (at_relisted t p) (inr (relist_follows (at t p) (index_of t p), blank p))

-- the list owed to all, with the indexes as they are
pub owe_all_fit : (k : ℕ) (t : List Node) → FitTable k t → FitTable k (owe_all t)
owe_all_fit k t f = subst (FitTable k) (relisted_again t f.boards.forty f.numbered) (relisted_fit k t f.boards f.types)

module _ (k : ℕ) (t : List Node) (f : FitTable k t) where
  -- a listed position is one of the table
  listed_inside : (p : ℕ) → Listed t p → p ≤ length t
  listed_inside p l = omega (arith, f.boards.forty, (listed_within t p f.boards.forty (listed_passes t p l)).1)

  -- the records after that of a listed board was replaced
  put_each {ℓ} : (P : Node → Type ℓ) (p : ℕ) (n : Node) → Listed t p → (q : ℕ) → (q ≡ p → P n) → P (at t q) → P (at (put t p n) q)
  put_each P p n l q here other = at_put_each P t p n (f.boards.within p l).from (listed_inside p l) q here (λ ne. other)

  -- replaced by one of the same board, or cleared
  put_kept : (p : ℕ) (n : Node) → Listed t p → Changed (at t p) n → (q : ℕ) → Changed (at t q) (at (put t p n) q)
  put_kept p n l s q = put_each (Changed (at t q)) p n l q (λ e. rw e s) (unchanged (at t q))

  put_boards : (p : ℕ) (n : Node) → Listed t p → Changed (at t p) n → FitBoards k (put t p n)
  put_boards p n l s = kept_boards k t (put t p n) (put_length t p n) (put_kept p n l s) f.boards

  put_few : (p : ℕ) (n : Node) → Listed t p → Changed (at t p) n → FewTypes (put t p n)
  put_few p n l s = kept_few k t (put t p n) (put_length t p n) (put_kept p n l s) f.boards f.types

  -- a board's record changed, its index as it was
  pub put_fit : (p : ℕ) (n : Node) → Listed t p → Follows (at t p) n → n.index ≡ (at t p).index → FitTable k (put t p n)
  put_fit p n l s same = record { boards = put_boards p n l still; numbered = same_numbered t (put t p n) kinds indexes f.numbered; types = put_few p n l still }
    where
      still : Changed (at t p) n
      still = inr (s, λ z. absurd (l (ap (λ (m : Node). m.kind) z)))

      kinds : SameKinds (put t p n) t
      kinds = record { kind = λ q. put_each (λ m. m.kind ≡ (at t q).kind) p n l q (λ e. rw e s.kind) refl }

      indexes : (q : ℕ) → (at (put t p n) q).index ≡ (at t q).index
      indexes q = put_each (λ m. m.index ≡ (at t q).index) p n l q (λ e. rw e same) refl

  -- and the same boards are listed
  pub put_listed : (p : ℕ) (n : Node) → Listed t p → Follows (at t p) n → (q : ℕ) → listed_at (put t p n) q ≡ listed_at t q
  put_listed p n l s q = put_each (λ m. is_listed m ≡ listed_at t q) p n l q (λ e. rw (e, s.kind) refl) refl

  -- a board's record cleared
  pub clear_boards : (p : ℕ) → Listed t p → FitBoards k (put t p none)
  clear_boards p l = put_boards p none l (inl refl)

  pub clear_few : (p : ℕ) → Listed t p → FewTypes (put t p none)
  clear_few p l = put_few p none l (inl refl)

  -- the record of a board that joins at a position, with a MAC that is nobody else's
  module _ (p : ℕ) (n : Node) (here : Position k p) (inside : p ≤ length t) (r : InRanges n) (own : (q : ℕ) → Listed t q → (at t q).mac ≡ n.mac → q ≡ p) where
    -- whoever is listed then is that board, or was listed before
    abbrev Source : ℕ → Type 0
    Source q = ((q ≡ p) × (at (put t p n) q ≡ n)) ⊎ ((Listed t q) × (at (put t p n) q ≡ at t q))

    source : (q : ℕ) → Listed (put t p n) q → Source q
    source q l = go (ℕ_discrete q p)
      where
        go : Dec (q ≡ p) → Source q
        go (yes e) = inl (e, rw (e, at_put t p n here.from inside) refl)
        go (no ne) = inr ((λ z. l (ap (λ (m : Node). m.kind) (at_put_other t p q n ne) ∙ z)), at_put_other t p q n ne)

    within : (q : ℕ) → Source q → Position k q
    within q (inl (e, a)) = rw e here
    within q (inr (l, a)) = f.boards.within q l

    in_range_lem : (q : ℕ) → Source q → InRanges (at (put t p n) q)
    in_range_lem q (inl (e, a)) = rw a r
    in_range_lem q (inr (l, a)) = rw a (f.boards.ranges q l)

    differ : (a b : ℕ) → Source a → Source b → (a ≡ b → ⊥) → (at (put t p n) a).mac ≡ (at (put t p n) b).mac → ⊥
    differ a b (inl (e, x)) (inl (g, y)) ne s = ne (e ∙ sym g)
    differ a b (inl (e, x)) (inr (l, y)) ne s = ne (e ∙ sym (own b l (rw (x, y) at (sym s))))
    differ a b (inr (l, x)) (inl (g, y)) ne s = ne (own a l (rw (x, y) at s) ∙ sym g)
    differ a b (inr (l, x)) (inr (m, y)) ne s = f.boards.apart a b l m ne (rw (x, y) at s)

    pub join_boards : FitBoards k (put t p n)
    join_boards =
        record {
          forty = put_length t p n ∙ f.boards.forty;
          within = λ q l. within q (source q l);
          ranges = λ q l. in_range_lem q (source q l);
          apart = λ a b la lb. differ a b (source a la) (source b lb);
          blank = λ q. at_put_each (λ m. m.kind ≡ 0 → m ≡ none) t p n here.from inside q (λ e z. absurd (r.listed z)) (λ ne. f.boards.blank q);
        }

    pub join_listed : listed_at (put t p n) p ≡ true
    join_listed = rw (at_put t p n here.from inside) (not_yes (eqb n.kind 0) (ne_eqb n.kind 0 r.listed))
