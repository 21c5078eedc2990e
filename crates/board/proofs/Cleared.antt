-- Who is listed once a position is cleared.
use Prim.Native.Nat.{ℕ, ◌<◌, ◌≤◌}
use native.Mathlib.Omega.{arith}
use native.Mathlib.Decide.{ℕ_discrete}
use mathlib.Core.Path.{◌≡◌, refl, sym, ap, ◌∙◌}
use mathlib.Core.Bool.{Bool, true, false, ◌&&◌, ◌||◌, not}
use mathlib.Core.Logic.{inl, inr}
use mathlib.Core.List.{List}
use lib.Dec.{eqb, ltb, leb}
use lib.ListN.{length}
use borrow.Author.Tests.{lt-ltb, le-ltb, ltb-true, ltb-false, leb-true, leb-false, eq-eqb, ne_eqb}
use Rattle.ground.proofs.Loops.{some_of, some_no}
use Rattle.ground.proofs.Firsts.{First}
use Rattle.ground.proofs.Highest.{Highest, HighestCase}
use Rattle.board.specs.declared.Node.{Node}
use Rattle.board.specs.declared.Wanted.TheVariants.{Listed}
use Rattle.board.specs.Node.{none, is_listed}
use Rattle.board.specs.Table.{at, put, listed_at}
use Rattle.board.specs.Wanted.{lowest_of, highest_listed, some_listed}
use Rattle.board.proofs.Positions.{at_zero, at_past, listed_within}
use Rattle.board.proofs.Changes.{put_length, at_put, at_put_other}
use Rattle.board.proofs.LowestWanted.{lowest_found, highest_listed_case, listed_zero}

-- forty records, of which a position is cleared
module _ (t : List Node) (forty : length t ≡ 40) (board : ℕ) where
  -- nobody is listed there
  gone : listed_at (put t board none) board ≡ false
  gone = ap is_listed (go (ltb 0 board) (leb board 40) refl refl)
    where
      go : (a b : Bool) → ltb 0 board ≡ a → leb board 40 ≡ b → at (put t board none) board ≡ none
      go true true h l = at_put t board none (ltb-true 0 board h) (omega (arith, leb-true board 40 l))
      go true false h l = at_past (put t board none) board 40 (put_length t board none ∙ forty) (leb-false board 40 l)
      go false b h l = at_zero (put t board none) board (ltb-false 0 board h)

  -- and elsewhere who was
  stays : (p : ℕ) → (p ≡ board → ⊥) → listed_at (put t board none) p ≡ listed_at t p
  stays p ne = ap is_listed (at_put_other t board p none ne)

  -- so nobody is left where nobody was listed elsewhere, and somebody where one was
  nobody_left : ((p : ℕ) → 1 ≤ p → p ≤ 40 → (p ≡ board → ⊥) → listed_at t p ≡ false) → some_listed (put t board none) ≡ false
  unfolding some_listed
  nobody_left none-else = some_no (listed_at (put t board none)) 41 (λ p l. go p l (ℕ_discrete p board) (ℕ_discrete p 0))
    where
      go : (p : ℕ) → p < 41 → Dec (p ≡ board) → Dec (p ≡ 0) → listed_at (put t board none) p ≡ false
      go p l (yes e) z = ap (listed_at (put t board none)) e ∙ gone
      go p l (no ne) (yes z) = ap (listed_at (put t board none)) z ∙ listed_zero (put t board none)
      go p l (no ne) (no nz) = stays p ne ∙ none-else p (omega arith) (omega arith) ne

  somebody_left : (p : ℕ) → listed_at t p ≡ true → (p ≡ board → ⊥) → some_listed (put t board none) ≡ true
  unfolding some_listed
  somebody_left p l ne = some_of (listed_at (put t board none)) 41 p (omega (arith, (listed_within t p forty l).1)) (stays p ne ∙ l)

  -- somebody is left where anybody was listed and the highest or the lowest listed position is another
  pub others_left : (ltb 0 (highest_listed t) && (not (eqb (highest_listed t) board) || not (eqb (lowest_of t Listed 40) board))) ≡ some_listed (put t board none)
  others_left = go (highest_listed_case t)
    where
      -- the highest is the one cleared: all depends on the lowest
      lowest_left : Highest (listed_at t) 40 (highest_listed t) → highest_listed t ≡ board → First (listed_at t) 1 40 (lowest_of t Listed 40) → Dec (lowest_of t Listed 40 ≡ board) → not (eqb (lowest_of t Listed 40) board) ≡ some_listed (put t board none)
      lowest_left h e f (no ne) = rw (ne_eqb (lowest_of t Listed 40) board ne) (sym (somebody_left (lowest_of t Listed 40) f.passes ne))
      lowest_left h e f (yes d) = rw (eq-eqb (lowest_of t Listed 40) board d) (sym (nobody_left (λ p l u ne. only p l u ne (ltb p board) refl)))
        where
          only : (p : ℕ) → 1 ≤ p → p ≤ 40 → (p ≡ board → ⊥) → (b : Bool) → ltb p board ≡ b → listed_at t p ≡ false
          only p l u ne true q = f.before p l (omega (arith, ltb-true p board q, d))
          only p l u ne false q = h.above p (omega (arith, ltb-false p board q, ne, e)) u

      top_left : Highest (listed_at t) 40 (highest_listed t) → Dec (highest_listed t ≡ board) → (not (eqb (highest_listed t) board) || not (eqb (lowest_of t Listed 40) board)) ≡ some_listed (put t board none)
      top_left h (no ne) = rw (ne_eqb (highest_listed t) board ne) (sym (somebody_left (highest_listed t) h.passes ne))
      top_left h (yes e) = rw (eq-eqb (highest_listed t) board e) (lowest_left h e (lowest_found t Listed 40 (highest_listed t) h.passes h.from (omega (arith, h.within))) (ℕ_discrete (lowest_of t Listed 40) board))

      go : HighestCase (listed_at t) 40 (highest_listed t) → (ltb 0 (highest_listed t) && (not (eqb (highest_listed t) board) || not (eqb (lowest_of t Listed 40) board))) ≡ some_listed (put t board none)
      go (inl (nobody, zeroed)) = rw (le-ltb 0 (highest_listed t) (omega (arith, zeroed))) (sym (nobody_left (λ p l u ne. nobody p l u)))
      go (inr h) = rw (lt-ltb 0 (highest_listed t) h.from) (top_left h (ℕ_discrete (highest_listed t) board))
