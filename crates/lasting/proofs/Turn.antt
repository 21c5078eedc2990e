-- A turn keeps fit.
use Prim.Native.Nat.{ℕ}
use mathlib.Core.Path.{◌≡◌, refl, sym}
use mathlib.Core.Bool.{Bool, true, false, ◌&&◌, not, false≢true}
use mathlib.Core.List.{List}
use lib.ListN.{drop}
use lib.Dec.{ltb, eqb}
use borrow.Author.Tests.{ltb-true}
use Rattle.ground.specs.Choose.{choose}
use Rattle.ground.proofs.Choices.{and_left, both}
use Rattle.board.specs.declared.Node.{Node}
use Rattle.board.specs.declared.Wanted.TheVariants.{Owed, Listed as ListedOnes}
use Rattle.board.specs.Table.{at, put, listed_at}
use Rattle.board.specs.Wanted.{lowest_of, some_listed}
use Rattle.board.specs.Round.{next_listed}
use Rattle.board.specs.Change.{unmarked}
use Rattle.board.proofs.LowestWanted.{lowest_wanted}
use Rattle.board.proofs.NextListed.{next_nearest}
use Rattle.coordinator.specs.declared.Phase.{Phase}
use Rattle.coordinator.specs.declared.Phase.TheVariants.{Resting, Awaiting, ForwardDue, ReturnDue, Seeking, Unknown}
use Rattle.coordinator.specs.declared.Coordinator.{Coordinator}
use Rattle.coordinator.specs.Phase.{phase_of}
use Rattle.coordinator.specs.Fit.{phase_fits, fits}
use Rattle.coordinator.proofs.Phases.{listing, forwarding, returning}
use Rattle.coordinator.proofs.Fitting.{Board, listed_told, some_listed_lem, fits_in, fits_known, board_listed, due_return}
use Rattle.coordinator.proofs.Changing.{with_phase_fits, offered_fits}
use Rattle.steps.specs.Turn.{owed_to, due_list, due_offer, due_own, due_in, is_awaiting, is_due, turn_rules, sent, turn_in, turn_of}
use Rattle.lasting.proofs.Tables.{unmarked_follows}
use Rattle.lasting.proofs.Keeps.{Keeps, accepted_keeps, Stays, rules_keep, put_stays, table_fit, phase_keeps}
use Rattle.lasting.proofs.Seek.{seek_due_keeps}

-- a list goes to a listed board
pub owed_listed : (c : Coordinator) (t : List Node) → ltb 0 (owed_to c t) ≡ true → listed_at t (owed_to c t) ≡ true
owed_listed c t e = and_left (listed_at t (owed_to c t)) (eqb (at t (owed_to c t)).owed 1) (lowest_wanted t Owed c.setup.k (ltb-true 0 (owed_to c t) e)).passes

-- so does an offer, where somebody is listed
pub next_listed_lem : (c : Coordinator) (t : List Node) → fits c t ≡ true → some_listed t ≡ true → listed_at t (next_listed t c.setup.k c.last) ≡ true
next_listed_lem c t h s = (next_nearest t c.setup.k c.last (lowest_of t ListedOnes 40) one.few one.listed one.from one.up_to).passes
  where
    one : Board c t (lowest_of t ListedOnes 40)
    one = board_listed c t h (lowest_of t ListedOnes 40) (some_listed_lem t s)

-- whoever passes 19 with nothing due has somebody listed
somebody : (s : Bool) → (not s && true) ≡ false → s ≡ true
somebody true e = refl
somebody false e = sym e

module _ (c : Coordinator) (t : List Node) (h : fits c t ≡ true) where
  -- the list's wait, with the mark cleared
  list_keeps : ltb 0 (owed_to c t) ≡ true → Keeps c t (sent (due_list c t (owed_to c t)))
  unfolding phase_fits
  list_keeps e = accepted_keeps c t _ (phase_keeps c t h _ cleared c.kept (listing (owed_to c t)) (both (listed_at t (owed_to c t)) true (owed_listed c t e) refl) refl) refl refl
    where
      cleared : Stays c.setup.k t (put t (owed_to c t) (unmarked (at t (owed_to c t))))
      cleared = put_stays c.setup.k t (table_fit c t h) (owed_to c t) (unmarked (at t (owed_to c t))) (listed_told t (owed_to c t) (owed_listed c t e)) (unmarked_follows (at t (owed_to c t))) refl

  own_keeps : some_listed t ≡ true → Keeps c t (sent (due_own c t))
  unfolding choose
  own_keeps s = go (ltb 0 (owed_to c t)) refl
    where
      go : (b : Bool) → ltb 0 (owed_to c t) ≡ b → Keeps c t (sent (choose b (due_list c t (owed_to c t)) (due_offer c t (next_listed t c.setup.k c.last))))
      go true e = list_keeps e
      go false e = accepted_keeps c t _ (offered_fits c t h (next_listed t c.setup.k c.last) (next_listed_lem c t h s)) refl refl

  due_keeps : (p : Phase) → phase_of c.stand ≡ p → is_awaiting p ≡ false → (not (some_listed t) && not (is_due p)) ≡ false → Keeps c t (sent (due_in p c t))
  unfolding phase_fits
  due_keeps Resting e n s = own_keeps (somebody (some_listed t) s)
  due_keeps (Awaiting b x q a) e n s = absurd (false≢true (sym n))
  due_keeps (ForwardDue b q) e n s = accepted_keeps c t _ (with_phase_fits c t h (forwarding b q false) (fits_in c t h e) refl) refl refl
  due_keeps (ReturnDue b) e n s = accepted_keeps c t _ (with_phase_fits c t h (returning b) (both (listed_at t b) true (due_return c t h e).listed refl) refl) refl refl
  due_keeps (Seeking position part) e n s = seek_due_keeps c t h position part n e
  due_keeps Unknown e n s = absurd (fits_known c t h e)

pub turn_keeps : (c : Coordinator) (t : List Node) (room : ℕ) → Keeps c t (turn_of c t room)
unfolding turn_in
turn_keeps c t room = rules_keep c t (drop 1 (turn_rules (phase_of c.stand) c t room)) refl (sent (due_in (phase_of c.stand) c t)) (λ h passed. due_keeps c t h (phase_of c.stand) refl passed.0 passed.1.0)
