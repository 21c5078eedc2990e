-- What the changes of the table do at each position.
use Prim.Native.Nat.{ℕ, zero, suc, ◌-◌, ◌≤◌, ◌<◌}
use native.Mathlib.Omega.{arith}
use mathlib.Core.Path.{◌≡◌, refl, sym, ◌∙◌, ap}
use mathlib.Core.List.{List, map}
use mathlib.Core.Bool.{true, not}
use lib.Dec.{eqb}
use lib.ListN.{length, get_or, length-set, length-map, get_or-map}
use lib.Seq.{get_or-set_same, get_or-set_other, map-set_same}
use Rattle.ground.specs.Choose.{choose}
use Rattle.ground.proofs.Choices.{choose_yes}
use Rattle.board.specs.declared.Node.{Node}
use Rattle.board.specs.Node.{none}
use Rattle.board.specs.Table.{at, put, listed_at}
use Rattle.board.specs.Change.{owe, owe_all}
use Rattle.board.proofs.Positions.{at_position, at_zero, put_position, put_zero}

-- what holds at position 0 and at those from 1 on
at_each {ℓ} : (P : ℕ → Type ℓ) (p : ℕ) → (p ≤ 0 → P p) → (0 < p → P p) → P p
at_each P zero f g = f (omega arith)
at_each P (suc p) f g = g (omega arith)

-- a change of one record keeps the number of records
pub put_length : (t : List Node) (p : ℕ) (n : Node) → length (put t p n) ≡ length t
put_length t p n = at_each (λ q. length (put t q n) ≡ length t) p (λ h. ap length (put_zero t p n h)) (λ h. ap length (put_position t p n h) ∙ length-set t (p - 1) n)

-- the record at the position where one was put is that one
pub at_put : (t : List Node) (p : ℕ) (n : Node) → 1 ≤ p → p ≤ length t → at (put t p n) p ≡ n
at_put t p n h l = at_position (put t p n) p h ∙ rw (put_position t p n h) (get_or-set_same t (p - 1) n none (omega arith))

-- at every other position the record is as it was
pub at_put_other : (t : List Node) (p q : ℕ) (n : Node) → (q ≡ p → ⊥) → at (put t p n) q ≡ at t q
at_put_other t p q n ne = at_each (λ i. at (put t p n) i ≡ at t i) q (λ h. at_zero (put t p n) q h ∙ sym (at_zero t q h)) (λ h. at_position (put t p n) q h ∙ kept h ∙ sym (at_position t q h))
  where
    kept : 0 < q → get_or (put t p n) (q - 1) none ≡ get_or t (q - 1) none
    kept h = at_each (λ i. get_or (put t i n) (q - 1) none ≡ get_or t (q - 1) none) p (λ l. rw (put_zero t p n l) refl) (λ l. rw (put_position t p n l) (get_or-set_other t (p - 1) (q - 1) n none (λ e. ne (omega arith))))

-- a record that is put over one with which it agrees in a column leaves that column as it was
pub put_alike : (g : Node → ℕ) (t : List Node) (p : ℕ) (n : Node) → g n ≡ g (at t p) → map g (put t p n) ≡ map g t
put_alike g t p n e = at_each (λ q. map g (put t q n) ≡ map g t) p (λ h. ap (map g) (put_zero t p n h)) (λ h. ap (map g) (put_position t p n h) ∙ map-set_same g t (p - 1) n none (e ∙ ap g (at_position t p h)))

-- a change of every record that leaves the blank one blank is that change at every position
pub at_map : (f : Node → Node) → f none ≡ none → (t : List Node) (p : ℕ) → at (map f t) p ≡ f (at t p)
unfolding at
at_map f e t zero = sym e
at_map f e t (suc p) = ap (λ (d : Node). get_or (map f t) p d) (sym e) ∙ get_or-map f t p none

pub at_owe_all : (t : List Node) (p : ℕ) → at (owe_all t) p ≡ owe (at t p)
unfolding owe_all choose
at_owe_all t p = at_map owe refl t p

pub owe_all_length : (t : List Node) → length (owe_all t) ≡ length t
unfolding owe_all
owe_all_length t = length-map t owe

-- two records that are alike but for the mark of the list
pub record SameBoard (a b : Node) : Type 0 where
  pub kind : a.kind ≡ b.kind
  pub mac : a.mac ≡ b.mac
  pub session : a.session ≡ b.session
  pub misses : a.misses ≡ b.misses
  pub version : a.version ≡ b.version

-- owing the list to all keeps each record's kind, MAC, session, misses and version
pub owe_all_keeps : (t : List Node) (p : ℕ) → SameBoard (at (owe_all t) p) (at t p)
owe_all_keeps t p = rw (at_owe_all t p) (record { kind = refl; mac = refl; session = refl; misses = refl; version = refl })

-- so the same positions are listed
pub owe_all_listed : (t : List Node) (p : ℕ) → listed_at (owe_all t) p ≡ listed_at t p
owe_all_listed t p = ap (λ (k : ℕ). not (eqb k 0)) (owe_all_keeps t p).kind

-- and at each of them the list is owed
pub owe_all_owed : (t : List Node) (p : ℕ) → listed_at t p ≡ true → (at (owe_all t) p).owed ≡ 1
owe_all_owed t p h = ap (λ (n : Node). n.owed) (at_owe_all t p) ∙ sym (choose_yes (listed_at t p) 1 1 (at t p).owed h refl)
