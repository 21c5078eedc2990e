-- No two boards of a fit table answer to one MAC, and no two positions of a fit setup have one address.
use Prim.Native.Nat.{ℕ, ◌-◌, ◌≤◌, ◌<◌}
use native.Mathlib.Omega.{arith}
use native.Mathlib.Decide.{ℕ_discrete}
use mathlib.Core.Path.{◌≡◌, refl, sym, ◌∙◌}
use mathlib.Core.Bool.{Bool, true, false}
use mathlib.Core.List.{List}
use lib.Dec.{ltb}
use borrow.Author.Tests.{ltb-true, ltb-false}
use Rattle.board.specs.declared.Node.{Node}
use Rattle.board.specs.declared.Wanted.TheVariants.{Free}
use Rattle.board.specs.Table.{at}
use Rattle.board.specs.Wanted.{lowest_of}
use Rattle.setup.specs.declared.Setup.{Setup}
use Rattle.setup.specs.Setup.{address}
use Rattle.setup.specs.Fitness.{FitSetup, Position, Listed, FitTable}
use Rattle.setup.proofs.Addresses.{address_in, address_zero}
use Rattle.setup.proofs.Places.{free_found}

-- at most one listed position answers to a MAC
pub one_answers : (k : ℕ) (t : List Node) → FitTable k t → (m p q : ℕ) → Listed t p → Listed t q → (at t p).mac ≡ m → (at t q).mac ≡ m → p ≡ q
one_answers k t f m p q lp lq ep eq = go (ℕ_discrete p q)
  where
    go : Dec (p ≡ q) → p ≡ q
    go (yes e) = e
    go (no ne) = absurd (f.boards.apart p q lp lq ne (ep ∙ sym eq))

module _ (s : Setup) (f : FitSetup s) where
  pub address_rises : (p q : ℕ) → Position s.k p → Position s.k q → p < q → address s p < address s q
  address_rises p q a b l = rw (address_in s p a.from a.up_to, address_in s q b.from b.up_to) (f.pool.rising (p - 1) (q - 1) (omega arith) (omega arith))

  -- each position's address is 1 to 254
  pub address_from : (p : ℕ) → Position s.k p → 1 ≤ address s p
  address_from p a = rw (address_in s p a.from a.up_to) (f.pool.low (p - 1) (omega arith))

  pub address_up_to : (p : ℕ) → Position s.k p → address s p ≤ 254
  address_up_to p a = rw (address_in s p a.from a.up_to) (f.pool.high (p - 1) (omega arith))

  -- two different positions have different addresses
  pub addresses_apart : (p q : ℕ) → Position s.k p → Position s.k q → (p ≡ q → ⊥) → address s p ≡ address s q → ⊥
  addresses_apart p q a b ne e = go (ltb p q) refl
    where
      go : (c : Bool) → ltb p q ≡ c → ⊥
      go true h = omega (arith, address_rises p q a b (ltb-true p q h))
      go false h = omega (arith, address_rises q p b a (omega (arith, ltb-false p q h)))

  module _ (t : List Node) (g : FitTable s.k t) where
    -- no two listed boards share an address
    pub listed_apart : (p q : ℕ) → Listed t p → Listed t q → (p ≡ q → ⊥) → address s p ≡ address s q → ⊥
    listed_apart p q lp lq = addresses_apart p q (g.boards.within p lp) (g.boards.within q lq)

    -- the address of a free position is the address of no listed record
    pub free_apart : (p q : ℕ) → Position s.k p → (at t p).kind ≡ 0 → Listed t q → address s p ≡ address s q → ⊥
    free_apart p q a free l = addresses_apart p q a (g.boards.within q l) (λ e. l (rw (← e) free))

    -- "the address taken for a newcomer is in no listed record, since the pool rises strictly" (02, C-23, which retired number 17, AddressClash).
    -- A newcomer takes the lowest free position; where none is free that is 0, whose address is nobody's.
    pub newcomer_apart : (q : ℕ) → Listed t q → address s (lowest_of t Free s.k) ≡ address s q → ⊥
    newcomer_apart q l e = go (ℕ_discrete (lowest_of t Free s.k) 0)
      where
        go : Dec (lowest_of t Free s.k ≡ 0) → ⊥
        go (yes none) = omega (arith, address_from q (g.boards.within q l), address_zero s (lowest_of t Free s.k) (omega arith), e)
        go (no some) = free_apart (lowest_of t Free s.k) q (free_found t s.k some).place (free_found t s.k some).free l e
