-- What is asked of the types alone: two tables with the same types give the same answer, whatever else their records hold.
use Prim.Native.Nat.{ℕ, min}
use mathlib.Core.Path.{◌≡◌, ap, ◌∙◌}
use mathlib.Core.Bool.{Bool, ◌&&◌, not}
use mathlib.Core.List.{List}
use lib.Dec.{eqb}
use Rattle.ground.specs.Below.{up_from, first_or, count, highest}
use Rattle.board.specs.declared.Node.{Node}
use Rattle.board.specs.declared.Wanted.TheVariants.{Listed, Free, Kind}
use Rattle.board.specs.Table.{at, listed_at}
use Rattle.board.specs.Wanted.{wanted_at, lowest_of, highest_listed, of_kind_below, index_of}
use Rattle.board.specs.Round.{round, next_listed}

-- the same type at every position
pub record SameKinds (t u : List Node) : Type 0 where
  pub kind : (p : ℕ) → (at t p).kind ≡ (at u p).kind

module _ {t u : List Node} (same : SameKinds t u) where
  -- who is listed
  pub kinds_listed : listed_at t ≡ listed_at u
  kinds_listed = λ i p. not (eqb (same.kind p i) 0)

  -- and who is of a type
  kinds_wanted : (kind : ℕ) → wanted_at (Kind kind) t ≡ wanted_at (Kind kind) u
  kinds_wanted kind = λ i p. not (eqb (same.kind p i) 0) && eqb (same.kind p i) kind

  -- the lowest position of a type
  pub kinds_lowest : (kind k : ℕ) → lowest_of t (Kind kind) k ≡ lowest_of u (Kind kind) k
  unfolding lowest_of
  kinds_lowest kind k = ap (λ (f : ℕ → Bool). first_or 0 f (up_from 1 (min k 40))) (kinds_wanted kind)

  -- the lowest listed position
  pub kinds_first : (k : ℕ) → lowest_of t Listed k ≡ lowest_of u Listed k
  unfolding lowest_of
  kinds_first k = ap (λ (f : ℕ → Bool). first_or 0 f (up_from 1 (min k 40))) kinds_listed

  -- the lowest free position
  pub kinds_free : (k : ℕ) → lowest_of t Free k ≡ lowest_of u Free k
  unfolding lowest_of
  kinds_free k = ap (λ (f : ℕ → Bool). first_or 0 (λ p. not (f p)) (up_from 1 (min k 40))) kinds_listed

  -- the next listed position
  pub kinds_next : (k a : ℕ) → next_listed t k a ≡ next_listed u k a
  unfolding next_listed
  kinds_next k a = ap (λ (f : ℕ → Bool). first_or 0 f (round (min k 40) a)) kinds_listed

  -- the highest listed position
  pub kinds_highest : highest_listed t ≡ highest_listed u
  unfolding highest_listed
  kinds_highest = ap (λ (f : ℕ → Bool). highest f 40) kinds_listed

  -- a board's index
  pub kinds_index : (p : ℕ) → index_of t p ≡ index_of u p
  unfolding index_of
  kinds_index p = ap (λ (f : ℕ → Bool). count f p) (kinds_wanted (at t p).kind) ∙ ap (λ (kind : ℕ). of_kind_below u kind p) (same.kind p)
