-- The laws of the type to which a control command goes.
use Rattle.std.proofs.Common.{◌≡◌, ℕ, ◌<◌, List, Option, None, Some, IfSome, unwrap_or, sym, ◌∙◌, arith}
use Rattle.std.specs.Option.{is_some}
use Rattle.std.proofs.lemmas.Bool.{false≢true}
use native.Mathlib.Decide.{ℕ_discrete}
use borrow.Author.Tests.{lt-ltb, le-ltb}
use Rattle.board.specs.declared.Node.{Node}
use Rattle.board.specs.declared.Wanted.TheVariants.{Kind}
use Rattle.board.specs.Table.{at}
use Rattle.board.specs.Wanted.{lowest_of}
use Rattle.board.proofs.Index.{wants_none}
use Rattle.board.proofs.LowestWanted.{lowest_wanted}
use Rattle.routing.specs.Route.{has_kind}

-- a board of a type is listed where the lowest position of the type is one
pub kind_found : (t : List Node) (k kind : ℕ) (r : Option ℕ) → unwrap_or r 0 ≡ lowest_of t (Kind kind) k → IfSome r (λ p. 0 < p) → is_some r ≡ has_kind t k kind
unfolding has_kind
kind_found t k kind None e h = sym (le-ltb 0 (lowest_of t (Kind kind) k) (omega (arith, e)))
kind_found t k kind (Some p) e h = sym (lt-ltb 0 (lowest_of t (Kind kind) k) (omega (arith, e, h)))

-- nobody is of type 0
pub no_lowest : (t : List Node) (k : ℕ) → 0 ≡ lowest_of t (Kind 0) k
no_lowest t k = go (ℕ_discrete (lowest_of t (Kind 0) k) 0)
  where
    go : Dec (lowest_of t (Kind 0) k ≡ 0) → 0 ≡ lowest_of t (Kind 0) k
    go (yes e) = sym e
    go (no ne) = absurd (false≢true (sym (wants_none (at t (lowest_of t (Kind 0) k))) ∙ (lowest_wanted t (Kind 0) k (omega (arith, ne))).passes))
