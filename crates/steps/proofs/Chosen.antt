-- The laws of what a join chooses: the position of a listed MAC, or the lowest free one (01, "Join").
use Prim.Native.Nat.{ℕ, ◌≤◌, ◌<◌}
use native.Mathlib.Omega.{arith}
use mathlib.Core.Path.{◌≡◌, refl, sym, ◌∙◌}
use mathlib.Core.Bool.{Bool, true, false}
use mathlib.Core.List.{List}
use lib.Dec.{ltb}
use borrow.Author.Tests.{eqb-true, eq-eqb, lt-ltb, le-ltb, ltb-true, ltb-false}
use Rattle.ground.proofs.Choices.{choose_yes, choose_no, and_left, and_right, both}
use Rattle.board.specs.declared.Node.{Node}
use Rattle.board.specs.declared.Wanted.TheVariants.{Mac, Free}
use Rattle.board.specs.Table.{at, listed_at}
use Rattle.board.specs.Wanted.{lowest_of}
use Rattle.board.proofs.LowestWanted.{lowest_wanted, lowest_found}
use Rattle.setup.specs.Fitness.{Position, Listed, FitTable}
use Rattle.setup.proofs.Places.{lowest_place}
use Rattle.setup.proofs.Apart.{one_answers}
use Rattle.coordinator.proofs.Fitting.{listed_told, listed_passes}
use Rattle.steps.specs.Join.{known, chosen}

module _ (t : List Node) (k mac : ℕ) where
  -- what holds where the MAC is listed and where it is new
  pub by_known {ℓ} : (P : Type ℓ) → (0 < known t k mac → P) → (known t k mac ≤ 0 → P) → P
  by_known P f g = go (ltb 0 (known t k mac)) refl
    where
      go : (b : Bool) → ltb 0 (known t k mac) ≡ b → P
      go true e = f (ltb-true 0 (known t k mac) e)
      go false e = g (ltb-false 0 (known t k mac) e)

  -- the position chosen is a listed MAC's own, else the lowest free one
  pub chosen_known : 0 < known t k mac → chosen t k mac ≡ known t k mac
  chosen_known l = sym (choose_yes (ltb 0 (known t k mac)) _ _ (lowest_of t Free k) (lt-ltb 0 (known t k mac) l) refl)

  pub chosen_new : known t k mac ≤ 0 → chosen t k mac ≡ lowest_of t Free k
  chosen_new l = sym (choose_no (ltb 0 (known t k mac)) _ (known t k mac) _ (le-ltb 0 (known t k mac) l) refl)

  -- it is one from 1 to k, unless it is 0
  pub chosen_within : (chosen t k mac ≡ 0 → ⊥) → Position k (chosen t k mac)
  chosen_within ne =
      by_known _
      (λ l. rw (chosen_known l) (lowest_place t (Mac mac) k l))
      (λ l. rw (chosen_new l) (lowest_place t Free k (omega (arith, ne, chosen_new l))))

  -- a listed MAC's position is listed, and has that MAC
  known_listed : 0 < known t k mac → listed_at t (known t k mac) ≡ true
  known_listed l = and_left (listed_at t (known t k mac)) _ (lowest_wanted t (Mac mac) k l).passes

  known_mac : 0 < known t k mac → (at t (known t k mac)).mac ≡ mac
  known_mac l = eqb-true (at t (known t k mac)).mac mac (and_right (listed_at t (known t k mac)) _ (lowest_wanted t (Mac mac) k l).passes)

  -- in a fit table nobody else answers to a listed MAC: a board that comes back has its own position chosen
  pub chosen_own : k ≤ 40 → FitTable k t → (q : ℕ) → Listed t q → (at t q).mac ≡ mac → chosen t k mac ≡ q
  chosen_own few f q l m =
      chosen_known here ∙ one_answers k t f mac (known t k mac) q (listed_told t (known t k mac) (known_listed here)) l (known_mac here) m
    where
      here : 0 < known t k mac
      here = (lowest_found t (Mac mac) k q (both (listed_at t q) _ (listed_passes t q l) (eq-eqb (at t q).mac mac m)) (f.boards.within q l).from (omega (arith, (f.boards.within q l).up_to, few))).from
