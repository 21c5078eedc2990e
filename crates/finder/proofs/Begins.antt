-- When a frame can begin at a start, and what is known of one that does (01, "Finder"; 02, C-14).
use Prim.Native.Nat.{ℕ, ◌+◌, ◌-◌, ◌≤◌}
use native.Mathlib.Omega.{arith}
use mathlib.Core.Path.{◌≡◌, refl, sym, ap, ◌∙◌}
use mathlib.Core.Bool.{Bool, true, false, ◌&&◌}
use mathlib.Core.List.{List}
use lib.ListN.{length, take, drop}
use lib.Dec.{leb}
use borrow.Author.Tests.{leb-true, le-leb}
use Rattle.ground.proofs.Choices.{and_left, and_right, both, not_left}
use Rattle.fletcher.specs.Fletcher.{is_good}
use Rattle.frame.specs.Frame.{takes_subnet}
use Rattle.finder.specs.Finder.{length_at, subnet_at, holds_frame}
use Rattle.finder.specs.Trail.{has_room, can_begin}

-- the frame of a start's n is short enough, and ends before the stretch does
pub record Room (s : List ℕ) (i : ℕ) : Type 0 where
  pub small : length_at s i ≤ 240
  pub inside : i + (12 + length_at s i) ≤ length s

-- a start holds a frame: its subnet is taken, there is room for it, and it is good
pub record Held (ours : ℕ) (s : List ℕ) (i : ℕ) : Type 0 where
  pub taken : takes_subnet ours (subnet_at s i) ≡ true
  pub room : Room s i
  pub good : is_good (take (12 + length_at s i) (drop i s)) ≡ true

and_grouped : (a b c : Bool) → (a && (b && c)) ≡ (a && b && c)
and_grouped true b c = refl
and_grouped false b c = refl

module _ (ours : ℕ) (s : List ℕ) (i : ℕ) where
  -- a start holds a frame where one can begin, and is good
  begun : holds_frame ours s i ≡ (can_begin ours s i && is_good (take (12 + length_at s i) (drop i s)))
  unfolding holds_frame
  begun = ap (λ (x : Bool). takes_subnet ours (subnet_at s i) && x) (and_grouped (leb (length_at s i) 240) _ _) ∙ and_grouped (takes_subnet ours (subnet_at s i)) (has_room s i) _

  -- "passes over such frames as if not good" (02, C-14)
  pub passed_over : takes_subnet ours (subnet_at s i) ≡ false → holds_frame ours s i ≡ false
  passed_over e = begun ∙ not_left (can_begin ours s i) _ (not_left (takes_subnet ours (subnet_at s i)) (has_room s i) e)

  -- what it says of a start that one can begin there
  pub begins_in : can_begin ours s i ≡ true → Room s i
  begins_in h = record { small = leb-true _ _ (and_left (leb (length_at s i) 240) _ has); inside = omega (arith, leb-true (12 + length_at s i) (length s - i) (and_right (leb (length_at s i) 240) _ has)) }
    where
      has : has_room s i ≡ true
      has = and_right (takes_subnet ours (subnet_at s i)) (has_room s i) h

  -- and that it holds one
  pub held : holds_frame ours s i ≡ true → Held ours s i
  held h = record { taken = and_left (takes_subnet ours (subnet_at s i)) (has_room s i) can; room = begins_in can; good = and_right (can_begin ours s i) _ (sym begun ∙ h) }
    where
      can : can_begin ours s i ≡ true
      can = and_left (can_begin ours s i) _ (sym begun ∙ h)

  pub holds : Held ours s i → holds_frame ours s i ≡ true
  holds h = begun ∙ both (can_begin ours s i) _ (both (takes_subnet ours (subnet_at s i)) (has_room s i) h.taken there) h.good
    where
      there : has_room s i ≡ true
      there = both (leb (length_at s i) 240) (leb (12 + length_at s i) (length s - i)) (le-leb _ _ h.room.small) (le-leb (12 + length_at s i) (length s - i) (omega (arith, h.room.inside)))
