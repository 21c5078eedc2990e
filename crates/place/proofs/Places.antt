-- A position among lent records.
use Prim.Native.Nat.{ℕ, zero, suc, ◌-◌, ◌≤◌, ◌<◌, ◌^◌, ◌*◌}
use native.Mathlib.Omega.{arith}
use mathlib.Core.Path.{◌≡◌, refl, sym, ap, ◌∙◌}
use mathlib.Core.Bool.{Bool, true, false}
use mathlib.Core.List.{List, [], ◌∷◌}
use lib.Dec.{ltb, leb}
use lib.ListN.{length, get_or}
use borrow.Author.Tests.{ltb-true, ltb-false, leb-true, leb-false}
use Rattle.ground.specs.Choose.{choose}
use Rattle.board.specs.declared.Node.{Node}
use Rattle.board.specs.Node.{none}
use Rattle.board.specs.Table.{at}
use Rattle.board.proofs.Positions.{at_position}
use Rattle.place.specs.Place.{place_of}

-- a record's offset is a word's number
pub off_small : (i n : ℕ) → n * 32 < 2 ^ 63 → i < n → i * 32 < 2 ^ 64
off_small i n h l = omega (arith, h, l)

get_d_past : (ys : List Node) (i : ℕ) → length ys ≤ i → get_or ys i none ≡ none
get_d_past [] i h = refl
get_d_past (y ∷ ys) zero h = absurd (let z : ⊥ = omega arith in z)
get_d_past (y ∷ ys) (suc i) h = get_d_past ys i (omega arith)

-- where a position stands among n
standing : (p n : ℕ) (R : ℕ → Type 0) → (0 < p → p ≤ n → R (p - 1)) → (n < p → R n) → (p ≡ 0 → R n) → R (place_of p n)
unfolding choose
standing p n R f g h = go (ltb 0 p) refl
  where
    go₂ : 0 < p → (b : Bool) → leb p n ≡ b → R (choose b (p - 1) n)
    go₂ l true e = f l (leb-true p n e)
    go₂ l false e = g (leb-false p n e)

    go : (b : Bool) → ltb 0 p ≡ b → R (choose b (choose (leb p n) (p - 1) n) n)
    go true e = go₂ (ltb-true 0 p e) (leb p n) refl
    go false e = h (omega (arith, ltb-false 0 p e))

at_place : (ys : List Node) (p : ℕ) → get_or ys (place_of p (length ys)) none ≡ at ys p
unfolding at
at_place ys p = standing p (length ys) (λ i. get_or ys i none ≡ at ys p) (λ l h. sym (at_position ys p l))
    (λ h. get_d_past ys (length ys) (omega arith) ∙ sym (at_position ys p (omega (arith, h)) ∙ get_d_past ys (p - 1) (omega (arith, h))))
    (λ z. get_d_past ys (length ys) (omega arith) ∙ sym (ap (λ (i : ℕ). get_or (none ∷ ys) i none) z))

-- the record there is the position's; past the end it is the blank one
pub place_at : (ys : List Node) (p i : ℕ) → i ≡ place_of p (length ys) → get_or ys i none ≡ at ys p
place_at ys p i e = ap (λ (j : ℕ). get_or ys j none) e ∙ at_place ys p

pub place_past : (ys : List Node) (p i : ℕ) → i ≡ place_of p (length ys) → length ys ≤ i → none ≡ at ys p
place_past ys p i e h = sym (get_d_past ys i h) ∙ place_at ys p i e
