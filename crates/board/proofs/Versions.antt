-- The laws of a board's version: 1 or 2 is what the test takes, and what a join's version becomes (02, C-15).
use Prim.Native.Nat.{ℕ}
use mathlib.Core.Path.{◌≡◌, refl}
use mathlib.Core.Logic.{◌⊎◌, inl, inr}
use mathlib.Core.Bool.{Bool, true, false}
use lib.Dec.{eqb}
use borrow.Author.Tests.{eqb-true, eq-eqb}
use Rattle.ground.specs.Choose.{choose}
use Rattle.ground.proofs.Choices.{or_left, or_right, either}
use Rattle.board.specs.Node.{is_version, version_of}

pub version_told : (v : ℕ) → is_version v ≡ true → (v ≡ 1) ⊎ (v ≡ 2)
version_told v h = go (either (eqb v 1) (eqb v 2) h)
  where
    go : (eqb v 1 ≡ true) ⊎ (eqb v 2 ≡ true) → (v ≡ 1) ⊎ (v ≡ 2)
    go (inl e) = inl (eqb-true v 1 e)
    go (inr e) = inr (eqb-true v 2 e)

pub version_passes : (v : ℕ) → (v ≡ 1) ⊎ (v ≡ 2) → is_version v ≡ true
version_passes v (inl e) = or_left (eqb v 1) (eqb v 2) (eq-eqb v 1 e)
version_passes v (inr e) = or_right (eqb v 1) (eqb v 2) (eq-eqb v 2 e)

-- the version of a record by the one that a join gives is 1 or 2, and that of such a one is itself
pub version_is : (v : ℕ) → (version_of v ≡ 1) ⊎ (version_of v ≡ 2)
unfolding choose
version_is v = go (eqb v 1)
  where
    go : (b : Bool) → (◌≡◌ {A = ℕ} (choose b 1 2) 1) ⊎ (◌≡◌ {A = ℕ} (choose b 1 2) 2)
    go true = inl refl
    go false = inr refl

pub version_again : (v : ℕ) → (v ≡ 1) ⊎ (v ≡ 2) → version_of v ≡ v
unfolding choose
version_again v (inl e) = rw e refl
version_again v (inr e) = rw e refl
