-- In which subnet bytes are read (02, C-15): in ours where they carry another than 2 or no 1.0 board may answer, else in 2.
use Prim.Native.Nat.{ℕ}
use mathlib.Core.Path.{◌≡◌, refl, sym}
use mathlib.Core.Bool.{Bool, true, false, ◌&&◌}
use mathlib.Core.List.{List}
use lib.Dec.{eqb}
use borrow.Author.Tests.{eq-eqb, ne_eqb}
use Rattle.ground.specs.Choose.{choose}
use Rattle.ground.proofs.Choices.{choose_yes, choose_no, both, not_left, not_right}
use Rattle.frame.specs.Frame.{header_of}
use Rattle.setup.specs.Setup.{old_subnet}

-- the subnet by whether a 1.0 board may answer, by ours and by the bytes: what `read_in` says of a phase
abbrev pub read_by : Bool → ℕ → List ℕ → ℕ
read_by old ours b = choose (old && eqb (header_of b).subnet old_subnet) old_subnet ours

module _ (old : Bool) (ours : ℕ) (b : List ℕ) where
  pub read_elsewhere : ((header_of b).subnet ≡ old_subnet → ⊥) → read_by old ours b ≡ ours
  read_elsewhere ne = sym (choose_no _ _ _ _ (not_right old _ (ne_eqb _ old_subnet ne)) refl)

  pub read_later : old ≡ false → read_by old ours b ≡ ours
  read_later h = sym (choose_no _ _ _ _ (not_left _ (eqb (header_of b).subnet old_subnet) h) refl)

  pub read_old : old ≡ true → (header_of b).subnet ≡ old_subnet → read_by old ours b ≡ old_subnet
  read_old h e = sym (choose_yes _ _ _ _ (both _ _ h (eq-eqb _ old_subnet e)) refl)
