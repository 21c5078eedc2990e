-- `shared::occupant` meets its contract.
use mathlib.Core.Bool.{Bool, true, false}
use mathlib.Core.Path.{◌≡◌, refl, ap, ◌∙◌}
use Rattle.std.specs.Bool.{then_some}
use Rattle.std.specs.Prelude.{Some, None}
use Prim.Native.Nat.{ℕ}
use Rattle.ground.specs.Choose.{choose}
use Rattle.shared.specs.Image.{sector_at}
use Rattle.shared.specs.Looking.{occupant}
use Rattle.shared.proofs.occupant.Goals as goal

-- a value where a test holds is a choice by the test
chosen : (b : Bool) (x : ℕ) → then_some b x ≡ choose b (Some x) None
unfolding choose
chosen true x = refl
chosen false x = refl

pub returns : goal.returns
unfolding occupant
returns c =
    let args = c.args in
    (rw c.start_of-start.ensures at c.then_some.ensures) ∙ chosen _ _ ∙ ap (λ (b : Bool). choose b (Some (sector_at args.image.now args.slot)) None) (rw c.start_of-start.ensures at c.is_length.ensures)
