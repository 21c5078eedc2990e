-- Two answers that say the same are the same.
use Prim.Native.Nat.{ℕ}
use mathlib.Core.Path.{◌≡◌, refl, sym, ap, ◌∙◌}
use mathlib.Core.List.{List, [], ◌∷◌}
use lib.ListN.{get_or}
use lib.Dec.{eqb}
use Rattle.std.specs.Prelude.{Option, Some, None, Result}
use Rattle.ground.specs.Choose.{choose}
use Rattle.refusal.specs.declared.Refusal.{Refusal}
use Rattle.refusal.proofs.Numbers.{same_said}
use Rattle.shared.specs.declared.Found.{Found}
use Rattle.shared.specs.declared.Found.TheVariants.{Network, Factory}
use Rattle.shared.specs.Holder.{found_values, told_found}
use Rattle.shared.specs.Store.{told_stored}

-- who has these numbers
found_by : List ℕ → Option Found
found_by l = choose (eqb (get_or l 0 0) 1) (Some (Network (get_or l 1 0))) (choose (eqb (get_or l 0 0) 2) (Some (Factory (get_or l 1 0))) None)

said_by : (x : Option Found) → found_by (found_values x) ≡ x
unfolding found_by choose
said_by None = refl
said_by (Some (Network slot)) = refl
said_by (Some (Factory slot)) = refl

pub same_found : (r q : Result (Option Found) Refusal) → told_found r ≡ told_found q → r ≡ q
same_found = same_said found_values (λ x y e. sym (said_by x) ∙ ap found_by e ∙ said_by y)

pub same_stored : (r q : Result ℕ Refusal) → told_stored r ≡ told_stored q → r ≡ q
same_stored = same_said (λ slot. slot ∷ []) (λ n m e. ap (λ (l : List ℕ). get_or l 0 0) e)
