-- Choosing by a test.
use Rattle.std.specs.Prelude.{Bool, true, false}

-- the first if the test holds, else the second
unfoldable pub choose {ℓ} : {A : Type ℓ} → Bool → A → A → A
choose true a b = a
choose false a b = b
