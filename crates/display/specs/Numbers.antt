-- The numbers by which C is told a reading (house).
use Rattle.std.specs.Prelude.{eqb}
use Rattle.ground.specs.Choose.{choose}
use Rattle.refusal.specs.Refusal.{Told, value}
use Rattle.display.specs.declared.TextNumbers.{TextNumbers}

-- of a Set Display: the refusal's number or 0, node type, and where its message stands and how long it is; all 0 on a refusal
unfoldable pub display_numbers : Told → TextNumbers
display_numbers t = record { refusal = t.number; kind = value t 0; major = 0; minor = 0; start = choose (eqb t.number 0) 2 0; length = value t 1 }

-- the same of a Set Diagnostics, with the fault codes
unfoldable pub diagnostics_numbers : Told → TextNumbers
diagnostics_numbers t =
    record { refusal = t.number; kind = value t 0; major = value t 1; minor = value t 2; start = choose (eqb t.number 0) 4 0; length = value t 3 }
