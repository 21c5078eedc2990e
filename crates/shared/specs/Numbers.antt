-- The numbers by which C is told who holds a record and where it was stored (house).
use Rattle.std.specs.Prelude.{ℕ, ◌+◌, List, length, eqb}
use Rattle.ground.specs.Choose.{choose}
use Rattle.refusal.specs.Refusal.{Told, value}
use Rattle.shared.specs.declared.HolderNumbers.{HolderNumbers}
use Rattle.shared.specs.declared.StoreNumbers.{StoreNumbers}
use Rattle.shared.specs.Image.{start_of}

-- of who holds it: the refusal's number or 0, the image's number, the slot, and where the record stands in that image and how long it is; 0 where there is none
unfoldable pub holder_numbers : Told → List ℕ → HolderNumbers
holder_numbers t bytes =
    record {
      refusal = t.number;
      image = value t 0;
      slot = value t 1;
      start = choose (eqb (value t 1) 0) 0 (start_of (value t 1) + 2);
      length = length bytes;
    }

-- of a record that was stored: the refusal's number or 0, the slot, and which bytes of the image were written; 0 on a refusal
unfoldable pub store_numbers : Told → List ℕ → StoreNumbers
store_numbers t bytes =
    record {
      refusal = t.number;
      slot = value t 0;
      start = choose (eqb (value t 0) 0) 0 (start_of (value t 0));
      length = choose (eqb (value t 0) 0) 0 (2 + length bytes);
    }
