-- Each board's index is kept in its record: after any series the stored index is the counted one, at every position, and it is what goes out.
use Prim.Native.Nat.{ℕ}
use mathlib.Core.Path.{◌≡◌, ◌∙◌}
use mathlib.Core.List.{List}
use Rattle.board.specs.Wanted.{index_of}
use Rattle.board.proofs.SameKinds.{kinds_index}
use Rattle.series.specs.Series.{Input, World, Fresh, left, after}
use Rattle.series.specs.Demand.{frame_with, turn_with}
use Rattle.series.specs.StoredIndex.{stored_at, StoredIndex}
use Rattle.series.specs.Ours.{ours}
use Rattle.lasting.proofs.Series.{lasting, lasting_fit}
use Rattle.staying.proofs.WhoStays.{holds}
use Rattle.staying.proofs.Noted.{told_kinds}
use Rattle.staying.proofs.Carried.{turn_carries}
use Rattle.staying.proofs.Routed.{request_forwarded, forward_index}
use Rattle.staying.proofs.Acknowledged.{frame_signs}

pub stored_index_lem : StoredIndex ours
stored_index_lem =
    record {
      counted = counted;
      told = λ k w f is p. counted k w f is p ∙ kinds_index (told_kinds (holds k w f is)) p;
      carried = λ k w f is room. (turn_carries (after ours w is).coordinator (after ours w is).nodes room).index;
      forwarded = λ k w f is received room then request taken. forward_index (ours.step (left (ours.step (after ours w is) (frame_with received room))) (turn_with then)) (request_forwarded (holds k w f is) received request room then taken);
      acknowledged = λ k w f is received room p from. frame_signs (after ours w is).coordinator (after ours w is).nodes (lasting f is).fit received room p from;
    }
  where
    counted : (k : ℕ) (w : World) → Fresh ours k w → (is : List Input) (p : ℕ) → stored_at (after ours w is) p ≡ index_of (after ours w is).nodes p
    counted k w f is p = (lasting_fit f is).table.numbered p
