-- Who is where is what the last joins told: type, version and MAC of each listed board, and so the bytes of a list, the index in an offer or a list, and where a request goes.
use Prim.Native.Nat.{ℕ}
use mathlib.Core.Path.{◌≡◌, sym, ap, ◌∙◌}
use mathlib.Core.List.{List}
use Rattle.ground.proofs.Choices.{or_left}
use Rattle.frame.specs.Frame.{header_of, payload_of}
use Rattle.nodelist.specs.List.{list_for}
use Rattle.nodelist.proofs.Theorems.{columns_list}
use Rattle.series.specs.Series.{Input, World, Fresh, after, waited_for, waits_in}
use Rattle.series.specs.Observed.{nothing, seen}
use Rattle.series.specs.Demand.{turn_with}
use Rattle.series.specs.AsJoined.{noted, AsJoined}
use Rattle.series.specs.Ours.{ours}
use Rattle.staying.proofs.WhoStays.{holds}
use Rattle.staying.proofs.Noted.{told_version_lem, told_kind_column, told_version_column}
use Rattle.staying.proofs.Carried.{turn_carries}
use Rattle.staying.proofs.Routed.{request_forwarded}
use Rattle.staying.proofs.StoredIndex.{stored_index_lem}

-- a list is that of what the joins told, in the form of the version that the board's own join told
pub told_list : (k : ℕ) (w : World) → Fresh ours k w → (is : List Input) (room : ℕ) → waits_in (ours.step (after ours w is) (turn_with room)).says ≡ 2 → payload_of (header_of (ours.step (after ours w is) (turn_with room)).bytes).subnet (ours.step (after ours w is) (turn_with room)).bytes ≡ list_for ((seen ours w nothing is).who (waited_for (ours.step (after ours w is) (turn_with room)).says)).version (after ours w is).coordinator.setup.internal (noted (seen ours w nothing is))
told_list k w f is room e =
    let g = holds k w f is in
    let sent = turn_carries (after ours w is).coordinator (after ours w is).nodes room in
    sent.list e ∙ ap (λ (v : ℕ). list_for v (after ours w is).coordinator.setup.internal (after ours w is).nodes) (sym (told_version_lem g _ (sent.board e))) ∙ columns_list _ (after ours w is).coordinator.setup.internal (after ours w is).nodes (noted (seen ours w nothing is)) (told_kind_column g) (told_version_column g)

pub as_joined : AsJoined ours
as_joined =
    record {
      who = λ k w f is p l. sym ((holds k w f is).agrees.who p l);
      list = told_list;
      index = λ k w f is room e. stored_index_lem.carried k w f is room (or_left _ _ e) ∙ stored_index_lem.told k w f is _;
      route = λ k w f is received room then request taken turned. (request_forwarded (holds k w f is) received request room then taken turned).board;
    }
