-- When a coordinator and a table are fit (01, "Fit"), as a test. What it means as plain facts is in Fitness.antt.
use Rattle.std.specs.Prelude.{ℕ, Bool, true, false, ◌&&◌, ◌||◌, List, length, eqb, leb, ltb}
use Rattle.board.specs.declared.Node.{Node}
use Rattle.board.specs.Node.{is_kind, is_mac, is_version}
use Rattle.board.specs.Table.{listed_at}
use Rattle.board.specs.Wanted.{some_listed}
use Rattle.setup.specs.Setup.{setup_fits}
use Rattle.setup.specs.Fit.{table_fits}
use Rattle.coordinator.specs.declared.Exchange.{Exchange}
use Rattle.coordinator.specs.declared.Exchange.TheVariants.{Offer, List as Listing, Forward, Return}
use Rattle.coordinator.specs.declared.Part.{Part}
use Rattle.coordinator.specs.declared.Part.TheVariants.{Search, IdentifyDue, Identify, Present, AssignDue, Assign}
use Rattle.coordinator.specs.declared.Phase.{Phase}
use Rattle.coordinator.specs.declared.Phase.TheVariants.{Resting, Awaiting, ForwardDue, ReturnDue, Seeking, Unknown}
use Rattle.coordinator.specs.declared.Kept.{Kept}
use Rattle.coordinator.specs.declared.Found.{Found}
use Rattle.coordinator.specs.declared.Coordinator.{Coordinator}
use Rattle.coordinator.specs.Phase.{phase_of}

-- a kept request has type 1 to 127, method 1 to 3 and at most 240 payload bytes (01, "Fit")
abbrev pub is_request : Kept → Bool
is_request m = ltb 0 m.message && ltb m.message 128 && ltb 0 m.method && leb m.method 3 && leb m.length 240

-- its response the type above, request + 128, and no more payload than a frame takes (01, "Fit")
abbrev pub is_response : Kept → Bool
is_response m = ltb 128 m.message && leb m.length 240

-- a forward's wait names the requester too, which is listed, and its request is kept (01, "Fit")
abbrev pub exchange_fits : Exchange → ℕ → List Node → Kept → Bool
exchange_fits Offer requester t m = true
exchange_fits Listing requester t m = true
exchange_fits Forward requester t m = listed_at t requester && is_request m
exchange_fits Return requester t m = true

-- every board named by a wait, forward or return is listed, and what is kept for it is as it should be (01, "Fit"); at most one of these at a time, since the phase is one
unfoldable pub phase_fits : Phase → List Node → Kept → Bool
phase_fits Resting t m = true
phase_fits (Awaiting board exchange requester acked) t m = listed_at t board && exchange_fits exchange requester t m
phase_fits (ForwardDue board requester) t m = listed_at t board && (listed_at t requester && is_request m)
phase_fits (ReturnDue board) t m = listed_at t board && is_response m
phase_fits (Seeking position part) t m = true
phase_fits Unknown t m = false

-- what was discovered is within the ranges of a record's type, MAC and version (02, C-11 and C-15)
abbrev pub is_found : Found → Bool
is_found f = is_kind f.kind && is_mac f.mac && is_version f.version

-- when it is needed: from the discovery's response to the end of the exchange (02, C-11)
abbrev pub part_fits : Part → Found → Bool
part_fits Search f = true
part_fits IdentifyDue f = is_found f
part_fits Identify f = is_found f
part_fits Present f = is_found f
part_fits AssignDue f = is_found f
part_fits Assign f = is_found f

-- the position at stake is one of 1 to k, listed or not (02, C-11: "Its wait may name a board that isn't listed; fit allows that")
abbrev pub seek_fits : Phase → ℕ → Found → Bool
seek_fits Resting k f = true
seek_fits (Awaiting board exchange requester acked) k f = true
seek_fits (ForwardDue board requester) k f = true
seek_fits (ReturnDue board) k f = true
seek_fits (Seeking position part) k f = leb 1 position && leb position k && part_fits part f
seek_fits Unknown k f = true

-- joins held only if someone is listed (01, "Fit")
unfoldable pub hold_fits : ℕ → List Node → Bool
hold_fits held t = eqb held 0 || (eqb held 1 && some_listed t)

-- coordinator and table are fit (01, "Fit"; 02, C-11: the memory of a discovery that was started is 0 or 1)
unfoldable pub fits : Coordinator → List Node → Bool
fits c t =
    eqb (length t) 40 &&
    (setup_fits c.setup &&
    (table_fits c.setup.k t &&
    (phase_fits (phase_of c.stand) t c.kept &&
    (seek_fits (phase_of c.stand) c.setup.k c.found &&
    (leb c.searched 1 && (hold_fits c.held t && leb c.last c.setup.k))))))
