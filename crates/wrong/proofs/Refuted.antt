-- Each wrong panel breaks a statement of demand 3. The facts about its series, each `refl`, are computed.
use native.Mathlib.Omega.{arith}
use mathlib.Core.Path.{refl}
use mathlib.Core.List.{[], ◌∷◌, ◌++◌}
use Rattle.steps.specs.declared.Event.TheVariants.{Join, Turn, Frame, Quiet}
use Rattle.steps.specs.After.{After}
use Rattle.series.specs.Series.{Input, World, Fresh, fresh_start}
use Rattle.series.specs.Demand.{WhoStays, NoTwoAlike, FitForEver, RoundRobin, Bounded, NeverStuck, Starts, TakesJoins}
use Rattle.series.specs.AsJoined.{AsJoined}
use Rattle.series.specs.StoredIndex.{StoredIndex}
use Rattle.series.specs.Exchange.{OneJoin, Seldom}
use Rattle.series.specs.Wire.{OnTheWire}
use Rattle.series.specs.Others.{OthersUnheard}
use Rattle.series.specs.OldBoards.{OldBoards, OldHeard}
use Rattle.wrong.specs.Wrong.{stepping, quiet_does_nothing, quiet_changes_nothing, quiet_never_drops, offers_one_board, only_looks_busy, waits_for_ever, counts_since_joining, restarts_round, hears_anyone, hears_others, spares_for_others, deaf_to_old, speaks_in_ours, takes_every_join, lists_twice, keeps_type, keeps_version, whole_lists, stands_only, keeps_indexes, counts_from_one, joins_twice, joins_inside, misses_in_assign, discovers_again, tells_another, takes_no_setup, takes_no_join}
use Rattle.wrong.specs.Trial.{before, begun, one, two, sixteen, sixteen_types, joins_old, turn, quiet, misses_twice, answers_between, another_between, other_request, old_request, other_between, listed, echo, eighteen_quiets, offered_once, joins_again, came_back_old, retyped, retyped_below, retyped_listed, dropped_below, joined_below, asks_for_type, first_round, nine_lists, both_join, both_old, old_and_later, two_offers, joined_once, listed_once, discover, second_found, found_below, first_found, found_retyped, two_discoveries}
use Rattle.wrong.proofs.Opened.{opened}
use Rattle.wrong.proofs.Laws.{outstays, leaves_early, leaves_unasked, passed_over, starved, stuck, lingers, alike, mistyped, misversioned, miscounted, mistold, miscarried, misforwarded, misacknowledged, mislisted, misindexed, misrouted, joins_again_lem, joins_inside_lem, discovers_often, misdirected, heard_others, spared_by_others, heard_old, passed_by, missent, crowded, untold, turned_away, not_started}

-- a fresh start with one address, with two, and with sixteen
from_one : {step : World → Input → After} → Fresh (stepping step) 1 (begun one)
unfolding opened
from_one = fresh_start before one 3 1 9 4 refl refl

from_two : {step : World → Input → After} → Fresh (stepping step) 2 (begun two)
unfolding opened
from_two = fresh_start before two 3 1 9 4 refl refl

from_sixteen : {step : World → Input → After} → Fresh (stepping step) 16 (begun sixteen)
unfolding opened
from_sixteen = fresh_start before sixteen 3 1 9 4 refl refl

-- a board that misses three messages in a row stays
pub quiet_does_nothing_refuted : WhoStays quiet_does_nothing → ⊥
unfolding opened
quiet_does_nothing_refuted = outstays from_one misses_twice quiet 1 refl refl refl

pub quiet_never_drops_refuted : WhoStays quiet_never_drops → ⊥
unfolding opened
quiet_never_drops_refuted = outstays from_one misses_twice quiet 1 refl refl refl

pub hears_anyone_refuted : WhoStays hears_anyone → ⊥
unfolding opened
hears_anyone_refuted = outstays from_two another_between quiet 1 refl refl refl

-- the furnace of another system answers in its place: its misses are cleared, and the board that is gone stays
pub spares_for_others_refuted : WhoStays spares_for_others → ⊥
unfolding opened
spares_for_others_refuted = outstays from_one other_between quiet 1 refl refl refl

pub spares_for_others_unheard : OthersUnheard spares_for_others → ⊥
unfolding opened
spares_for_others_unheard = spared_by_others from_one misses_twice other_request 1 refl refl

-- and its request is delivered
pub hears_others_refuted : OthersUnheard hears_others → ⊥
unfolding opened
hears_others_refuted = heard_others from_one offered_once other_request refl refl refl

-- a board is dropped at its first miss since it was heard
pub counts_since_joining_refuted : WhoStays counts_since_joining → ⊥
unfolding opened
counts_since_joining_refuted = leaves_early from_one answers_between quiet 1 refl refl refl

-- of two boards, two offers go to the first
pub offers_one_board_refuted : RoundRobin offers_one_board → ⊥
unfolding opened
offers_one_board_refuted = passed_over from_two both_join two_offers 2 (1 ∷ 1 ∷ []) refl refl refl refl

pub restarts_round_refuted : RoundRobin restarts_round → ⊥
unfolding opened
restarts_round_refuted = passed_over from_two both_join two_offers 2 (1 ∷ 1 ∷ []) refl refl refl refl

-- eighteen accepted steps, and no offer
pub only_looks_busy_refuted : Bounded only_looks_busy → ⊥
unfolding opened
only_looks_busy_refuted = starved from_one first_round nine_lists 1 [] refl refl refl refl

pub quiet_changes_nothing_refuted : Bounded quiet_changes_nothing → ⊥
unfolding opened
quiet_changes_nothing_refuted = starved from_one listed eighteen_quiets 1 [] refl refl refl refl

-- the wait after the first offer does not end
pub waits_for_ever_refuted : NeverStuck waits_for_ever → ⊥
unfolding opened
waits_for_ever_refuted = stuck from_one offered_once refl refl refl

-- nor does it end where a quiet is accepted and changes nothing
pub quiet_changes_nothing_lingers : NeverStuck quiet_changes_nothing → ⊥
unfolding opened
quiet_changes_nothing_lingers = lingers from_one offered_once refl refl refl

-- a board that joins again has two positions, and the next step is refused 22
pub lists_twice_refuted : NoTwoAlike lists_twice → ⊥
unfolding opened
lists_twice_refuted = alike from_two joins_again 1 2 7 refl refl refl refl refl

pub lists_twice_unfit : FitForEver lists_twice → ⊥
unfolding opened
lists_twice_unfit s = s 2 (begun two) from_two joins_again turn refl

-- a furnace that joins again as an air handler is a furnace still; so is one that is found by a discovery
pub keeps_type_refuted : AsJoined (keeps_type (Join 0 0 0 0)) → ⊥
unfolding opened
keeps_type_refuted = mistyped from_one retyped 1 refl refl

pub keeps_type_found_refuted : AsJoined (keeps_type Frame) → ⊥
unfolding opened
keeps_type_found_refuted = mistyped from_two found_retyped 1 refl refl

-- and whoever looks at no record sees it: in the list, in the index of the air handler above it, and where a request for an air handler goes
pub keeps_type_listed : AsJoined (keeps_type (Join 0 0 0 0)) → ⊥
unfolding opened
keeps_type_listed = mislisted from_one retyped 1 refl refl

pub keeps_type_indexed : AsJoined (keeps_type (Join 0 0 0 0)) → ⊥
unfolding opened
keeps_type_indexed = misindexed from_two retyped_listed refl refl

pub keeps_type_routed : AsJoined (keeps_type (Join 0 0 0 0)) → ⊥
unfolding opened
keeps_type_routed = misrouted from_two (retyped_listed ++ turn ∷ []) asks_for_type refl refl refl refl

-- a board that comes back as a 1.0 board is a later one still
pub keeps_version_refuted : AsJoined keeps_version → ⊥
unfolding opened
keeps_version_refuted = misversioned from_one came_back_old 1 refl refl

-- of two 1.0 boards of one type both stand in the list
pub whole_lists_refuted : AsJoined whole_lists → ⊥
unfolding opened
whole_lists_refuted = mislisted from_two both_old 2 refl refl

-- a later board is heard in the subnet of 1.0 boards
pub hears_others_old : OldBoards hears_others → ⊥
unfolding opened
hears_others_old = heard_old from_one offered_once old_request.received refl refl refl refl refl

-- a 1.0 board that answers in its subnet is not heard
pub deaf_to_old_refuted : OldHeard deaf_to_old → ⊥
unfolding opened
deaf_to_old_refuted = passed_by from_one (joins_old 2 7 ∷ turn ∷ []) old_request.received refl refl refl refl

-- it is sent the list in our subnet
pub speaks_in_ours_refuted : OnTheWire speaks_in_ours → ⊥
unfolding opened
speaks_in_ours_refuted = missent from_one (joins_old 2 7 ∷ []) turn 3 2 refl refl refl refl refl

-- it is listed with fifteen other types
pub takes_every_join_refuted : OldBoards takes_every_join → ⊥
unfolding opened
takes_every_join_refuted = crowded from_sixteen sixteen_types 1 refl refl refl

-- a 1.0 board is not told of a later one
pub stands_only_refuted : OldBoards stands_only → ⊥
unfolding opened
stands_only_refuted = untold from_two old_and_later 3 refl refl refl refl

-- a board keeps its index when one below it joins again as its type, when another one of its type joins below it, when one below it is found, and when one below it is dropped
pub keeps_indexes_retyped : StoredIndex (keeps_indexes (Join 0 0 0 0)) → ⊥
unfolding opened
keeps_indexes_retyped = miscounted from_two retyped_below 2 refl

pub keeps_indexes_joined : StoredIndex (keeps_indexes (Join 0 0 0 0)) → ⊥
unfolding opened
keeps_indexes_joined = miscounted from_two joined_below 2 refl

pub keeps_indexes_found : StoredIndex (keeps_indexes Frame) → ⊥
unfolding opened
keeps_indexes_found = miscounted from_two found_below 2 refl

pub keeps_indexes_dropped : StoredIndex (keeps_indexes Quiet) → ⊥
unfolding opened
keeps_indexes_dropped = miscounted from_two (dropped_below 2) 2 refl

-- and the next step is refused 22
pub keeps_indexes_joined_unfit : FitForEver (keeps_indexes (Join 0 0 0 0)) → ⊥
unfolding opened
keeps_indexes_joined_unfit s = s 2 (begun two) from_two joined_below turn refl

pub keeps_indexes_found_unfit : FitForEver (keeps_indexes Frame) → ⊥
unfolding opened
keeps_indexes_found_unfit s = s 2 (begun two) from_two found_below turn refl

pub keeps_indexes_dropped_unfit : FitForEver (keeps_indexes Quiet) → ⊥
unfolding opened
keeps_indexes_dropped_unfit s = s 2 (begun two) from_two (dropped_below 2) turn refl

-- a panel that keeps the old type counts by it, and not by what the joins told
pub keeps_type_counted : StoredIndex (keeps_type (Join 0 0 0 0)) → ⊥
unfolding opened
keeps_type_counted = mistold from_two retyped_below 2 refl

-- an offer, a forward and an ACK that count from one
pub counts_from_one_offered : StoredIndex (counts_from_one Turn) → ⊥
unfolding opened
counts_from_one_offered = miscarried from_one listed_once refl refl

pub counts_from_one_forwarded : StoredIndex (counts_from_one Turn) → ⊥
unfolding opened
counts_from_one_forwarded = misforwarded from_two (retyped_listed ++ turn ∷ []) asks_for_type refl refl refl refl

pub counts_from_one_acknowledged : StoredIndex (counts_from_one Frame) → ⊥
unfolding opened
counts_from_one_acknowledged = misacknowledged from_one listed echo.received 1 refl refl refl

-- a board that is found joins by its answer to the discovery, and again by its Set Address Response
pub joins_twice_refuted : OneJoin joins_twice → ⊥
unfolding opened
joins_twice_refuted = joins_again_lem from_one [] discover second_found (record { discovers = refl; taken = refl; on = refl }) refl

-- another board joins while one is looked for
pub joins_inside_refuted : OneJoin joins_inside → ⊥
unfolding opened
joins_inside_refuted = joins_inside_lem from_one [] discover [] (record { discovers = refl; taken = refl; on = refl }) refl 5 8 1 2 refl refl refl

-- a board with two misses that does not answer Set Address is dropped, though no message to it went unanswered
pub misses_in_assign_refuted : WhoStays misses_in_assign → ⊥
unfolding opened
misses_in_assign_refuted = leaves_unasked from_two first_found quiet 1 refl refl refl

-- two discoveries after one offer
pub discovers_again_refuted : Seldom discovers_again → ⊥
unfolding opened
discovers_again_refuted = discovers_often from_two joined_once two_discoveries refl refl refl

-- the offer to the first board, at address 2, names the second position, which has address 5
pub tells_another_refuted : OnTheWire tells_another → ⊥
unfolding opened
tells_another_refuted = misdirected from_two listed_once turn 2 5 refl refl refl refl refl

-- nothing ever happens
pub takes_no_setup_refuted : Starts takes_no_setup → ⊥
unfolding opened
takes_no_setup_refuted = not_started takes_no_setup before one 3 1 9 4 refl refl refl refl

pub takes_no_join_refuted : TakesJoins takes_no_join → ⊥
unfolding opened
takes_no_join_refuted = turned_away from_one [] 2 7 1 2 (record { kind_fits = refl; mac_fits = refl; rest = refl; nothing_owed = refl; not_held = refl; few_types = refl; place = omega arith }) refl
