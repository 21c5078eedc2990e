-- All that a series computes with, by one name: to open it opens every definition on its line.
use Prim.Native.Nat.{ℕ}
use Rattle.ground.specs.Choose.{choose}
use Rattle.ground.specs.Below.{all, some, count, up_from, first_or, highest, among}
use Rattle.fletcher.specs.Fletcher.{sums_from}
use Rattle.frame.specs.Frame.{reading, payload_of, frame_of}
use Rattle.word.specs.Words.{bytes_of, value_of, word_at}
use Rattle.board.specs.Table.{at, put}
use Rattle.board.specs.Wanted.{lowest_of, highest_listed, index_of, some_listed}
use Rattle.board.specs.Round.{round, next_listed}
use Rattle.board.specs.Index.{numbered}
use Rattle.board.specs.Change.{owe_all, relisted}
use Rattle.setup.specs.Setup.{are_pool, address, setup_fits}
use Rattle.setup.specs.Fit.{record_fits, are_apart, are_numbered, table_fits}
use Rattle.board.specs.Types.{type_count, too_many_types}
use Rattle.nodelist.specs.Condensed.{standing_to, filled_to, condensed}
use Rattle.nodelist.specs.List.{node_list, list_for, same_bytes}
use Rattle.routing.specs.Route.{has_kind, priority_kind, at_socket, named_position, route_of}
use Rattle.routing.specs.Priority.{priority_list}
use Rattle.message.specs.Message.{to_board, own_header, signed, broadcast_header, assignment}
use Rattle.accept.specs.Accept.{is_ack, heard_after_offer, heard_after_list, heard_after_forward, heard_after_return}
use Rattle.accept.specs.Replies.{heard_in_search, heard_in_identify, is_assignment, heard_in_assign}
use Rattle.coordinator.specs.Phase.{phase_of, stand_of}
use Rattle.coordinator.specs.Fit.{phase_fits, hold_fits, fits}
use Rattle.steps.specs.Start.{start_of}
use Rattle.steps.specs.Join.{join_of}
use Rattle.steps.specs.Turn.{turn_in}
use Rattle.steps.specs.Receive.{receive_in}
use Rattle.steps.specs.Quiet.{quiet_in}
use Rattle.steps.specs.Discover.{discover_of}
use Rattle.series.specs.Series.{after, offers, accepted, stays}
use Rattle.series.specs.Observed.{seen}
use Rattle.series.specs.AsJoined.{noted}
use Rattle.series.specs.Exchange.{goes_on, course, discoveries, peopled}

unfoldable pub opened : ℕ
unfolding choose all some count up_from first_or highest among sums_from reading payload_of frame_of bytes_of value_of word_at at put lowest_of highest_listed index_of some_listed round next_listed numbered owe_all relisted are_pool address setup_fits record_fits are_apart are_numbered table_fits type_count too_many_types node_list standing_to filled_to condensed list_for same_bytes has_kind priority_kind at_socket named_position route_of priority_list to_board own_header signed broadcast_header assignment is_ack heard_after_offer heard_after_list heard_after_forward heard_after_return heard_in_search heard_in_identify is_assignment heard_in_assign phase_of stand_of phase_fits hold_fits fits start_of join_of turn_in receive_in quiet_in discover_of after offers accepted stays seen noted goes_on course discoveries peopled
opened = 0
