-- What is due goes into a frame.
use Prim.Native.Nat.{ℕ, ◌≤◌}
use native.Mathlib.Omega.{arith}
use mathlib.Core.Path.{◌≡◌, refl, sym}
use mathlib.Core.Bool.{Bool, true, false, false≢true}
use mathlib.Core.List.{List}
use lib.Dec.{ltb}
use lib.ListN.{length, take, length-take}
use borrow.Author.Tests.{ltb-true}
use Rattle.ground.specs.Choose.{choose}
use Rattle.board.specs.declared.Node.{Node}
use Rattle.board.specs.declared.Wanted.TheVariants.{Listed}
use Rattle.board.specs.Table.{at}
use Rattle.board.specs.Wanted.{lowest_of, some_listed}
use Rattle.board.specs.Round.{next_listed}
use Rattle.board.proofs.NextListed.{next_nearest}
use Rattle.message.specs.Message.{offer_code}
use Rattle.message.proofs.Messages.{signed_small, list_small, assignment_small}
use Rattle.coordinator.specs.declared.Coordinator.{Coordinator}
use Rattle.coordinator.specs.declared.Part.{Part}
use Rattle.coordinator.specs.declared.Part.TheVariants.{Search, IdentifyDue, Identify, Present, AssignDue, Assign}
use Rattle.coordinator.specs.declared.Phase.{Phase}
use Rattle.coordinator.specs.declared.Phase.TheVariants.{Resting, Awaiting, ForwardDue, ReturnDue, Seeking, Unknown}
use Rattle.coordinator.specs.declared.Kept.{Kept}
use Rattle.coordinator.specs.Phase.{phase_of}
use Rattle.coordinator.specs.Fit.{fits}
use Rattle.coordinator.proofs.Fitting.{Board, some_listed_lem, fit_told, fits_stake, fits_known, board_listed, due_forward, due_return}
use Rattle.steps.specs.Seek.{is_waiting}
use Rattle.steps.specs.Turn.{Due, due_list, due_offer, due_seek, due_in, owed_to, is_awaiting}
use Rattle.series.specs.Series.{waited_for}

-- what is due goes into a frame, and a board or an address at stake is waited for
pub record Sendable (d : Due) : Type 0 where
  pub small : length d.payload ≤ 240
  pub somebody : 1 ≤ waited_for d.says

module _ (c : Coordinator) (t : List Node) (h : fits c t ≡ true) (s : some_listed t ≡ true) where
  -- where somebody is listed, an offer is to somebody
  next_from : 1 ≤ next_listed t c.setup.k c.last
  next_from = (next_nearest t c.setup.k c.last (lowest_of t Listed 40) here.few here.listed here.from here.up_to).from
    where
      here : Board c t (lowest_of t Listed 40)
      here = board_listed c t h (lowest_of t Listed 40) (some_listed_lem t s)

  -- a list or an offer goes into a frame
  own_sendable : (b : Bool) → ltb 0 (owed_to c t) ≡ b → Sendable (choose b (due_list c t (owed_to c t)) (due_offer c t (next_listed t c.setup.k c.last)))
  unfolding choose
  own_sendable true l = record { small = list_small (at t (owed_to c t)).version c.setup.internal t; somebody = ltb-true 0 (owed_to c t) l }
  own_sendable false l = record { small = signed_small c.setup offer_code; somebody = next_from }

  -- what is carried is as long as fit allows
  carried_small : (m : Kept) → m.length ≤ 240 → length (take m.length m.payload) ≤ 240
  carried_small m l = rw length-take (omega arith)

  -- so does what the exchange by which a board joins has due
  seek_sendable : (position : ℕ) (part : Part) → is_waiting part ≡ false → 1 ≤ position → Sendable (due_seek part c t position)
  unfolding choose
  seek_sendable position Search n l = absurd (false≢true (sym n))
  seek_sendable position IdentifyDue n l = record { small = omega arith; somebody = l }
  seek_sendable position Identify n l = absurd (false≢true (sym n))
  seek_sendable position Present n l = absurd (false≢true (sym n))
  seek_sendable position AssignDue n l = record { small = assignment_small c.setup position c.found.version c.found.mac c.found.session; somebody = l }
  seek_sendable position Assign n l = absurd (false≢true (sym n))

  -- and so whatever is due
  pub due_sendable : (p : Phase) → phase_of c.stand ≡ p → is_awaiting p ≡ false → Sendable (due_in p c t)
  unfolding choose
  due_sendable Resting w n = own_sendable (ltb 0 (owed_to c t)) refl
  due_sendable (Awaiting b e q a) w n = absurd (false≢true (sym n))
  due_sendable (ForwardDue b q) w n = record { small = carried_small c.kept (rw w at (fit_told c t h).kept).payload; somebody = (due_forward c t h w).board.from }
  due_sendable (ReturnDue b) w n = record { small = carried_small c.kept (rw w at (fit_told c t h).kept).payload; somebody = (due_return c t h w).from }
  due_sendable (Seeking p part) w n = seek_sendable p part n (fits_stake c t h w).0.from
  due_sendable Unknown w n = absurd (fits_known c t h w)
