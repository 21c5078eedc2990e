-- What one step means for a board that stays listed: nothing, work, an offer to it, or an offer that comes nearer to it.
use Prim.Native.Nat.{ℕ, ◌<◌}
use native.Mathlib.Omega.{arith}
use native.Mathlib.Decide.{ℕ_discrete}
use mathlib.Core.Path.{◌≡◌, refl, sym, ap, subst, ◌∙◌}
use mathlib.Core.Bool.{true, false}
use mathlib.Core.List.{List}
use Rattle.board.specs.Table.{listed_at}
use Rattle.board.specs.Round.{next_listed, distance}
use Rattle.board.proofs.NextListed.{next_nearest, next_closer}
use Rattle.board.proofs.Counts.{listed_counts}
use Rattle.setup.specs.declared.Setup.{Setup}
use Rattle.coordinator.specs.declared.Coordinator.{Coordinator}
use Rattle.coordinator.proofs.Fitting.{Board, fits_forty, board_listed}
use Rattle.steps.specs.declared.Event.{Event}
use Rattle.steps.specs.declared.Event.TheVariants.{Join, Turn, Frame, Quiet, Discover}
use Rattle.steps.specs.After.{After}
use Rattle.steps.specs.Step.{step_of}
use Rattle.series.specs.Series.{Input, World, left, Fresh, after, is_accepted, offered_to}
use Rattle.series.specs.Ours.{ours}
use Rattle.lasting.proofs.Keeping.{is_fit, step_fit, step_setup}
use Rattle.lasting.proofs.Series.{lasting}
use Rattle.turns.specs.Potential.{potential, between}
use Rattle.turns.proofs.Moves.{Moves, refuses, offers, works, potential_most}
use Rattle.turns.proofs.Join.{join_moves}
use Rattle.turns.proofs.Discover.{discover_moves}
use Rattle.turns.proofs.Turn.{turn_moves}
use Rattle.turns.proofs.Frame.{frame_moves}
use Rattle.turns.proofs.Quiet.{quiet_moves}

-- a panel with k addresses that is fit
pub record Good (k : ℕ) (w : World) : Type 0 where
  pub fit : is_fit w ≡ true
  pub pool : w.coordinator.setup.k ≡ k

pub good_next : (k : ℕ) (w : World) (i : Input) → Good k w → Good k (left (ours.step w i))
good_next k w i g = record { fit = step_fit w i g.fit; pool = ap (λ (s : Setup). s.k) (step_setup w i) ∙ g.pool }

pub good_after : {k : ℕ} {w : World} → Fresh ours k w → (is : List Input) → Good k (after ours w is)
good_after f is = record { fit = (lasting f is).fit; pool = (lasting f is).pool }

pub good_below : (k : ℕ) (w : World) → Good k w → potential w.coordinator w.nodes < between k
good_below k w g = subst (λ (n : ℕ). potential w.coordinator w.nodes < between n) g.pool (potential_most w.coordinator w.nodes g.fit)

pub data Turned (k p : ℕ) (w : World) (a : After) : Type 0 where
  idle : is_accepted a.says ≡ false → offered_to a.says ≡ 0 → a.coordinator.last ≡ w.coordinator.last → potential a.coordinator a.nodes ≡ potential w.coordinator w.nodes → Turned k p w a
  worked : is_accepted a.says ≡ true → offered_to a.says ≡ 0 → a.coordinator.last ≡ w.coordinator.last → potential a.coordinator a.nodes < potential w.coordinator w.nodes → Turned k p w a
  named : offered_to a.says ≡ p → Turned k p w a
  nearer : is_accepted a.says ≡ true → (offered_to a.says ≡ 0 → ⊥) → distance k a.coordinator.last p < distance k w.coordinator.last p → potential a.coordinator a.nodes < between k → Turned k p w a

step_moves : (w : World) (i : Input) → is_fit w ≡ true → Moves w.coordinator w.nodes (ours.step w i)
step_moves w i h = go i.event
  where
    go : (e : Event) → Moves w.coordinator w.nodes (step_of w.coordinator w.nodes e i.received i.room)
    go (Join kind mac session version) = join_moves w.coordinator w.nodes h kind mac session version
    go Turn = turn_moves w.coordinator w.nodes h i.room
    go Frame = frame_moves w.coordinator w.nodes h i.received i.room
    go Quiet = quiet_moves w.coordinator w.nodes h
    go Discover = discover_moves w.coordinator w.nodes h i.room

module _ (k p : ℕ) (w : World) (g : Good k w) (l : listed_at w.nodes p ≡ true) where
  pub board_good : Board w.coordinator w.nodes p
  board_good = board_listed w.coordinator w.nodes g.fit p l

  closer : (p ≡ next_listed w.nodes w.coordinator.setup.k w.coordinator.last → ⊥) → distance k (next_listed w.nodes w.coordinator.setup.k w.coordinator.last) p < distance k w.coordinator.last p
  closer ne = rw (← g.pool) (next_closer w.nodes w.coordinator.setup.k w.coordinator.last p board_good.few l board_good.from board_good.up_to ne)

  from_moves : (a : After) → Good k (left a) → listed_at a.nodes p ≡ true → Moves w.coordinator w.nodes a → Turned k p w a
  from_moves a f m (refuses r) = idle r.said r.nobody (ap (λ (c : Coordinator). c.last) r.coordinator) (rw (r.coordinator, r.nodes) refl)
  from_moves a f m (works x) = worked x.said x.nobody x.last (x.falls f.fit (listed_counts w.nodes p (fits_forty w.coordinator w.nodes g.fit) l) (listed_counts a.nodes p (fits_forty a.coordinator a.nodes f.fit) m))
  from_moves a f m (offers o) = go (ℕ_discrete p (next_listed w.nodes w.coordinator.setup.k w.coordinator.last))
    where
      somebody : offered_to a.says ≡ 0 → ⊥
      somebody e = omega (arith, o.board, (next_nearest w.nodes w.coordinator.setup.k w.coordinator.last p board_good.few l board_good.from board_good.up_to).from)

      go : Dec (p ≡ next_listed w.nodes w.coordinator.setup.k w.coordinator.last) → Turned k p w a
      go (yes e) = named (o.board ∙ sym e)
      go (no ne) = nearer o.said somebody (rw o.last (closer ne)) (good_below k (left a) f)

pub turned : (k p : ℕ) (w : World) (i : Input) → Good k w → listed_at w.nodes p ≡ true → listed_at (ours.step w i).nodes p ≡ true → Turned k p w (ours.step w i)
turned k p w i g l m = from_moves k p w g l (ours.step w i) (good_next k w i g) m (step_moves w i g.fit)
