-- An exchange that is over rests: no step from there is of it.
use Prim.Native.Nat.{ℕ, ◌≤◌}
use native.Mathlib.Omega.{arith}
use mathlib.Core.Path.{◌≡◌, refl, sym, ap, ◌∙◌}
use mathlib.Core.Logic.{◌⊎◌, inl, inr}
use mathlib.Core.Bool.{Bool, true, false, ◌&&◌, false≢true}
use mathlib.Core.List.{List}
use lib.Dec.{leb, ltb}
use borrow.Author.Tests.{leb-true}
use Rattle.ground.specs.Choose.{choose}
use Rattle.ground.proofs.Choices.{and_left, either}
use Rattle.refusal.specs.Refusal.{refuses}
use Rattle.refusal.specs.declared.Refusal.{Refusal}
use Rattle.refusal.specs.declared.Refusal.TheVariants.{NotAwaited, NotWaiting}
use Rattle.board.specs.declared.Node.{Node}
use Rattle.board.specs.Round.{next_listed}
use Rattle.coordinator.specs.declared.Coordinator.{Coordinator}
use Rattle.coordinator.specs.declared.Phase.TheVariants.{Resting}
use Rattle.coordinator.specs.Phase.{phase_of}
use Rattle.coordinator.proofs.Phases.{resting, phase_back}
use Rattle.steps.specs.declared.Event.{Event}
use Rattle.steps.specs.declared.Event.TheVariants.{Join, Turn, Frame, Quiet, Discover}
use Rattle.steps.specs.After.{After, refused}
use Rattle.steps.specs.Join.{join_rules, join_of}
use Rattle.steps.specs.Discover.{discover_rules, discover_of}
use Rattle.steps.specs.Turn.{owed_to, due_list, due_offer, due_own, turn_rules, turn_in, turn_of}
use Rattle.steps.specs.Receive.{receive_rules, receive_in}
use Rattle.steps.specs.Quiet.{quiet_rules, quiet_in}
use Rattle.steps.specs.Step.{step_of}
use Rattle.series.specs.Series.{Input, World, waits_in, is_seek}
use Rattle.series.specs.Demand.{turn_with}
use Rattle.series.specs.Exchange.{Course, before, is_answered, is_of, is_running}
use Rattle.series.specs.Ours.{ours}
use Rattle.lasting.proofs.Taken.{no_wait, by_refusals}
use Rattle.exchanges.proofs.Course.{Over, Joined}

-- what an answer waits in at most
abbrev Waits : ℕ → After → Type 0
Waits n a = waits_in a.says ≤ n

-- so a refusal is within any bound
refused_waits : (n : ℕ) (r : Refusal) → waits_in (refuses r) ≤ n
refused_waits n r = omega (arith, no_wait r)

module _ (c : Coordinator) (t : List Node) (rest : phase_of c.stand ≡ Resting) where
  -- a turn at rest makes an offer or sends the list
  own_waits : waits_in (due_own c t).says ≤ 2
  unfolding choose
  own_waits = go (ltb 0 (owed_to c t))
    where
      go : (b : Bool) → waits_in (choose b (due_list c t (owed_to c t)) (due_offer c t (next_listed t c.setup.k c.last))).says ≤ 2
      go true = omega arith
      go false = omega arith

  -- taken or refused
  turn_waits : (room : ℕ) → Waits 2 (turn_of c t room)
  unfolding turn_in
  turn_waits room = rw rest (by_refusals c t (Waits 2) (turn_rules Resting c t room) _ (refused_waits 2) (λ _. own_waits))

  -- whatever comes at rest, no wait for an identity or an assignment begins
  step_waits : (e : Event) (b : List ℕ) (room : ℕ) → Waits 5 (step_of c t e b room)
  unfolding join_of receive_in quiet_in discover_of choose
  step_waits (Join kind mac session version) b room = by_refusals c t (Waits 5) (join_rules c t kind mac version) _ (refused_waits 5) (λ _. omega arith)
  step_waits Turn b room = omega (arith, turn_waits room)
  step_waits Frame b room = rw rest (by_refusals c t (Waits 5) (receive_rules Resting c t b) (refused c t NotAwaited) (refused_waits 5) (λ _. refused_waits 5 NotAwaited))
  step_waits Quiet b room = rw rest (by_refusals c t (Waits 5) (quiet_rules Resting c t) (refused c t NotWaiting) (refused_waits 5) (λ _. refused_waits 5 NotWaiting))
  step_waits Discover b room = by_refusals c t (Waits 5) (discover_rules c t room) _ (refused_waits 5) (λ _. omega arith)

-- a join leaves the phase as it was
join_stand : (c : Coordinator) (t : List Node) (kind mac session version : ℕ) → (join_of c t kind mac session version).coordinator.stand ≡ c.stand
unfolding join_of
join_stand c t kind mac session version = by_refusals c t (λ a. a.coordinator.stand ≡ c.stand) (join_rules c t kind mac version) _ (λ r. refl) (λ _. refl)

-- the observer has no wait, and the panel rests
pub record Rests (x : Course) (w : World) : Type 0 where
  pub wait : x.wait ≡ 0
  pub phase : phase_of w.coordinator.stand ≡ Resting

-- so it is once the exchange is over, without a join or with one
module _ {c₀ : Coordinator} {x : Course} {w : World} where
  pub over_rests : Over c₀ x w → Rests x w
  over_rests o = record { wait = o.wait; phase = ap (λ (u : World). phase_of u.coordinator.stand) o.world ∙ phase_back resting }

  pub joined_rests : Joined c₀ x w → Rests x w
  joined_rests j = record { wait = j.wait; phase = ap (λ (u : World). phase_of u.coordinator.stand) j.world ∙ ap phase_of (join_stand (before c₀) x.nodes x.who.kind x.who.mac x.who.session x.who.version) ∙ phase_back resting }

module _ (x : Course) (w : World) (r : Rests x w) where
  -- no step is of the exchange
  pub none_of : (i : Input) → is_of x i (ours.step w i) ≡ true → ⊥
  none_of i h = go (either (leb 6 n && leb n 7) (is_seek x.wait && is_answered i.event) h)
    where
      n : ℕ
      n = waits_in (ours.step w i).says

      go : ((leb 6 n && leb n 7) ≡ true) ⊎ ((is_seek x.wait && is_answered i.event) ≡ true) → ⊥
      go (inl e) = omega (arith, leb-true 6 n (and_left (leb 6 n) (leb n 7) e), step_waits w.coordinator w.nodes r.phase i.event i.received i.room)
      go (inr e) = false≢true (ap is_seek (sym r.wait) ∙ and_left (is_seek x.wait) (is_answered i.event) e)

  -- and it runs no more
  pub runs_no_more : is_running ours w x ≡ true → ⊥
  runs_no_more h = go (either (is_seek x.wait) (is_seek n) h)
    where
      n : ℕ
      n = waits_in (ours.step w (turn_with 252)).says

      go : (is_seek x.wait ≡ true) ⊎ (is_seek n ≡ true) → ⊥
      go (inl e) = false≢true (ap is_seek (sym r.wait) ∙ e)
      go (inr e) = omega (arith, leb-true 5 n (and_left (leb 5 n) (leb n 7) e), turn_waits w.coordinator w.nodes r.phase 252)
