-- "while anyone is listed at most once between two offers" (02, C-11), over any series.
use Prim.Native.Nat.{◌+◌, ◌≤◌}
use native.Mathlib.Omega.{arith}
use mathlib.Core.Path.{◌≡◌, refl, ap}
use mathlib.Core.Bool.{Bool, true, false, ◌&&◌, false≢true}
use mathlib.Core.List.{List, [], ◌∷◌}
use lib.Dec.{eqb}
use lib.ListN.{length}
use borrow.Author.Tests.{eqb-true}
use Rattle.ground.specs.Choose.{choose}
use Rattle.ground.proofs.Choices.{and_left, and_right}
use Rattle.board.specs.Wanted.{some_listed}
use Rattle.coordinator.proofs.Fitting.{fits_searched}
use Rattle.steps.specs.declared.Event.{Event}
use Rattle.steps.specs.declared.Event.TheVariants.{Join, Turn, Frame, Quiet, Discover}
use Rattle.steps.specs.After.{After}
use Rattle.steps.specs.Step.{step_of}
use Rattle.series.specs.Series.{Input, World, left, is_accepted, offered_to, offers, after}
use Rattle.series.specs.Exchange.{is_discover, discoveries, peopled, Seldom}
use Rattle.series.specs.Ours.{ours}
use Rattle.lasting.proofs.Keeping.{is_fit, step_fit}
use Rattle.lasting.proofs.Series.{lasting}
use Rattle.exchanges.proofs.Memory.{Remembers, join_remembers, receive_remembers, quieted_remembers, turn_remembers, discover_first, discover_refused}

-- one step: a discovery that is accepted is the first, and every other step that makes no offer leaves the memory as it is
record Stepped (w : World) (a : After) (started : Bool) : Type 0 where
  before : started ≡ true → w.coordinator.searched ≡ 0
  then : started ≡ true → a.coordinator.searched ≡ 1
  else : started ≡ false → Remembers w.coordinator a

-- so any other step
other : (w : World) (a : After) → Remembers w.coordinator a → Stepped w a false
other w a e = record { before = λ n. absurd (false≢true n); then = λ n. absurd (false≢true n); else = λ _. e }

-- whatever comes, where no offer is made
stepped : (w : World) (i : Input) → is_fit w ≡ true → some_listed w.nodes ≡ true → offered_to (ours.step w i).says ≡ 0 → Stepped w (ours.step w i) (is_discover i.event && is_accepted (ours.step w i).says)
stepped w i fit someone = go i.event
  where
    go : (e : Event) → offered_to (step_of w.coordinator w.nodes e i.received i.room).says ≡ 0 → Stepped w (step_of w.coordinator w.nodes e i.received i.room) (is_discover e && is_accepted (step_of w.coordinator w.nodes e i.received i.room).says)
    go (Join kind mac session version) _ = other w _ (join_remembers w.coordinator w.nodes kind mac session version)
    go Turn n = other w _ (turn_remembers w.coordinator w.nodes fit someone i.room n)
    go Frame _ = other w _ (receive_remembers w.coordinator w.nodes i.received i.room)
    go Quiet _ = other w _ (quieted_remembers w.coordinator w.nodes)
    go Discover _ =
        record {
          before = λ y. (discover_first w.coordinator w.nodes fit someone i.room y).0;
          then = λ y. (discover_first w.coordinator w.nodes fit someone i.room y).1;
          else = discover_refused w.coordinator w.nodes fit someone i.room;
        }

-- without an offer, with someone listed throughout: what was started and what is remembered are one at most
at_most_one : (w : World) (js : List Input) → is_fit w ≡ true → peopled ours w js ≡ true → offers ours w js ≡ [] → discoveries ours w js + w.coordinator.searched ≤ 1
unfolding peopled offers discoveries choose
at_most_one w [] fit p o = omega (arith, fits_searched w.coordinator w.nodes fit)
at_most_one w (i ∷ js) fit p o = offer_first (at_most_one (left (ours.step w i)) js (step_fit w i fit) (and_right (some_listed w.nodes) (peopled ours (left (ours.step w i)) js) p)) (eqb (offered_to (ours.step w i).says) 0) refl o
  where
    someone : some_listed w.nodes ≡ true
    someone = and_left (some_listed w.nodes) (peopled ours (left (ours.step w i)) js) p

    go : (b : Bool) → Stepped w (ours.step w i) b → discoveries ours (left (ours.step w i)) js + (ours.step w i).coordinator.searched ≤ 1 → choose b (discoveries ours (left (ours.step w i)) js + 1) (discoveries ours (left (ours.step w i)) js) + w.coordinator.searched ≤ 1
    go true s l = omega (arith, s.before refl, s.then refl)
    go false s l = omega (arith, s.else refl)

    offer_first : (offers ours (left (ours.step w i)) js ≡ [] → discoveries ours (left (ours.step w i)) js + (ours.step w i).coordinator.searched ≤ 1) → (b : Bool) → eqb (offered_to (ours.step w i).says) 0 ≡ b → choose b (offers ours (left (ours.step w i)) js) (offered_to (ours.step w i).says ∷ offers ours (left (ours.step w i)) js) ≡ [] → choose (is_discover i.event && is_accepted (ours.step w i).says) (discoveries ours (left (ours.step w i)) js + 1) (discoveries ours (left (ours.step w i)) js) + w.coordinator.searched ≤ 1
    offer_first rest true e o = go _ (stepped w i fit someone (eqb-true _ 0 e)) (rest o)
    offer_first rest false e o = absurd (let z : ⊥ = omega (arith, ap length o) in z)

-- in a stretch of any series without an offer, with someone listed throughout, at most one discovery is started
pub seldom : Seldom ours
seldom k w f is js p o = omega (arith, at_most_one (after ours w is) js (lasting f is).fit p o)
