-- "A board that stays listed is among any k offers made one after another" (00, demand 3).
use Prim.Native.Nat.{ℕ, ◌≤◌, ◌<◌}
use native.Mathlib.Omega.{arith}
use mathlib.Core.Path.{◌≡◌, sym, ap, ◌∙◌}
use mathlib.Core.Bool.{true, false, false≢true}
use mathlib.Core.List.{List, [], ◌∷◌}
use lib.ListN.{length}
use borrow.Author.Tests.{eq-eqb}
use Rattle.ground.specs.Below.{among}
use Rattle.board.specs.Round.{distance}
use Rattle.board.proofs.NextListed.{distance_least, distance_most}
use Rattle.coordinator.proofs.Fitting.{Board}
use Rattle.series.specs.Series.{Input, World, left, offered_to, after, offers, stays}
use Rattle.series.specs.Demand.{RoundRobin}
use Rattle.series.specs.Ours.{ours}
use Rattle.turns.proofs.Turned.{Good, good_next, good_after, Turned, idle, worked, named, nearer, turned, board_good}
use Rattle.turns.proofs.Counted.{offers_end, offers_none, offers_one, stays_now, stays_next, not_among, not_missing}

-- a step that names p makes p one of the offers
pub now_named : (p : ℕ) (w : World) (i : Input) (is : List Input) → 1 ≤ p → offered_to (ours.step w i).says ≡ p → among p (offers ours w (i ∷ is)) ≡ false → ⊥
now_named p w i is h e n = false≢true (sym (not_among p (offered_to (ours.step w i).says) _ (offers_one ours w i is (λ z. omega arith)) n).0 ∙ eq-eqb p (offered_to (ours.step w i).says) (sym e))

-- while p is not named, each offer comes nearer to it
pub nearer_each : (k p : ℕ) (is : List Input) (w : World) → Good k w → stays ours w is p ≡ true → among p (offers ours w is) ≡ false → length (offers ours w is) < distance k w.coordinator.last p
nearer_each k p [] w g s n = omega (arith, ap length (offers_end ours w), distance_least k w.coordinator.last p (board_good k p w g (stays_now ours w [] p s)).from)
nearer_each k p (i ∷ is) w g s n = go (turned k p w i g (stays_now ours w (i ∷ is) p s) (stays_now ours (left (ours.step w i)) is p (stays_next ours w i is p s))) (nearer_each k p is (left (ours.step w i)) (good_next k w i g) (stays_next ours w i is p s))
  where
    Later : Type 0
    Later = among p (offers ours (left (ours.step w i)) is) ≡ false → length (offers ours (left (ours.step w i)) is) < distance k (ours.step w i).coordinator.last p

    unmoved : Later → offered_to (ours.step w i).says ≡ 0 → (ours.step w i).coordinator.last ≡ w.coordinator.last → length (offers ours w (i ∷ is)) < distance k w.coordinator.last p
    unmoved later nobody last = omega (arith, ap length (offers_none ours w i is nobody), later (ap (among p) (sym (offers_none ours w i is nobody)) ∙ n), ap (λ (l : ℕ). distance k l p) last)

    go : Turned k p w (ours.step w i) → Later → length (offers ours w (i ∷ is)) < distance k w.coordinator.last p
    go (idle said nobody last same) later = unmoved later nobody last
    go (worked said nobody last falls) later = unmoved later nobody last
    go (named e) later = absurd (now_named p w i is (board_good k p w g (stays_now ours w (i ∷ is) p s)).from e n)
    go (nearer said somebody near below) later = omega (arith, ap length (offers_one ours w i is somebody), later (not_among p _ _ (offers_one ours w i is somebody) n).1)

pub round_robin : RoundRobin ours
round_robin k w f is js p s l = not_missing p (offers ours (after ours w is) js) (λ n. omega (arith, nearer_each k p js (after ours w is) (good_after f is) s n, most))
  where
    here : Board (after ours w is).coordinator (after ours w is).nodes p
    here = board_good k p (after ours w is) (good_after f is) (stays_now ours (after ours w is) js p s)

    most : distance k (after ours w is).coordinator.last p ≤ k
    most = distance_most k (after ours w is).coordinator.last p here.from (omega (arith, here.up_to, (good_after f is).pool))
