-- "and is offered the bus within k times (2k² + 2k + 8) accepted steps, counted from any moment" (00, demand 3), 8 become 14 (02, C-11).
use Prim.Native.Nat.{ℕ, ◌+◌, ◌*◌, ◌≤◌}
use native.Mathlib.Omega.{arith}
use mathlib.Core.Path.{◌≡◌, sym, ap, ◌∙◌}
use mathlib.Core.Bool.{true, false}
use mathlib.Core.List.{List, [], ◌∷◌}
use Rattle.ground.specs.Below.{among}
use Rattle.board.specs.Round.{distance}
use Rattle.board.proofs.NextListed.{distance_least, distance_most}
use Rattle.coordinator.proofs.Fitting.{Board}
use Rattle.series.specs.Series.{Input, World, left, offered_to, after, offers, accepted, stays}
use Rattle.series.specs.Demand.{Bounded}
use Rattle.series.specs.Ours.{ours}
use Rattle.turns.specs.Potential.{potential, between}
use Rattle.turns.proofs.Numbers.{steps_nearer, steps_start, steps_most}
use Rattle.turns.proofs.Turned.{Good, good_next, good_after, good_below, Turned, idle, worked, named, nearer, turned, board_good}
use Rattle.turns.proofs.Counted.{accepted_end, accepted_none, accepted_one, offers_none, offers_one, stays_now, stays_next, not_among, not_missing}
use Rattle.turns.proofs.RoundRobin.{now_named}

-- the steps that there can be before an offer to p: for each step round to it as many as there can be between two offers, and the potential
abbrev pub far : ℕ → ℕ → World → ℕ
far k p w = distance k w.coordinator.last p * between k + potential w.coordinator w.nodes

-- while p is not named, each accepted step makes it less
pub less_each : (k p : ℕ) (is : List Input) (w : World) → Good k w → stays ours w is p ≡ true → among p (offers ours w is) ≡ false → accepted ours w is + between k ≤ far k p w
less_each k p [] w g s n = omega (arith, accepted_end ours w, steps_start (between k) (distance k w.coordinator.last p) (potential w.coordinator w.nodes) (distance_least k w.coordinator.last p (board_good k p w g (stays_now ours w [] p s)).from))
less_each k p (i ∷ is) w g s n = go (turned k p w i g (stays_now ours w (i ∷ is) p s) (stays_now ours (left (ours.step w i)) is p (stays_next ours w i is p s))) (less_each k p is (left (ours.step w i)) (good_next k w i g) (stays_next ours w i is p s))
  where
    Later : Type 0
    Later = among p (offers ours (left (ours.step w i)) is) ≡ false → accepted ours (left (ours.step w i)) is + between k ≤ far k p (left (ours.step w i))

    -- where nothing was offered p is as far as it was
    same_far : (ours.step w i).coordinator.last ≡ w.coordinator.last → distance k (ours.step w i).coordinator.last p * between k ≡ distance k w.coordinator.last p * between k
    same_far last = ap (λ (l : ℕ). distance k l p * between k) last

    unnamed : offered_to (ours.step w i).says ≡ 0 → among p (offers ours (left (ours.step w i)) is) ≡ false
    unnamed nobody = ap (among p) (sym (offers_none ours w i is nobody)) ∙ n

    go : Turned k p w (ours.step w i) → Later → accepted ours w (i ∷ is) + between k ≤ far k p w
    go (idle said nobody last same) later = omega (arith, accepted_none ours w i is said, later (unnamed nobody), same_far last)
    go (worked said nobody last falls) later = omega (arith, accepted_one ours w i is said, later (unnamed nobody), same_far last)
    go (named e) later = absurd (now_named p w i is (board_good k p w g (stays_now ours w (i ∷ is) p s)).from e n)
    go (nearer said somebody near below) later = omega (arith, accepted_one ours w i is said, steps_nearer (between k) (accepted ours (left (ours.step w i)) is) _ _ (potential w.coordinator w.nodes) _ near below (later (not_among p _ _ (offers_one ours w i is somebody) n).1))

pub bounded : Bounded ours
bounded k w f is js p s l = not_missing p (offers ours (after ours w is) js) (λ n. omega (arith, steps_most (between k) (accepted ours (after ours w is) js) (distance k (after ours w is).coordinator.last p) k _ most (good_below k (after ours w is) (good_after f is)) (less_each k p js (after ours w is) (good_after f is) s n)))
  where
    here : Board (after ours w is).coordinator (after ours w is).nodes p
    here = board_good k p (after ours w is) (good_after f is) (stays_now ours (after ours w is) js p s)

    most : distance k (after ours w is).coordinator.last p ≤ k
    most = distance_most k (after ours w is).coordinator.last p here.from (omega (arith, here.up_to, (good_after f is).pool))
