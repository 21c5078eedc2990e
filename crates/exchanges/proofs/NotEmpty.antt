-- The panel is none to which nothing ever happens: it starts, and takes the joins that the rules allow.
use Prim.Native.Nat.{ℕ}
use native.Mathlib.Omega.{arith}
use mathlib.Core.Path.{◌≡◌, refl, sym, ap, subst}
use mathlib.Core.Bool.{true, false}
use lib.Dec.{eqb}
use borrow.Author.Tests.{eq-eqb, ne_eqb}
use Rattle.ground.proofs.Choices.{not_no}
use Rattle.refusal.proofs.Rules.{passed, Passed}
use Rattle.steps.specs.After.{After, refused, rests}
use Rattle.steps.specs.Start.{start_rules, start_of}
use Rattle.steps.specs.Join.{chosen, join_rules, join_of}
use Rattle.series.specs.Series.{World, after}
use Rattle.series.specs.Demand.{Starts, Allowed, TakesJoins, join_with}
use Rattle.series.specs.Ours.{ours}
use Rattle.lasting.proofs.Keeping.{is_fit}
use Rattle.lasting.proofs.Series.{lasting}

-- every pool and MAC that the rules allow give a fresh start
pub starts : Starts ours
unfolding start_of
starts w addresses subnet internal mac session forty pool ok =
    ap (λ (a : After). a.says) (passed (start_rules w.nodes addresses mac) (refused w.coordinator w.nodes) _ (not_no _ (eq-eqb _ _ forty), (not_no _ pool, (not_no _ ok, tt))))

-- a join that the rules allow passes each of them
allowed_passes : (w : World) (kind mac version : ℕ) → is_fit w ≡ true → Allowed w kind mac version → Passed (join_rules w.coordinator w.nodes kind mac version)
allowed_passes w kind mac version fit a = (not_no _ fit, (not_no _ a.kind_fits, (not_no _ a.mac_fits, (rw (a.rest, a.nothing_owed) refl, (rw a.not_held refl, (a.few_types, (full, tt)))))))
  where
    full : eqb (chosen w.nodes w.coordinator.setup.k mac) 0 ≡ false
    full = ne_eqb (chosen w.nodes w.coordinator.setup.k mac) 0 (λ e. omega (arith, a.place))

-- so it is accepted, and names its position
allowed_taken : (w : World) (kind mac session version : ℕ) → is_fit w ≡ true → Allowed w kind mac version → ((ours.step w (join_with kind mac session version)).says ≡ rests) × ((ours.step w (join_with kind mac session version)).joined ≡ chosen w.nodes w.coordinator.setup.k mac)
unfolding join_of
allowed_taken w kind mac session version fit a =
    subst (λ (x : After). (x.says ≡ rests) × (x.joined ≡ chosen w.nodes w.coordinator.setup.k mac)) (sym (passed (join_rules w.coordinator w.nodes kind mac version) (refused w.coordinator w.nodes) _ (allowed_passes w kind mac version fit a))) (refl, refl)

-- after any series
pub takes_joins : TakesJoins ours
takes_joins k w f is kind mac session version a = allowed_taken (after ours w is) kind mac session version (lasting f is).fit a
