-- A setup that was taken leaves a fit panel with k addresses, on which nobody is listed; one that refuses leaves all as it was.
use Prim.Native.Nat.{ℕ, ◌≤◌, ◌<◌}
use native.Mathlib.Omega.{arith}
use mathlib.Core.Path.{◌≡◌, refl, sym, ap, subst, ◌∙◌}
use mathlib.Core.Bool.{Bool, true, false, not, false≢true}
use mathlib.Core.List.{List, [], ◌∷◌}
use lib.ListN.{length, get_or, drop, replicate, get_or-append}
use lib.Dec.{eqb}
use borrow.Author.Tests.{not-false}
use Rattle.ground.specs.Bytes.{laid}
use Rattle.refusal.specs.Refusal.{Told}
use Rattle.refusal.specs.declared.Refusal.{Refusal}
use Rattle.refusal.specs.declared.Refusal.TheVariants.{StateUnfit}
use Rattle.refusal.proofs.Numbers.{not_zero}
use Rattle.refusal.proofs.Rules.{each, by_rules}
use Rattle.board.specs.declared.Node.{Node}
use Rattle.board.specs.Node.{none, is_mac}
use Rattle.board.specs.Table.{at}
use Rattle.setup.specs.Setup.{is_pool, setup_rules, setup_fits}
use Rattle.setup.specs.Fitness.{Pool}
use Rattle.setup.proofs.Pools.{pool_told, mac_told, setup_passes}
use Rattle.coordinator.specs.declared.Coordinator.{Coordinator}
use Rattle.coordinator.specs.declared.Phase.TheVariants.{Resting}
use Rattle.coordinator.specs.Phase.{phase_of}
use Rattle.coordinator.specs.Fresh.{fresh, blank_table}
use Rattle.coordinator.proofs.Phases.{resting, phase_back}
use Rattle.coordinator.proofs.Starting.{fresh_fits, blank_at}
use Rattle.steps.specs.After.{After, refused, accepted, rests}
use Rattle.steps.specs.Start.{setup_of, start_of}
use Rattle.series.specs.Series.{World, Fresh, fresh_start, left, is_accepted}
use Rattle.series.specs.Ours.{ours}
use Rattle.lasting.proofs.Keeps.{AsItWas, as_it_was}
use Rattle.lasting.proofs.Keeping.{is_fit}

-- the pool is the addresses, whatever is laid behind them
padded : (a o : List ℕ) → Pool (length a) a → Pool (length a) (laid a o)
padded a o f =
    record {
      from = f.from;
      up_to = f.up_to;
      rising = λ i j l m. rw (here i (omega arith), here j m) (f.rising i j l m);
      low = λ i l. rw (here i l) (f.low i l);
      high = λ i l. rw (here i l) (f.high i l);
    }
  where
    here : (i : ℕ) → i < length a → get_or (laid a o) i 0 ≡ get_or a i 0
    here i l = get_or-append a (drop (length a) o) 0 i l

-- a panel that was started with k addresses, k from 1 to 40: fit, at rest, nobody listed
pub record Started (k : ℕ) (w : World) : Type 0 where
  pub fit : is_fit w ≡ true
  pub pool : w.coordinator.setup.k ≡ k
  pub from : 1 ≤ k
  pub up_to : k ≤ 40
  pub coordinator : w.coordinator ≡ fresh w.coordinator.setup
  pub phase : phase_of w.coordinator.stand ≡ Resting
  pub nodes : w.nodes ≡ blank_table
  pub free : (p : ℕ) → at w.nodes p ≡ none

module _ (c : Coordinator) (t : List Node) (addresses : List ℕ) (subnet internal mac session : ℕ) where
  setup_fits_lem : is_pool addresses ≡ true → is_mac mac ≡ true → setup_fits (setup_of addresses subnet internal mac session) ≡ true
  setup_fits_lem pool own = setup_passes (setup_of addresses subnet internal mac session) (record { pool = padded addresses (replicate 40 0) (pool_told (length addresses) addresses pool); mac = mac_told mac own })

  taken : is_pool addresses ≡ true → is_mac mac ≡ true → Started (length addresses) (record { coordinator = fresh (setup_of addresses subnet internal mac session); nodes = blank_table })
  taken pool own =
      record {
        fit = fresh_fits (setup_of addresses subnet internal mac session) ∙ setup_fits_lem pool own;
        pool = refl;
        from = (pool_told (length addresses) addresses pool).from;
        up_to = (pool_told (length addresses) addresses pool).up_to;
        coordinator = refl;
        phase = phase_back resting;
        nodes = refl;
        free = blank_at;
      }

  -- the rules and the value of a setup, as they stand in its definition
  abbrev start_rules : List (Bool × Refusal)
  start_rules = (not (eqb (length t) 40), StateUnfit) ∷ setup_rules addresses mac

  abbrev start_value : After
  start_value = accepted (fresh (setup_of addresses subnet internal mac session)) blank_table rests []

  -- a setup that does not refuse was taken
  start_taken : (start_of c t addresses subnet internal mac session).says ≡ rests → Started (length addresses) (left (start_of c t addresses subnet internal mac session))
  unfolding start_of
  start_taken = by_rules (λ (a : After). a.says ≡ rests → Started (length addresses) (left a)) start_rules (refused c t) start_value (each not_refused start_rules) (λ passed e. taken (not-false (is_pool addresses) passed.1.0) (not-false (is_mac mac) passed.1.1.0))
    where
      not_refused : (r : Refusal) → (refused c t r).says ≡ rests → Started (length addresses) (left (refused c t r))
      not_refused r e = absurd (not_zero r (ap (λ (says : Told). says.number) e))

  -- and one that refuses leaves all as it was
  pub start_refused : is_accepted (start_of c t addresses subnet internal mac session).says ≡ false → AsItWas c t (start_of c t addresses subnet internal mac session)
  unfolding start_of
  start_refused = by_rules (λ (a : After). is_accepted a.says ≡ false → AsItWas c t a) start_rules (refused c t) start_value (each as_refused start_rules) (λ passed e. absurd (false≢true (sym e)))
    where
      as_refused : (r : Refusal) → is_accepted (refused c t r).says ≡ false → AsItWas c t (refused c t r)
      as_refused r e = as_it_was c t r

-- a fresh start with k addresses
pub started : {k : ℕ} {w : World} → Fresh ours k w → Started k w
started (fresh_start w addresses subnet internal mac session size says) =
    subst (λ (n : ℕ). Started n (left (ours.start w addresses subnet internal mac session))) size (start_taken w.coordinator w.nodes addresses subnet internal mac session says)
