-- After an accepted start coordinator and table are fit, nobody is listed, nobody was offered the bus, nothing is held and nothing is waited for or due.
use Prim.Native.Nat.{ℕ}
use mathlib.Core.Path.{◌≡◌, refl, sym, ap, subst, ◌∙◌}
use mathlib.Core.Bool.{Bool, true, false, not}
use mathlib.Core.List.{List, [], ◌∷◌}
use lib.Dec.{eqb}
use lib.ListN.{length, drop, replicate, get_or-append}
use borrow.Author.Tests.{not-false}
use Rattle.ground.specs.Bytes.{laid}
use Rattle.refusal.specs.declared.Refusal.{Refusal}
use Rattle.refusal.specs.declared.Refusal.TheVariants.{StateUnfit}
use Rattle.refusal.proofs.Rules.{Passed, passed, gave, ruled_through}
use Rattle.board.specs.declared.Node.{Node}
use Rattle.board.specs.Node.{is_mac, is_listed}
use Rattle.board.specs.Table.{listed_at}
use Rattle.setup.specs.declared.Setup.{Setup}
use Rattle.setup.specs.Setup.{is_pool, setup_rules, setup_fits}
use Rattle.setup.specs.Fitness.{Pool}
use Rattle.setup.proofs.Pools.{same_pool, pool_told, mac_told, setup_passes}
use Rattle.coordinator.specs.declared.Coordinator.{Coordinator}
use Rattle.coordinator.specs.declared.Phase.TheVariants.{Resting}
use Rattle.coordinator.specs.Phase.{phase_of}
use Rattle.coordinator.specs.Fit.{fits}
use Rattle.coordinator.proofs.Phases.{resting, phase_back}
use Rattle.coordinator.proofs.Starting.{blank_at, fresh_fits}
use Rattle.steps.specs.After.{After, refused, rests}
use Rattle.steps.specs.Start.{setup_of, start_of}
use Rattle.start.proofs.Cases.{made}

-- a pool laid over anything is a pool
laid_pool : (a o : List ℕ) → Pool (length a) a → Pool (length a) (laid a o)
laid_pool a o f = same_pool (length a) a (laid a o) (λ i l. get_or-append a (drop (length a) o) 0 i l) f

-- a fresh start with this setup (01, "Setup .. clears all records, waits, dues and holds", and "A fresh start begins at 1")
pub record FreshStart (s : Setup) (r : After) : Type 0 where
  pub setup : r.coordinator.setup ≡ s
  pub fit : fits r.coordinator r.nodes ≡ true
  pub nobody : (p : ℕ) → listed_at r.nodes p ≡ false
  pub last : r.coordinator.last ≡ 0
  pub held : r.coordinator.held ≡ 0
  pub phase : phase_of r.coordinator.stand ≡ Resting

module _ (a : List ℕ) (subnet internal mac session : ℕ) where
  setup_fit : is_pool a ≡ true → is_mac mac ≡ true → setup_fits (setup_of a subnet internal mac session) ≡ true
  setup_fit p m = setup_passes (setup_of a subnet internal mac session) (record { pool = laid_pool a (replicate 40 0) (pool_told (length a) a p); mac = mac_told mac m })

  made_fresh : is_pool a ≡ true → is_mac mac ≡ true → FreshStart (setup_of a subnet internal mac session) (made a subnet internal mac session)
  made_fresh p m =
      record {
        setup = refl;
        fit = fresh_fits (setup_of a subnet internal mac session) ∙ setup_fit p m;
        nobody = λ q. ap is_listed (blank_at q);
        last = refl;
        held = refl;
        phase = phase_back resting;
      }

  module _ (c : Coordinator) (t : List Node) where
    abbrev rules : List (Bool × Refusal)
    rules = (not (eqb (length t) 40), StateUnfit) ∷ setup_rules a mac

    accepts : (start_of c t a subnet internal mac session).says ≡ rests → Passed rules
    unfolding start_of
    accepts h = (gave rules (4 ∷ []) (4 ∷ []) (sym (ruled_through (λ (r : After). r.says) rules (refused c t) (made a subnet internal mac session)) ∙ h)).0

    starts : Passed rules → start_of c t a subnet internal mac session ≡ made a subnet internal mac session
    unfolding start_of
    starts h = passed rules (refused c t) (made a subnet internal mac session) h

    pub fresh_start : (start_of c t a subnet internal mac session).says ≡ rests → FreshStart (setup_of a subnet internal mac session) (start_of c t a subnet internal mac session)
    fresh_start h = subst (FreshStart (setup_of a subnet internal mac session)) (sym (starts (accepts h))) (made_fresh (not-false (is_pool a) (accepts h).1.0) (not-false (is_mac mac) (accepts h).1.1.0))
