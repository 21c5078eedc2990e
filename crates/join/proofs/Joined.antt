-- What a join does: the address of a newcomer is nobody's; an accepted join lists the board at a position from 1 to k; a board that comes back has its position again, and the type and version that it now gives (01, "Join"; 02, C-12 and C-15).
use Prim.Native.Nat.{ℕ}
use native.Mathlib.Omega.{arith}
use mathlib.Core.Path.{◌≡◌, ap, subst, ◌∙◌}
use mathlib.Core.Bool.{true, not}
use mathlib.Core.List.{List}
use lib.Dec.{eqb}
use borrow.Author.Tests.{eqb-false, not-false}
use Rattle.ground.proofs.Choices.{and_left}
use Rattle.refusal.proofs.Rules.{Passed}
use Rattle.board.specs.declared.Node.{Node}
use Rattle.board.specs.Node.{is_kind, version_of}
use Rattle.board.specs.Table.{at, listed_at}
use Rattle.board.specs.Change.{joined_node}
use Rattle.board.proofs.Changes.{SameBoard, at_put}
use Rattle.board.proofs.Numbered.{relisted_keeps}
use Rattle.setup.specs.Setup.{address}
use Rattle.setup.specs.Fitness.{Position, Listed}
use Rattle.setup.proofs.Apart.{newcomer_apart}
use Rattle.coordinator.specs.declared.Coordinator.{Coordinator}
use Rattle.coordinator.specs.Fit.{fits}
use Rattle.coordinator.specs.Fitness.{Fit}
use Rattle.coordinator.proofs.Fitting.{fit_told}
use Rattle.steps.specs.After.{After, rests}
use Rattle.steps.specs.Join.{known, chosen, join_rules, joined_as, join_of}
use Rattle.steps.proofs.Chosen.{chosen_new, chosen_within, chosen_own}
use Rattle.join.proofs.Verdict.{join_passed, join_accepted}

-- where all is fit, the address chosen for a MAC that nobody has is no listed board's: the test that number 17 was for never holds (02, C-23)
pub chosen_apart : (c : Coordinator) (t : List Node) → Fit c t → (mac : ℕ) → known t c.setup.k mac ≡ 0 → (q : ℕ) → Listed t q → address c.setup (chosen t c.setup.k mac) ≡ address c.setup q → ⊥
chosen_apart c t fit mac new = rw (chosen_new t c.setup.k mac (omega arith)) (newcomer_apart c.setup fit.setup t fit.table)

-- an accepted join lists the board

-- at one of the positions 1 to k, with its MAC
pub record ListedAs (k m : ℕ) (a : After) : Type 0 where
  pub position : Position k a.joined
  pub listed : listed_at a.nodes a.joined ≡ true
  pub mac : (at a.nodes a.joined).mac ≡ m

-- a board that comes back: the position that it had, its type, its version and its session replaced, no misses
pub record CameBack (p n v s : ℕ) (a : After) : Type 0 where
  pub position : a.joined ≡ p
  pub kind : (at a.nodes p).kind ≡ n
  pub version : (at a.nodes p).version ≡ version_of v
  pub session : (at a.nodes p).session ≡ s
  pub misses : (at a.nodes p).misses ≡ 0

module _ (c : Coordinator) (t : List Node) (kind mac session version : ℕ) (accepted : (join_of c t kind mac session version).says ≡ rests) where
  rules : Passed (join_rules c t kind mac version)
  rules = join_accepted c t kind mac session version accepted

  fit : Fit c t
  fit = fit_told c t (not-false (fits c t) rules.0)

  within : Position c.setup.k (chosen t c.setup.k mac)
  within = chosen_within t c.setup.k mac (eqb-false (chosen t c.setup.k mac) 0 rules.1.1.1.1.1.1.0)

  -- whose record stands at the position afterwards
  joined_board : SameBoard (at (joined_as c t kind mac session version).nodes (chosen t c.setup.k mac)) (joined_node kind mac session version)
  joined_board = subst (SameBoard _) (at_put t (chosen t c.setup.k mac) _ within.from (omega (arith, fit.table.boards.forty, within.up_to, fit.setup.pool.up_to))) (relisted_keeps _ (chosen t c.setup.k mac))

  pub joined_listed : ListedAs c.setup.k mac (join_of c t kind mac session version)
  joined_listed =
      rw (join_passed c t kind mac session version rules)
      (record {
        position = within;
        listed = ap (λ (n : ℕ). not (eqb n 0)) joined_board.kind ∙ and_left (not (eqb kind 0)) _ (not-false (is_kind kind) rules.1.0);
        mac = joined_board.mac;
      })

  pub came_back : (p : ℕ) → Listed t p → (at t p).mac ≡ mac → CameBack p kind version session (join_of c t kind mac session version)
  came_back p l m =
      rw (join_passed c t kind mac session version rules)
      (record {
        position = there;
        kind = after.kind;
        version = after.version;
        session = after.session;
        misses = after.misses;
      })
    where
      there : chosen t c.setup.k mac ≡ p
      there = chosen_own t c.setup.k mac fit.setup.pool.up_to fit.table p l m

      after : SameBoard (at (joined_as c t kind mac session version).nodes p) (joined_node kind mac session version)
      after = subst (λ (q : ℕ). SameBoard (at (joined_as c t kind mac session version).nodes q) (joined_node kind mac session version)) there joined_board
