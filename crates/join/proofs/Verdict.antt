-- What a join leaves, by what its rules say.
use Prim.Native.Nat.{ℕ}
use mathlib.Core.Path.{◌≡◌, refl, sym, ap, ◌∙◌}
use mathlib.Core.Bool.{true}
use mathlib.Core.List.{List, [], ◌∷◌}
use lib.ListN.{drop}
use borrow.Author.Tests.{not-false}
use Rattle.ground.proofs.Choices.{choose_no, not_no}
use Rattle.refusal.specs.Refusal.{ruled, refuses, gives}
use Rattle.refusal.specs.declared.Refusal.{Refusal}
use Rattle.refusal.proofs.Rules.{Passed, passed, gave, ruled_through, refused as rule-refused}
use Rattle.board.specs.declared.Node.{Node}
use Rattle.board.specs.Node.{is_mac}
use Rattle.board.specs.Table.{put}
use Rattle.board.specs.Change.{joined_node, relisted}
use Rattle.coordinator.specs.declared.Coordinator.{Coordinator}
use Rattle.coordinator.specs.Fit.{fits}
use Rattle.coordinator.specs.Change.{holding}
use Rattle.steps.specs.declared.Answer.TheVariants.{Rest}
use Rattle.steps.specs.After.{After, shows, leaving, refused, rests}
use Rattle.steps.specs.Join.{chosen, join_rules, joined_as, join_of}
use Rattle.change.specs.declared.Edit.TheVariants.{Joined}
use Rattle.change.specs.declared.Move.TheVariants.{Held}
use Rattle.change.specs.declared.Change.{Change}
use Rattle.change.specs.Change.{changing, applied}
use Rattle.change.proofs.Making.{makes_relisted}

module _ (c : Coordinator) (t : List Node) (kind mac session version : ℕ) where
  -- a join that no rule refuses
  pub join_passed : Passed (join_rules c t kind mac version) → join_of c t kind mac session version ≡ joined_as c t kind mac session version
  unfolding join_of
  join_passed h = passed (join_rules c t kind mac version) (refused c t) (joined_as c t kind mac session version) h

  -- of fit records: a verdict of the rules past the first that gives nothing passed each of them
  module _ (fit : fits c t ≡ true) where
    pub join_taken : ruled (drop 1 (join_rules c t kind mac version)) refuses (gives []) ≡ gives [] → Passed (join_rules c t kind mac version)
    join_taken e = (not_no (fits c t) fit, (gave (drop 1 (join_rules c t kind mac version)) [] [] e).0)

    -- and one that refuses refuses the join
    pub join_refused : (q : Refusal) → ruled (drop 1 (join_rules c t kind mac version)) refuses (gives []) ≡ refuses q → join_of c t kind mac session version ≡ refused c t q
    unfolding join_of
    join_refused q e = sym (choose_no _ _ _ _ (not_no (fits c t) fit) refl) ∙ rule-refused (drop 1 (join_rules c t kind mac version)) [] (refused c t) (joined_as c t kind mac session version) q e

  -- the change that a join makes where no rule refuses it
  pub join_made : Passed (join_rules c t kind mac version) → (p : List ℕ) {n : ℕ} → (is_mac mac ≡ true → n ≡ chosen t c.setup.k mac) → {x : Change} → x ≡ changing Held n (Joined kind mac session version) true Rest 0 n 0 → applied x p c t ≡ shows (join_of c t kind mac session version)
  join_made rules p {n} place h =
      makes_relisted p c t n (Joined kind mac session version) Rest 0 n 0 h ∙
      ap (λ (i : ℕ). leaving (holding c true) (relisted (put t i (joined_node kind mac session version))) rests 0 i 0) (place (not-false (is_mac mac) rules.1.1.0)) ∙
      sym (ap shows (join_passed rules))

  -- what a join says is the verdict of the rules
  join_says : (join_of c t kind mac session version).says ≡ ruled (join_rules c t kind mac version) refuses rests
  unfolding join_of
  join_says = ruled_through (λ (a : After). a.says) (join_rules c t kind mac version) (refused c t) (joined_as c t kind mac session version)

  -- a join that rests passed each rule
  pub join_accepted : (join_of c t kind mac session version).says ≡ rests → Passed (join_rules c t kind mac version)
  join_accepted e = (gave (join_rules c t kind mac version) (4 ∷ []) (4 ∷ []) (sym join_says ∙ e)).0
