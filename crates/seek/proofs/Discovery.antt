-- What a discovery leaves, by what its rules say.
use Prim.Native.Nat.{ℕ}
use native.Mathlib.Omega.{arith}
use mathlib.Core.Path.{◌≡◌, refl, sym, ap, ◌∙◌}
use mathlib.Core.Bool.{Bool, true, false}
use mathlib.Core.List.{List}
use lib.ListN.{length, drop}
use lib.Dec.{ltb}
use borrow.Author.Tests.{eq-eqb, ne_eqb}
use Rattle.ground.specs.Choose.{choose}
use Rattle.ground.proofs.Choices.{choose_yes, choose_no, yes, no, not_no}
use Rattle.refusal.specs.Refusal.{ruled}
use Rattle.refusal.specs.declared.Refusal.TheVariants.{Busy, Held, Full, NoRoom}
use Rattle.frame.specs.Frame.{Writing}
use Rattle.std.specs.Prelude.{Ok}
use Rattle.board.specs.declared.Node.{Node}
use Rattle.message.specs.Message.{discovery_header, every_kind, Sends}
use Rattle.coordinator.specs.declared.Coordinator.{Coordinator}
use Rattle.coordinator.specs.Fit.{fits}
use Rattle.coordinator.specs.Change.{searching}
use Rattle.steps.specs.declared.Seek.TheVariants.{Search as ToSearch}
use Rattle.steps.specs.declared.Answer.TheVariants.{Seek}
use Rattle.steps.specs.declared.Stepped.{Stepped}
use Rattle.steps.specs.After.{After, shown, leaving, seeks, refused, Leaves}
use Rattle.steps.specs.Join.{is_busy}
use Rattle.steps.specs.Discover.{free_place, is_held_back, discover_rules, searched, discover_of}
use Rattle.steps.proofs.Shows.{leaves_as}
use Rattle.steps.proofs.Writes.{shown_as, leaves_written}
use Rattle.change.specs.declared.Edit.TheVariants.{Nothing}
use Rattle.change.specs.declared.Move.TheVariants.{Searching}
use Rattle.change.specs.declared.Change.{Change}
use Rattle.change.specs.Change.{changing, applied}
use Rattle.change.proofs.Making.{makes_none}

module _ (c : Coordinator) (t : List Node) (room : ℕ) where
  -- the rules on the position at stake and on the room, and what is left where neither holds
  abbrev pub placing : After
  placing = ruled (drop 3 (discover_rules c t room)) (refused c t) (searched c t)

  -- of fit records: 14 where the panel is busy
  module _ (fit : fits c t ≡ true) {busy : Bool} (e : busy ≡ is_busy c t) where
    pub discover_busy : busy ≡ true → discover_of c t room ≡ refused c t Busy
    unfolding discover_of
    discover_busy h = sym (choose_no _ _ _ _ (not_no (fits c t) fit) (yes _ e h refl))

    -- 15 where the discovery is held back, and else these rules decide
    module _ (free : busy ≡ false) {held : Bool} (f : held ≡ is_held_back c t) where
      pub discover_held : held ≡ true → discover_of c t room ≡ refused c t Held
      unfolding discover_of
      discover_held h = sym (choose_no _ _ _ _ (not_no (fits c t) fit) (no _ e free (yes _ f h refl)))

      pub discover_searches : held ≡ false → discover_of c t room ≡ placing
      unfolding discover_of
      discover_searches h = sym (choose_no _ _ _ _ (not_no (fits c t) fit) (no _ e free (no _ f h refl)))

  -- 16 where no position is free, else the room decides
  pub no_place : {n : ℕ} → n ≡ free_place c t → n ≡ 0 → placing ≡ refused c t Full
  no_place e z = sym (choose_yes _ _ _ _ (eq-eqb (free_place c t) 0 (sym e ∙ z)) refl)

  a_place : {n : ℕ} → n ≡ free_place c t → (n ≡ 0 → ⊥) → placing ≡ choose (ltb room 13) (refused c t NoRoom) (searched c t)
  a_place e z = sym (choose_no _ _ _ _ (ne_eqb (free_place c t) 0 (λ f. z (e ∙ f))) refl)

-- what is shown of the search, by the position that was found
pub makes_searched : (p : List ℕ) (c : Coordinator) (t : List Node) {n : ℕ} (written : ℕ) → n ≡ free_place c t → {x : Change} → x ≡ changing (Searching n) 0 Nothing false (Seek n ToSearch) written 0 0 → applied x p c t ≡ shown_as (Ok written) c t (searched c t)
makes_searched p c t {n} written place h =
    makes_none p c t Nothing (Seek n ToSearch) written 0 0 h ∙
    ap (λ (m : ℕ). leaving (searching c m) t (seeks m ToSearch) written 0 0) place

-- a writing of Node Discovery, shown as it came out, leaves what the definition says
pub leaves_searched : (c : Coordinator) (t : List Node) (r : Stepped) (before after : List ℕ) {n : ℕ} → n ≡ free_place c t → (n ≡ 0 → ⊥) → (w : Writing) → Sends discovery_header every_kind w before after → shown r ≡ shown_as w c t (searched c t) → Leaves (placing c t (length before)) r before after
leaves_searched c t r before after e z w s h =
    leaves_as r before after (a_place c t (length before) e z)
    (leaves_written discovery_header every_kind (omega arith) c t (searched c t) refl r before after w s h)
