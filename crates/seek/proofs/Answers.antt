-- What an answer in the exchange leaves, by what the join of who answered would leave.
use Prim.Native.Nat.{ℕ, ◌≤◌, ◌<◌}
use mathlib.Core.Path.{◌≡◌, refl, sym, ap, ◌∙◌}
use mathlib.Core.Logic.{◌⊎◌, inl, inr}
use mathlib.Core.Bool.{Bool, true, false}
use mathlib.Core.List.{List, []}
use lib.Dec.{ltb}
use borrow.Author.Tests.{lt-ltb, le-ltb, eq-eqb, ne_eqb}
use Rattle.std.specs.Prelude.{Ok}
use Rattle.ground.specs.Choose.{choose}
use Rattle.seek.specs.Parts.{mac_place, version_in, found_at, teller}
use Rattle.ground.specs.Bytes.{laid}
use Rattle.ground.proofs.Choices.{choose_yes, choose_no}
use Rattle.accept.specs.declared.Reply.{Reply}
use Rattle.accept.specs.declared.Reply.TheVariants.{Identified, Assigned}
use Rattle.board.specs.declared.Node.{Node}
use Rattle.coordinator.specs.declared.Coordinator.{Coordinator}
use Rattle.coordinator.specs.declared.Found.{Found}
use Rattle.coordinator.specs.Change.{finding, ended}
use Rattle.steps.specs.declared.Stepped.{Stepped}
use Rattle.steps.specs.After.{shown, shows, resting, Leaves}
use Rattle.steps.specs.Hear.{hear_mac}
use Rattle.steps.specs.Seek.{join_found, answered, outcome, settled, replied_as}

module _ (c : Coordinator) (t : List Node) (f : Found) {n : ℕ} (e : n ≡ (join_found c t f).joined) where
  -- the discovery was answered: by one who could join, or by one who could not
  pub answered_found : 0 < n → answered c t f ≡ resting (finding c f n) t 0 0
  answered_found l = sym (choose_yes _ _ _ _ (ap (ltb 0) (sym e) ∙ lt-ltb 0 n l) (ap (λ (p : ℕ). resting (finding c f p) t 0 0) e))

  pub answered_ended : n ≤ 0 → answered c t f ≡ resting (ended c) t 0 0
  answered_ended l = sym (choose_no _ _ _ _ (ap (ltb 0) (sym e) ∙ le-ltb 0 n l) refl)

  -- the exchange ends: with a join at the position at stake, or without
  module _ (position : ℕ) where
    pub outcome_joined : n ≡ position → outcome c t position f ≡ join_found c t f
    outcome_joined q = sym (choose_yes _ _ _ _ (eq-eqb _ _ (sym e ∙ q)) refl)

    pub outcome_ended : (n ≡ position → ⊥) → outcome c t position f ≡ resting (ended c) (hear_mac t position f.mac) 0 0
    outcome_ended q = sym (choose_no _ _ _ _ (ne_eqb _ _ (λ h. q (e ∙ h))) refl)

-- either way nothing is written to a discovery's answer
pub leaves_answered : (r : Stepped) (o : List ℕ) (c : Coordinator) (t : List Node) (f : Found) → shown r ≡ shows (answered c t f) → Leaves (answered c t f) r o o
unfolding choose
leaves_answered r o c t f h = (h, ap (λ (b : List ℕ). laid b o) (sym (silent (ltb 0 (join_found c t f).joined))))
  where
    silent : (b : Bool) → (choose b (resting (finding c f (join_found c t f).joined) t 0 0) (resting (ended c) t 0 0)).bytes ≡ []
    silent true = refl
    silent false = refl

-- the replies that end the exchange
pub settles : (x : Reply) (position : ℕ) (c : Coordinator) (t : List Node) (packet : ℕ) (p : List ℕ) (room : ℕ) → (x ≡ Identified) ⊎ (x ≡ Assigned) → replied_as (Ok x) position c t packet p room ≡ settled c t position (teller x c.found (found_at p (mac_place x) (version_in x packet c.found))) room
settles x position c t packet p room (inl e) = rw e refl
settles x position c t packet p room (inr e) = rw e refl
