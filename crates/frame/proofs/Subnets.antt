-- Which frames a system takes by their subnet (02, C-14): its own and those of 0, and no other.
use Prim.Native.Nat.{ℕ}
use native.Mathlib.Omega.{arith}
use mathlib.Core.Path.{◌≡◌, refl, sym, ap, ◌∙◌}
use mathlib.Core.Logic.{◌⊎◌, inl, inr, ◌↔◌}
use mathlib.Core.Bool.{true, false}
use mathlib.Core.List.{List, [], ◌∷◌, ◌++◌}
use lib.Dec.{eqb}
use borrow.Author.Tests.{eq-eqb, eqb-true, not-true}
use Rattle.ground.proofs.Choices.{choose_yes, choose_no, or_left, or_right, either, not_yes, not_no}
use Rattle.refusal.specs.Refusal.{number_of, refuses, gives, ruled}
use Rattle.refusal.specs.declared.Refusal.{Refusal}
use Rattle.refusal.specs.declared.Refusal.TheVariants.{OtherSubnet}
use Rattle.refusal.proofs.Numbers.{same_refused, gives_not}
use Rattle.refusal.proofs.Rules.{passed_on, stopped, Unsaid, refused_first, refused_beyond}
use Rattle.frame.specs.Frame.{fields, header_of, length_byte, takes_subnet, whole_rules, subnet_rules, read_rules, reading}
use Rattle.frame.proofs.Told.{Whole, whole, whole_passes}

pub takes_own : (ours : ℕ) → takes_subnet ours ours ≡ true
takes_own ours = or_left _ _ (eq-eqb ours ours refl)

pub takes_zero : (ours : ℕ) → takes_subnet ours 0 ≡ true
takes_zero ours = or_right (eqb 0 ours) true refl

pub takes_only : (ours subnet : ℕ) → takes_subnet ours subnet ≡ true → (subnet ≡ ours) ⊎ (subnet ≡ 0)
takes_only ours subnet h = go (either (eqb subnet ours) (eqb subnet 0) h)
  where
    go : (eqb subnet ours ≡ true) ⊎ (eqb subnet 0 ≡ true) → (subnet ≡ ours) ⊎ (subnet ≡ 0)
    go (inl e) = inl (eqb-true subnet ours e)
    go (inr e) = inr (eqb-true subnet 0 e)

-- whether a frame is read is for its subnet alone to say
module _ {ℓ} {A : Type ℓ} (ours : ℕ) (b : List ℕ) (w : Whole b) (f : Refusal → A) (v : A) where
  pub taken_reads : takes_subnet ours (header_of b).subnet ≡ true → ruled (read_rules ours b) f v ≡ v
  taken_reads taken = passed_on (whole_rules b) (subnet_rules ours b) f v (whole_passes b w) ∙ sym (choose_no _ _ _ _ (not_no _ taken) refl)

  pub other_refused : takes_subnet ours (header_of b).subnet ≡ false → ruled (read_rules ours b) f v ≡ f OtherSubnet
  other_refused other = passed_on (whole_rules b) (subnet_rules ours b) f v (whole_passes b w) ∙ sym (choose_yes _ _ _ _ (not_yes _ other) refl)

-- 24 is given exactly for a frame of a subnet that is not taken
pub other_exactly : (ours : ℕ) (b : List ℕ) → (reading ours b ≡ refuses OtherSubnet) ↔ (Whole b × (takes_subnet ours (header_of b).subnet ≡ false))
unfolding reading
other_exactly ours b = (only, λ h. other_refused ours b h.0 refuses _ h.1)
  where
    values : List ℕ
    values = fields (header_of b) ++ length_byte b ∷ []

    unsaid : Unsaid (whole_rules b) OtherSubnet
    unsaid = ((λ e. omega (arith, ap number_of e)), ((λ e. omega (arith, ap number_of e)), ((λ e. omega (arith, ap number_of e)), ((λ e. omega (arith, ap number_of e)), tt))))

    only : ruled (whole_rules b ++ subnet_rules ours b) refuses (gives values) ≡ refuses OtherSubnet → Whole b × (takes_subnet ours (header_of b).subnet ≡ false)
    only e =
        let parts = refused_beyond refuses (gives values) same_refused (gives_not values) (whole_rules b) (subnet_rules ours b) OtherSubnet unsaid e in
        (whole b parts.0, not-true _ ((refused_first refuses (gives values) same_refused (gives_not values) _ OtherSubnet [] tt).0 parts.1))

-- and after 1 to 4: what is no frame is refused alike in every subnet
pub no_frame_alike : (ours theirs : ℕ) (b : List ℕ) → (Whole b → ⊥) → reading ours b ≡ reading theirs b
unfolding reading
no_frame_alike ours theirs b h = alone ours ∙ sym (alone theirs)
  where
    alone : (subnet : ℕ) → reading subnet b ≡ ruled (whole_rules b) refuses (gives [])
    alone subnet = stopped (whole_rules b) (subnet_rules subnet b) refuses _ (gives []) (λ p. h (whole b p))
