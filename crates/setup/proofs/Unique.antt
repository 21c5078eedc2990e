-- The contracts, as they stand in the source, leave one result for each input.
use Prim.Native.Nat.{ℕ}
use mathlib.Core.Path.{◌≡◌, refl, sym, ap, ◌∙◌}
use mathlib.Core.Bool.{Bool}
use mathlib.Core.List.{List}
use base.Fml.{Lft}
use Rattle.refusal.proofs.Numbers.{same_refused, gives_not}
use Rattle.std.specs.Prelude.{Result, Ok, Err}
use Rattle.refusal.specs.declared.Refusal.{Refusal}
use Rattle.setup.specs.Setup.{told_of}
use Rattle.setup.proofs.is_mac.Reads as is-mac
use Rattle.setup.proofs.is_pool.Reads as is-pool
use Rattle.setup.proofs.shipped_pool.Reads as shipped-pool
use Rattle.setup.proofs.address_at.Reads as address-at
use Rattle.setup.proofs.subnet_of.Reads as subnet-of
use Rattle.setup.proofs.setup_fits.Reads as setup_fits_lem
use Rattle.setup.proofs.judge_setup.Reads as judge-setup
use Rattle.setup.proofs.record_fits.Reads as record-fits
use Rattle.setup.proofs.boards_fit.Reads as boards-fit

pub unique_is_mac : (a s t : _) (r q : Bool) → is-mac.Post tt a r s → is-mac.Post tt a q t → r ≡ q
unique_is_mac a s t r q p p' = p ∙ sym p'

pub unique_is_pool : (κs : Lft × Unit {0}) (a s t : _) (r q : Bool) → is-pool.Post κs a r s → is-pool.Post κs a q t → r ≡ q
unique_is_pool κs a s t r q p p' = p ∙ sym p'

pub unique_shipped_pool : (a s t : _) (r q : List ℕ) → shipped-pool.Post tt a r s → shipped-pool.Post tt a q t → r ≡ q
unique_shipped_pool a s t r q p p' = p ∙ sym p'

pub unique_address_at : (a s t : _) (r q : ℕ) → address-at.Post tt a r s → address-at.Post tt a q t → r ≡ q
unique_address_at a s t r q p p' = p ∙ sym p'

pub unique_subnet_of : (a s t : _) (r q : ℕ) → subnet-of.Post tt a r s → subnet-of.Post tt a q t → r ≡ q
unique_subnet_of a s t r q p p' = p ∙ sym p'

pub unique_setup_fits : (a s t : _) (r q : Bool) → setup_fits_lem.Post tt a r s → setup_fits_lem.Post tt a q t → r ≡ q
unique_setup_fits a s t r q p p' = p ∙ sym p'

pub unique_record_fits : (a s t : _) (r q : Bool) → record-fits.Post tt a r s → record-fits.Post tt a q t → r ≡ q
unique_record_fits a s t r q p p' = p ∙ sym p'

pub unique_boards_fit : (κs : Lft × Unit {0}) (a s t : _) (r q : Bool) → boards-fit.Post κs a r s → boards-fit.Post κs a q t → r ≡ q
unique_boards_fit κs a s t r q p p' = p ∙ sym p'

-- two judgements that say the same are the same
pub same_told : (r q : Result (Unit {0}) Refusal) → told_of r ≡ told_of q → r ≡ q
same_told (Ok _) (Ok _) h = refl
same_told (Ok _) (Err q) h = absurd (gives_not _ q h)
same_told (Err r) (Ok _) h = absurd (gives_not _ r (sym h))
same_told (Err r) (Err q) h = ap Err (same_refused r q h)

pub unique_judge_setup : (κs : Lft × Unit {0}) (a s t : _) (r q : Result (Unit {0}) Refusal) → judge-setup.Post κs a r s → judge-setup.Post κs a q t → r ≡ q
unique_judge_setup κs a s t r q p p' = same_told r q (p ∙ sym p')
