-- The contracts promise what those of the library do: one outcome for each input, by the library's laws.
use mathlib.Core.Path.{◌≡◌, sym, ◌∙◌}
use Prim.Native.Nat.{ℕ}
use Rattle.panel.proofs.Unique.{Same, same_facing, Setups, Numbered, numbered_output, Listings, Positions, same_amends}
use Rattle.panel_c.proofs.nadrelgos_list.Reads as list
use Rattle.panel_c.proofs.nadrelgos_clear.Reads as clear
use Rattle.panel_c.proofs.nadrelgos_mark.Reads as mark
use Rattle.panel_c.proofs.nadrelgos_setup.Reads as setup
use Rattle.panel_c.proofs.nadrelgos_step.Reads as step

pub unique_nadrelgos_list : (κs : _) (a s t : Listings) (r q : ℕ) → list.Post κs a r s → list.Post κs a q t → (r ≡ q) × (s.0.now ≡ t.0.now)
unique_nadrelgos_list κs a s t r q = same_amends r q _ _ _

pub unique_nadrelgos_clear : (κs : _) (a s t : Positions) (r q : ℕ) → clear.Post κs a r s → clear.Post κs a q t → (r ≡ q) × (s.0.now ≡ t.0.now)
unique_nadrelgos_clear κs a s t r q = same_amends r q _ _ _

pub unique_nadrelgos_mark : (κs : _) (a s t : Positions) (r q : ℕ) → mark.Post κs a r s → mark.Post κs a q t → (r ≡ q) × (s.0.now ≡ t.0.now)
unique_nadrelgos_mark κs a s t r q = same_amends r q _ _ _

pub unique_nadrelgos_setup : (κs : _) (a s t : Setups) (r q : ℕ) → setup.Post κs a r s → setup.Post κs a q t → Same r q s.0.now t.0.now s.1.0.now t.1.0.now
unique_nadrelgos_setup κs a s t r q p p' = same_facing r q _ _ _ _ (p ∙ sym p')

pub unique_nadrelgos_step : (κs : _) (a s t : Numbered) (r q : ℕ) → step.Post κs a r s → step.Post κs a q t → Same r q s.0.now t.0.now s.1.0.now t.1.0.now × (numbered_output s ≡ numbered_output t)
unique_nadrelgos_step κs a s t r q p p' = (same_facing r q _ _ _ _ (p.0 ∙ sym p'.0), p.1 ∙ sym p'.1)
