-- The contracts, as they stand in the source, leave one result for each input, and of the writer one content of the output.
use mathlib.Core.Path.{◌≡◌, sym, ◌∙◌}
use mathlib.Core.List.{List}
use mathlib.Core.Bool.{Bool}
use Prim.Native.Nat.{ℕ}
use base.Fml.{Lft}
use denote.Ref.{Bor, MutBor}
use Rattle.std.proofs.Common.{Result}
use Rattle.refusal.specs.declared.Refusal.{Refusal}
use Rattle.refusal.proofs.Numbers.{same_counts}
use Rattle.nodelist.specs.List.{told}
use Rattle.nodelist.proofs.list_length.Reads as list_length
use Rattle.nodelist.proofs.write_list.Reads as write-list
use Rattle.nodelist.proofs.condense.Reads as condense
use Rattle.nodelist.proofs.same_list.Reads as same-list

-- two answers that say the same are the same
pub same_told : (r q : Result ℕ Refusal) → told r ≡ told q → r ≡ q
same_told = same_counts

pub unique_list_length : (κs a s t : _) (r q : ℕ) → list_length.Post κs a r s → list_length.Post κs a q t → r ≡ q
unique_list_length κs a s t r q p p' = p ∙ sym p'

abbrev Writes : Type 0
Writes = ℕ × (Bor (List ℕ) × (ℕ × (MutBor (List ℕ) × Unit {0})))

abbrev out : Writes → List ℕ
out s = s.1.1.1.0.now

pub unique_write_list : (κs : Lft × (Lft × Unit {0})) (a : Writes) (r q : Result ℕ Refusal) (s t : Writes) → write-list.Post κs a r s → write-list.Post κs a q t → (r ≡ q) × (out s ≡ out t)
unique_write_list κs a r q s t p p' = (same_told r q (p.0 ∙ sym p'.0), p.1 ∙ sym p'.1)

pub unique_condense : (κs : Lft × Unit {0}) (a s t : _) (r q : List ℕ) → condense.Post κs a r s → condense.Post κs a q t → r ≡ q
unique_condense κs a s t r q p p' = p ∙ sym p'

pub unique_same_list : (κs : Lft × (Lft × Unit {0})) (a s t : _) (r q : Bool) → same-list.Post κs a r s → same-list.Post κs a q t → r ≡ q
unique_same_list κs a s t r q p p' = p ∙ sym p'
