-- What C is told, by what is said: of who holds a record, and of one that was stored.
use Prim.Native.Nat.{ℕ, ◌+◌, ◌<◌}
use native.Mathlib.Omega.{arith}
use mathlib.Core.Path.{◌≡◌, refl, ap, ◌∙◌}
use mathlib.Core.List.{List, [], ◌∷◌}
use lib.ListN.{length}
use borrow.Author.Tests.{ne_eqb}
use Rattle.ground.specs.Choose.{choose}
use Rattle.refusal.specs.Refusal.{Told, number_of, refuses, gives}
use Rattle.refusal.specs.declared.Refusal.{Refusal}
use Rattle.shared.specs.declared.HolderNumbers.{HolderNumbers}
use Rattle.shared.specs.declared.StoreNumbers.{StoreNumbers}
use Rattle.shared.specs.Image.{start_of}
use Rattle.shared.specs.Numbers.{holder_numbers, store_numbers}

pub told_alike : {t u : Told} {a b : List ℕ} → t ≡ u → a ≡ b → holder_numbers t a ≡ holder_numbers u b
told_alike {u = u} {a = a} e q = ap (λ (x : Told). holder_numbers x a) e ∙ ap (holder_numbers u) q

-- of a record that nobody holds all is 0
pub nobody_told : (h : HolderNumbers) → (h.refusal ≡ 0) × ((h.image ≡ 0) × ((h.slot ≡ 0) × ((h.start ≡ 0) × (h.length ≡ 0)))) → h ≡ holder_numbers (gives (0 ∷ 0 ∷ [])) []
unfolding holder_numbers choose
nobody_told h e = λ i. record { refusal = e.0 i; image = e.1.0 i; slot = e.1.1.0 i; start = e.1.1.1.0 i; length = e.1.1.1.1 i }

-- and of a refusal all but its number
pub refused_told : (h : HolderNumbers) (q : Refusal) → (h.refusal ≡ 0) × ((h.image ≡ 0) × ((h.slot ≡ 0) × ((h.start ≡ 0) × (h.length ≡ 0)))) → {n : ℕ} → n ≡ number_of q → record h { refusal = n } ≡ holder_numbers (refuses q) []
unfolding holder_numbers choose
refused_told h q e d = λ i. record { refusal = d i; image = e.1.0 i; slot = e.1.1.0 i; start = e.1.1.1.0 i; length = e.1.1.1.1 i }

pub stored_told : (k : ℕ) (bytes : List ℕ) → 0 < k → record { refusal = 0; slot = k; start = start_of k; length = 2 + length bytes } ≡ store_numbers (gives (k ∷ [])) bytes
unfolding store_numbers choose
stored_told k bytes h = rw (ne_eqb k 0 (omega (arith, h))) refl

pub unstored_told : (h : StoreNumbers) (q : Refusal) (bytes : List ℕ) → (h.refusal ≡ 0) × ((h.slot ≡ 0) × ((h.start ≡ 0) × (h.length ≡ 0))) → {n : ℕ} → n ≡ number_of q → record h { refusal = n } ≡ store_numbers (refuses q) bytes
unfolding store_numbers choose
unstored_told h q bytes e d = λ i. record { refusal = d i; slot = e.1.0 i; start = e.1.1.0 i; length = e.1.1.1 i }
