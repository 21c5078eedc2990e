-- Any series of stores (02, C-16): what it leaves, and what somebody expects who saw the stores and their answers.
use Rattle.std.specs.Prelude.{ℕ, ◌≤◌, ◌≡◌, Bool, true, ◌&&◌, List, [], ◌∷◌, eqb}
use Rattle.ground.specs.Choose.{choose}
use Rattle.refusal.specs.Refusal.{Told}
use Rattle.shared.specs.Image.{slots, holds}
use Rattle.shared.specs.Store.{storing, stored}

-- one store: whose record, and the record (003, Table 22)
pub record Store : Type 0 where
  pub sector : ℕ
  pub bytes : List ℕ

-- the image that a series leaves (house)
unfoldable pub left : List ℕ → List Store → List ℕ
left network [] = network
left network (p ∷ ps) = left (stored network p.sector p.bytes) ps

-- what an observer sees: each store, and its answer (house)
unfoldable pub seen : List ℕ → List Store → List (Store × Told)
seen network [] = []
seen network (p ∷ ps) = (p, storing network p.sector p.bytes) ∷ seen (stored network p.sector p.bytes) ps

-- a store of this sector that was not refused (house)
abbrev pub renews : ℕ → Store × Told → Bool
renews sector s = eqb s.1.number 0 && eqb s.0.sector sector

-- what is then expected of a sector: "storing replaces the record of that sector", so the one stored last, or what was served before (02, C-16)
unfoldable pub expected : ℕ → List ℕ → List (Store × Told) → List ℕ
expected sector before [] = before
expected sector before (s ∷ ss) = expected sector (choose (renews sector s) s.0.bytes before) ss

-- "one per sector node type": no two slots hold records of one sector (02, C-16)
abbrev pub OneEach : List ℕ → Type 0
OneEach image = (sector i j : ℕ) → 1 ≤ i → i ≤ slots → 1 ≤ j → j ≤ slots → holds image sector i ≡ true → holds image sector j ≡ true → i ≡ j
