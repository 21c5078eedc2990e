-- Set Address's echo is exactly the form of 003's Tables 59 and 60: address, subnet, MAC, session, 1.
use Prim.Native.Nat.{ℕ, ◌<◌, ◌^◌}
use native.Mathlib.Omega.{arith}
use mathlib.Core.Path.{◌≡◌, refl, sym, ap, ◌∙◌}
use mathlib.Core.Logic.{◌↔◌}
use mathlib.Core.Bool.{true}
use mathlib.Core.List.{List, [], ◌∷◌, ◌++◌}
use lib.ListN.{length, get_or, take, drop, length-append, length-drop}
use lib.Seq.{take-add, take_all, drop-cons, get_or-drop}
use Rattle.frame.specs.Frame.{byte}
use Rattle.word.specs.Words.{bytes_of, word_at}
use Rattle.word.proofs.Words.{Bytes, length_bytes, read_back, write_back}
use Rattle.accept.specs.Replies.{is_assignment}
use Rattle.accept.proofs.Cases.{equal_exactly, and_exactly}

-- the payload of Tables 59 and 60
abbrev pub table_assignment : ℕ → ℕ → ℕ → ℕ → List ℕ
table_assignment address subnet mac session = address ∷ subnet ∷ bytes_of 8 mac ++ (bytes_of 8 session ++ 1 ∷ [])

-- what an assignment has: 19 bytes, address and subnet, the MAC from 2 on, the session from 10 on, and 1
module _ (address subnet mac session : ℕ) (payload : List ℕ) where
  abbrev Parts : Type 0
  Parts = (length payload ≡ 19) × ((byte payload 0 ≡ address) × ((byte payload 1 ≡ subnet) × ((word_at payload 2 ≡ mac) × ((word_at payload 10 ≡ session) × (byte payload 18 ≡ 1)))))

  parts_exactly : (is_assignment address subnet mac session payload ≡ true) ↔ Parts
  unfolding is_assignment
  parts_exactly =
      and_exactly _ _ (equal_exactly _ _)
      (and_exactly _ _ (equal_exactly _ _)
      (and_exactly _ _ (equal_exactly _ _)
      (and_exactly _ _ (equal_exactly _ _)
      (and_exactly _ _ (equal_exactly _ _) (equal_exactly _ _)))))

-- the table's payload has them, where MAC and session fit eight bytes
module _ (address subnet mac session : ℕ) where
  table_size : length (table_assignment address subnet mac session) ≡ 19
  table_size = simp (length-append, length_bytes)

  table_session : session < 256 ^ 8 → word_at (table_assignment address subnet mac session) 10 ≡ session
  table_session h = rw (← ten) (read_back (address ∷ subnet ∷ bytes_of 8 mac) (1 ∷ []) session h)
    where
      ten : length (address ∷ subnet ∷ bytes_of 8 mac) ≡ 10
      ten = rw length_bytes refl

  table_last : byte (table_assignment address subnet mac session) 18 ≡ 1
  unfolding bytes_of
  table_last = refl

  -- so it is an assignment
  pub table_is_assignment : mac < 256 ^ 8 → session < 256 ^ 8 → is_assignment address subnet mac session (table_assignment address subnet mac session) ≡ true
  table_is_assignment m n =
      (parts_exactly address subnet mac session _).1 (table_size, (refl, (refl, (read_back (address ∷ subnet ∷ []) (bytes_of 8 session ++ 1 ∷ []) mac m, (table_session n, table_last)))))

-- seventeen bytes are eight, eight and one
thirds : (l : List ℕ) → length l ≡ 17 → l ≡ take 8 l ++ (take 8 (drop 8 l) ++ get_or l 16 0 ∷ [])
thirds l e = sym (take_all 17 l (omega arith)) ∙ take-add 8 9 l ∙ ap (λ (r : List ℕ). take 8 l ++ r) (take-add 8 1 (drop 8 l) ∙ ap (λ (r : List ℕ). take 8 (drop 8 l) ++ take 1 r) last)
  where
    last : drop 8 (drop 8 l) ≡ get_or l 16 0 ∷ drop 9 (drop 8 l)
    last = drop-cons (drop 8 l) 8 0 (rw length-drop (omega arith)) ∙ ap (λ (x : ℕ). x ∷ drop 9 (drop 8 l)) (get_or-drop 8 l 8 0)

-- and whatever bytes have them are the table's payload
parts_are_table : (address subnet mac session : ℕ) (payload : List ℕ) → Bytes payload → Parts address subnet mac session payload → payload ≡ table_assignment address subnet mac session
parts_are_table address subnet mac session [] bytes (size, _) = absurd (let z : ⊥ = omega arith in z)
parts_are_table address subnet mac session (a ∷ []) bytes (size, _) = absurd (let z : ⊥ = omega arith in z)
parts_are_table address subnet mac session (a ∷ b ∷ rest) bytes (size, (first, (second, (m, (n, one))))) =
    rw (first, second) (ap (λ (l : List ℕ). address ∷ subnet ∷ l) (thirds rest (omega arith) ∙ rw (← mac_bytes, ← session_bytes, one) refl))
  where
    mac_bytes : bytes_of 8 mac ≡ take 8 rest
    mac_bytes = ap (bytes_of 8) (sym m) ∙ write_back (a ∷ b ∷ rest) 2 bytes (omega (arith, size))

    session_bytes : bytes_of 8 session ≡ take 8 (drop 8 rest)
    session_bytes = ap (bytes_of 8) (sym n) ∙ write_back (a ∷ b ∷ rest) 10 bytes (omega (arith, size))

-- a payload is Set Address's for this address, subnet, MAC and session exactly where it is that of the table
pub assignment_exactly : (address subnet mac session : ℕ) (payload : List ℕ) → Bytes payload → mac < 256 ^ 8 → session < 256 ^ 8 → (is_assignment address subnet mac session payload ≡ true) ↔ (payload ≡ table_assignment address subnet mac session)
assignment_exactly address subnet mac session payload bytes m n =
    ((λ h. parts_are_table address subnet mac session payload bytes ((parts_exactly address subnet mac session payload).0 h)), λ e. rw e (table_is_assignment address subnet mac session m n))
