-- An ACK is exactly the form of 003's Table 49: code 6, the record's MAC, a session.
use Prim.Native.Nat.{ℕ, ◌<◌, ◌^◌}
use native.Mathlib.Omega.{arith}
use mathlib.Core.Path.{◌≡◌, refl, sym, ap, ◌∙◌}
use mathlib.Core.Bool.{true, ◌&&◌, false≢true}
use mathlib.Core.List.{List, [], ◌∷◌, ◌++◌, append-nil}
use lib.ListN.{length, take, drop, length-append}
use lib.Seq.{take-add, take_all}
use lib.Dec.{eqb}
use borrow.Author.Tests.{eqb-true, eq-eqb}
use Rattle.ground.proofs.Choices.{and_left, and_right, both}
use Rattle.word.specs.Words.{bytes_of, word_at}
use Rattle.word.proofs.Words.{Bytes, length_bytes, read_back, write_back}
use Rattle.accept.specs.Accept.{is_ack, ack_session}

-- the payload of Table 49
abbrev pub table_ack : ℕ → ℕ → List ℕ
table_ack mac session = 6 ∷ (bytes_of 8 mac ++ bytes_of 8 session)

-- it is an ACK, with that session
pub table_is_ack : (mac session : ℕ) → mac < 256 ^ 8 → is_ack mac (table_ack mac session) ≡ true
unfolding is_ack
table_is_ack mac session h = both _ _ (eq-eqb _ _ size) (both _ _ refl (eq-eqb _ _ (read_back (6 ∷ []) (bytes_of 8 session) mac h)))
  where
    size : length (table_ack mac session) ≡ 17
    size = rw (length-append, length_bytes, length_bytes) refl

pub table_session : (mac session : ℕ) → session < 256 ^ 8 → ack_session (table_ack mac session) ≡ session
table_session mac session h =
    ap (λ (n : ℕ). word_at (table_ack mac session) n) nine
    ∙ ap (λ (l : List ℕ). word_at ((6 ∷ bytes_of 8 mac) ++ l) (length (6 ∷ bytes_of 8 mac))) (sym (append-nil (bytes_of 8 session)))
    ∙ read_back (6 ∷ bytes_of 8 mac) [] session h
  where
    nine : 9 ≡ length (6 ∷ bytes_of 8 mac)
    nine = rw length_bytes refl

halves : (l : List ℕ) → length l ≡ 16 → l ≡ take 8 l ++ take 8 (drop 8 l)
halves l e = sym (take_all 16 l (omega arith)) ∙ take-add 8 8 l

-- and an ACK is that payload, with the session that it carries
pub ack_is_table : (mac : ℕ) (payload : List ℕ) → Bytes payload → is_ack mac payload ≡ true → payload ≡ table_ack mac (ack_session payload)
unfolding is_ack
ack_is_table mac [] bytes h = absurd (false≢true h)
ack_is_table mac (b ∷ rest) bytes h =
    ap (λ (x : ℕ). x ∷ rest) (eqb-true b 6 (and_left (eqb b 6) (eqb (word_at (b ∷ rest) 1) mac) tail))
    ∙ ap (λ (l : List ℕ). 6 ∷ l)
    (halves rest size ∙ ap (λ (l : List ℕ). l ++ take 8 (drop 8 rest)) (sym first) ∙ ap (λ (l : List ℕ). bytes_of 8 mac ++ l) (sym second))
  where
    tail : (eqb b 6 && eqb (word_at (b ∷ rest) 1) mac) ≡ true
    tail = and_right (eqb (length (b ∷ rest)) 17) (eqb b 6 && eqb (word_at (b ∷ rest) 1) mac) h

    size : length rest ≡ 16
    size = omega (arith, eqb-true (length (b ∷ rest)) 17 (and_left (eqb (length (b ∷ rest)) 17) (eqb b 6 && eqb (word_at (b ∷ rest) 1) mac) h))

    first : bytes_of 8 mac ≡ take 8 rest
    first = ap (bytes_of 8) (sym (eqb-true (word_at (b ∷ rest) 1) mac (and_right (eqb b 6) (eqb (word_at (b ∷ rest) 1) mac) tail))) ∙ write_back (b ∷ rest) 1 bytes (omega (arith, size))

    second : bytes_of 8 (ack_session (b ∷ rest)) ≡ take 8 (drop 8 rest)
    second = write_back (b ∷ rest) 9 bytes (omega (arith, size))
