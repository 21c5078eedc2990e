-- Bytes that are spelled in hex read back as the same bytes.
use Prim.Native.Nat.{ℕ, zero, suc, ◌/◌, ◌%◌, ◌≤◌, ◌<◌}
use native.Mathlib.Omega.{arith}
use mathlib.Core.Path.{◌≡◌, refl, ◌∙◌}
use mathlib.Core.List.{List, [], ◌∷◌}
use mathlib.Core.Bool.{true}
use lib.ListN.{length, get_or}
use lib.Seq.{ext_get_or}
use lib.Dec.{ltb}
use borrow.Author.Tests.{lt-ltb, le-leb, eq-eqb}
use Rattle.std.proofs.lemmas.Bool.Decides.{nat_tests}
use Rattle.ground.specs.Choose.{choose}
use Rattle.ground.proofs.Loops.{all_of}
use Rattle.script.specs.Hex.{nibble, is_hex, pair_at, hex_bytes, glyph, spelled}
use Rattle.script.proofs.Hex.{nibble_is, hex_length, hex_at, spelled_length, spelled_high, spelled_low}

-- a digit is worth the number that it was written for
nibble_glyph : (n : ℕ) → n < 16 → nibble (glyph n) ≡ n
unfolding glyph choose
nibble_glyph n l = rw nibble_is (grind (arith, nat_tests))

module _ (b : List ℕ) (small : (i : ℕ) → get_or b i 0 < 256) where
  -- each byte is read from its two digits
  read_back : (i : ℕ) → i < length b → pair_at (spelled b) i ≡ get_or b i 0
  unfolding pair_at
  read_back i l =
      let h = small i in
      rw (spelled_high b i l, spelled_low b i l, nibble_glyph (get_or b i 0 / 16) (omega arith), nibble_glyph (get_or b i 0 % 16) (omega arith)) (omega arith)

  spelled_back : hex_bytes (spelled b) ≡ b
  spelled_back =
      let n = hex_length (spelled b) in
      let m = spelled_length b in
      ext_get_or 0 (hex_bytes (spelled b)) b (omega arith) (λ i l. hex_at (spelled b) i (omega arith) ∙ read_back i (omega arith))

-- each digit of a spelling is one
spelled_digits : (b : List ℕ) → ((i : ℕ) → get_or b i 0 < 256) → (i : ℕ) → i < length (spelled b) → nibble (get_or (spelled b) i 0) < 16
unfolding spelled
spelled_digits [] small i l = absurd (let z : ⊥ = omega arith in z)
spelled_digits (x ∷ b) small zero l = omega (arith, nibble_glyph (x / 16) (omega (arith, small 0)), small 0)
spelled_digits (x ∷ b) small (suc zero) l = omega (arith, nibble_glyph (x % 16) (omega arith))
spelled_digits (x ∷ b) small (suc (suc i)) l = spelled_digits b (λ j. small (suc j)) i (omega arith)

-- with room for as many bytes, or more
pub spelled_reads : (b : List ℕ) (room : ℕ) → ((i : ℕ) → get_or b i 0 < 256) → 0 < length b → length b ≤ room → (is_hex room (spelled b) ≡ true) × (hex_bytes (spelled b) ≡ b)
unfolding is_hex
spelled_reads b room small h k =
    let n = length (spelled b) in
    let m = spelled_length b in
    let even = eq-eqb (n % 2) 0 (omega arith) in
    let some = lt-ltb 0 n (omega arith) in
    let fits = le-leb (n / 2) room (omega arith) in
    let digits = all_of (λ i. ltb (nibble (get_or (spelled b) i 0)) 16) n (λ i l. lt-ltb _ _ (spelled_digits b small i l)) in
    (rw (even, some, fits, digits) refl, spelled_back b small)
