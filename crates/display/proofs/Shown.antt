-- What is handed back is text, and nothing else, whatever the payload (02, C-22); and how long a payload is that reads well.
use Prim.Native.Nat.{ℕ, ◌+◌, ◌≤◌, ◌<◌}
use native.Mathlib.Omega.{arith}
use mathlib.Core.Path.{◌≡◌, refl}
use mathlib.Core.Bool.{true}
use mathlib.Core.List.{List, []}
use lib.ListN.{length, get_or, length-drop}
use lib.Dec.{leb}
use borrow.Author.Tests.{leb-true}
use Rattle.ground.specs.Below.{all}
use Rattle.ground.proofs.Choices.{and_left, and_right}
use Rattle.ground.proofs.Loops.{all_at}
use Rattle.refusal.specs.Refusal.{gives}
use Rattle.refusal.proofs.Rules.{Passed, each, by_rules}
use Rattle.display.specs.Text.{is_text, all_text, behind, read_text_rules, read_text, text_of}
use Rattle.display.proofs.Laws.{well_formed}
use Rattle.display.proofs.RoundTrip.{read_well}

module _ (own most : ℕ) (p : List ℕ) where
  -- text alone, and at most the maximum of it
  abbrev Fine : List ℕ → Type 0
  Fine text = (all_text text ≡ true) × (length text ≤ most)

  -- nothing else is handed back, whatever the payload
  pub shown_is_text : Fine (text_of own most p)
  unfolding text_of all_text all
  shown_is_text = by_rules Fine (read_text_rules own most p) (λ r. []) (behind own p) (each {Q = λ r. Fine []} (λ r. (refl, omega arith)) (read_text_rules own most p)) well
    where
      well : Passed (read_text_rules own most p) → Fine (behind own p)
      well ok = let w = well_formed own most p ok in (w.shown, rw (length-drop (own + 1) p) (omega (arith, w.long, w.small)))

  -- each byte of it is 0x20 to 0x7E
  pub shown_byte : (i : ℕ) → i < length (text_of own most p) → (32 ≤ get_or (text_of own most p) i 0) × (get_or (text_of own most p) i 0 ≤ 126)
  unfolding all_text
  shown_byte i h =
      let b : ℕ = get_or (text_of own most p) i 0 in
      let text = all_at (λ j. is_text (get_or (text_of own most p) j 0)) (length (text_of own most p)) i shown_is_text.0 h in
      (leb-true 32 b (and_left (leb 32 b) (leb b 126) text), leb-true b 126 (and_right (leb 32 b) (leb b 126) text))

  -- what reads well is as long as its table says: its fixed bytes, and at most the maximum more
  pub payload_length : (vs : List ℕ) → read_text own most p ≡ gives vs → (own + 1 ≤ length p) × (length p ≤ own + 1 + most)
  payload_length vs e = let w = read_well own most p vs e in (omega (arith, w.long), omega (arith, w.long, w.small))
