-- What C is told points at the text: the part of the payload that the numbers name is the text that is handed back, and lies in the payload.
use Prim.Native.Nat.{ℕ, ◌+◌}
use native.Mathlib.Omega.{arith}
use mathlib.Core.Path.{◌≡◌, refl, subst}
use mathlib.Core.List.{List, []}
use lib.ListN.{get_or, take, length-drop}
use lib.Seq.{take_all, get_or-take}
use lib.Dec.{eqb}
use borrow.Author.Tests.{ne_eqb}
use Rattle.ground.specs.Choose.{choose}
use Rattle.ground.specs.Bytes.{Names}
use Rattle.refusal.specs.Refusal.{Told, value, refuses, gives, ruled}
use Rattle.refusal.specs.declared.Refusal.{Refusal}
use Rattle.refusal.proofs.Numbers.{not_zero}
use Rattle.refusal.proofs.Rules.{Passed, ruled_through, each, by_rules}
use Rattle.display.specs.Text.{inner_length, behind, read_text_rules, read_text, text_of}
use Rattle.display.specs.Messages.{display_most, read_display, display_text, diagnostics_most, read_diagnostics, diagnostics_text}
use Rattle.display.specs.Numbers.{display_numbers, diagnostics_numbers}
use Rattle.display.proofs.Laws.{WellFormed, well_formed}

module _ (own most : ℕ) (p : List ℕ) where
  -- where C is told that the text begins
  abbrev begin : Told → ℕ
  begin t = choose (eqb t.number 0) (own + 1) 0

  -- the part that an answer points at, in the payload, is this text
  abbrev Points : Told → List ℕ → Type 0
  Points t text = Names (begin t) (value t own) p text

  refused_points : (r : Refusal) → Points (refuses r) []
  unfolding choose
  refused_points r = rw (ne_eqb _ 0 (not_zero r)) (omega arith, refl)

  read_points : Passed (read_text_rules own most p) → Points (gives (take (own + 1) p)) (behind own p)
  unfolding choose
  read_points ok = rw told (omega (arith, w.long), take_all (inner_length own p) (behind own p) (rw (length-drop (own + 1) p) (omega (arith, w.long))))
    where
      w : WellFormed own most p
      w = well_formed own most p ok

      told : get_or (take (own + 1) p) own 0 ≡ inner_length own p
      told = get_or-take (own + 1) p own 0 (omega arith)

  -- whatever the payload, what is told of it points at its text, or at nothing
  pub points : Points (read_text own most p) (text_of own most p)
  unfolding read_text text_of
  points =
      let f : Refusal → Told × List ℕ = λ r. (refuses r, []) in
      let v : Told × List ℕ = (gives (take (own + 1) p), behind own p) in
      let both = by_rules (λ (x : Told × List ℕ). Points x.0 x.1) (read_text_rules own most p) f v (each {Q = λ r. Points (refuses r) []} refused_points (read_text_rules own most p)) read_points in
      subst (λ (t : Told). Points t (text_of own most p)) (ruled_through (λ (x : Told × List ℕ). x.0) (read_text_rules own most p) f v)
      (subst (λ (l : List ℕ). Points (ruled (read_text_rules own most p) f v).0 l) (ruled_through (λ (x : Told × List ℕ). x.1) (read_text_rules own most p) f v) both)

-- the numbers of a face name the text, a part of the payload
pub display_named : (p : List ℕ) → let told = display_numbers (read_display p) in Names told.start told.length p (display_text p)
unfolding display_numbers
display_named p = points 1 display_most p

pub diagnostics_named : (p : List ℕ) → let told = diagnostics_numbers (read_diagnostics p) in Names told.start told.length p (diagnostics_text p)
unfolding diagnostics_numbers
diagnostics_named p = points 3 diagnostics_most p
