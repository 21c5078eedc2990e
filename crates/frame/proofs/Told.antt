-- What a reading and a writing say tells them apart, and what a frame that was read says of its bytes.
use Prim.Native.Nat.{ℕ, ◌+◌, ◌≤◌}
use native.Mathlib.Omega.{arith}
use mathlib.Core.Path.{◌≡◌, sym, ap, ◌∙◌}
use mathlib.Core.Bool.{true}
use mathlib.Core.List.{List, [], ◌∷◌, ◌++◌}
use lib.ListN.{length, get_or, take, drop}
use borrow.Author.Tests.{ltb-false, le-ltb, eqb-true, eq-eqb, not-false}
use Rattle.ground.proofs.Choices.{not_no}
use Rattle.refusal.specs.Refusal.{gives}
use Rattle.refusal.specs.declared.Refusal.{Refusal}
use Rattle.refusal.proofs.Numbers.{same_said, same_counts}
use Rattle.refusal.proofs.Rules.{Passed, passed_both, passed, gave, refused}
use Rattle.fletcher.specs.Fletcher.{is_good}
use Rattle.frame.specs.declared.Header.{Header}
use Rattle.frame.specs.declared.Frame.{Frame}
use Rattle.std.specs.Prelude.{Ok, Err}
use Rattle.frame.specs.Frame.{fields, header_of, length_byte, takes_subnet, whole_rules, subnet_rules, read_rules, reading, payload_of, frame_values, Reading, Writing, told, told_written}

-- the fields tell the header
pub same_header : (h g : Header) (n m : ℕ) → fields h ++ n ∷ [] ≡ fields g ++ m ∷ [] → h ≡ g
same_header h g n m e =
    λ i. record {
      destination = at 0 i;
      source = at 1 i;
      subnet = at 2 i;
      method = at 3 i;
      parameter1 = at 4 i;
      parameter2 = at 5 i;
      kind = at 6 i;
      message = at 7 i;
      packet = at 8 i;
    }
  where
    at : (j : ℕ) → get_or (fields h ++ n ∷ []) j 0 ≡ get_or (fields g ++ m ∷ []) j 0
    at j = ap (λ (l : List ℕ). get_or l j 0) e

pub same_count : (h g : Header) (n m : ℕ) → fields h ++ n ∷ [] ≡ fields g ++ m ∷ [] → n ≡ m
same_count h g n m e = ap (λ (l : List ℕ). get_or l 9 0) e

-- its numbers tell a frame that was read
same_frame : (f g : Frame) → frame_values f ≡ frame_values g → f ≡ g
same_frame f g e = λ i. record { header = same_header f.header g.header f.length g.length e i; length = same_count f.header g.header f.length g.length e i }

-- two readings that say the same are the same, and two writings
pub same_told : (r q : Reading) → told r ≡ told q → r ≡ q
same_told = same_said frame_values same_frame

pub same_written : (r q : Writing) → told_written r ≡ told_written q → r ≡ q
same_written = same_counts

-- what holds of bytes that are a frame, whatever its subnet
pub record Whole (b : List ℕ) : Type 0 where
  pub small : length_byte b ≤ 240
  pub long : length b ≡ 12 + length_byte b
  pub good : is_good b ≡ true

pub whole : (b : List ℕ) → Passed (whole_rules b) → Whole b
whole b p =
    record {
      small = ltb-false _ _ p.1.0;
      long = eqb-true _ _ (not-false _ p.1.1.0);
      good = not-false _ p.1.1.1.0;
    }

pub whole_passes : (b : List ℕ) → Whole b → Passed (whole_rules b)
whole_passes b w = (
  le-ltb (length b) 12 (omega (arith, w.long)),
  (le-ltb 240 (length_byte b) w.small, (not_no _ (eq-eqb _ _ w.long), (not_no _ w.good, tt))),
)

-- what holds of bytes that pass the reader's rules: they are a frame, and its subnet is taken
pub record Read (ours : ℕ) (b : List ℕ) : Type 0 where
  pub bytes : Whole b
  pub taken : takes_subnet ours (header_of b).subnet ≡ true

pub passed_read : (ours : ℕ) (b : List ℕ) → Passed (read_rules ours b) → Read ours b
passed_read ours b p =
    let parts = passed_both (whole_rules b) (subnet_rules ours b) p in
    record { bytes = whole b parts.0; taken = not-false _ parts.1.0 }

-- bytes that the reader gives values of are such, and the values are their own
pub read_whole : (ours : ℕ) (b vs : List ℕ) → reading ours b ≡ gives vs → Read ours b
unfolding reading
read_whole ours b vs e = passed_read ours b (gave (read_rules ours b) (fields (header_of b) ++ length_byte b ∷ []) vs e).0

pub read_values : (ours : ℕ) (b vs : List ℕ) → reading ours b ≡ gives vs → fields (header_of b) ++ length_byte b ∷ [] ≡ vs
unfolding reading
read_values ours b vs e = (gave (read_rules ours b) (fields (header_of b) ++ length_byte b ∷ []) vs e).1

-- a frame that was read: its bytes are whole, and the header and the count are theirs
pub record WellRead (ours : ℕ) (b : List ℕ) (f : Frame) : Type 0 where
  pub bytes : Whole b
  pub header : f.header ≡ header_of b
  pub count : f.length ≡ length_byte b
  pub part : payload_of ours b ≡ take f.length (drop 10 b)

pub well_read : (ours : ℕ) (b : List ℕ) (f : Frame) → told (Ok f) ≡ reading ours b → WellRead ours b f
unfolding reading payload_of
well_read ours b f e =
    record {
      bytes = (passed_read ours b g.0).bytes;
      header = sym (same_header (header_of b) f.header (length_byte b) f.length g.1);
      count = sym (same_count (header_of b) f.header (length_byte b) f.length g.1);
      part = passed (read_rules ours b) (λ r. []) (take (length_byte b) (drop 10 b)) g.0 ∙ ap (λ (m : ℕ). take m (drop 10 b)) (same_count (header_of b) f.header (length_byte b) f.length g.1);
    }
  where
    g : Passed (read_rules ours b) × (fields (header_of b) ++ length_byte b ∷ [] ≡ frame_values f)
    g = gave (read_rules ours b) (fields (header_of b) ++ length_byte b ∷ []) (frame_values f) (sym e)

-- bytes that were refused have no payload
pub no_payload : (ours : ℕ) (b : List ℕ) (q : Refusal) → told (Err q) ≡ reading ours b → payload_of ours b ≡ []
unfolding reading payload_of
no_payload ours b q e = refused (read_rules ours b) (fields (header_of b) ++ length_byte b ∷ []) (λ r. []) (take (length_byte b) (drop 10 b)) q (sym e)

-- the same of what a call of the reader gave
pub read_frame : {r : Reading} {f : Frame} (ours : ℕ) (b : List ℕ) → r ≡ Ok f → told r ≡ reading ours b → WellRead ours b f
read_frame {f = f} ours b e t = well_read ours b f (ap told (sym e) ∙ t)

pub read_refused : {r : Reading} {q : Refusal} (ours : ℕ) (b : List ℕ) → r ≡ Err q → told r ≡ reading ours b → payload_of ours b ≡ []
read_refused {q = q} ours b e t = no_payload ours b q (ap told (sym e) ∙ t)
