-- What the writer says and writes where it is not too deep: what any frame's writer does of the outermost message.
use Prim.Native.Nat.{ℕ, ◌+◌, ◌*◌, ◌≤◌}
use mathlib.Core.Path.{◌≡◌, sym, ap, ◌∙◌}
use mathlib.Core.Bool.{false}
use mathlib.Core.List.{List, [], ◌++◌}
use lib.ListN.{length, take}
use lib.Seq.{length-take-le}
use borrow.Author.Tests.{le-ltb}
use Rattle.ground.specs.Bytes.{laid}
use Rattle.refusal.specs.Refusal.{refuses}
use Rattle.refusal.proofs.Rules.{Passed, passed}
use Rattle.frame.specs.declared.Header.{Header}
use Rattle.frame.specs.Frame.{Writing}
use Rattle.frame.specs.Frame.{told_written, writing, written_bytes}
use Rattle.encapsulation.specs.declared.Level.{Level}
use Rattle.encapsulation.specs.declared.Front.{Front}
use Rattle.encapsulation.specs.Message.{is_encapsulation, most}
use Rattle.encapsulation.specs.Wrap.{sent, carrying, carried, outermost, depth_rules, wrapping, wrapped_bytes}
use Rattle.encapsulation.specs.Making.{Fronts}
use Rattle.encapsulation.proofs.Heads.{wrapped_payload, wrapped_length}

module _ (h : Header) (levels : List Level) (depth : ℕ) (p : List ℕ) where
  -- the outermost payload is longer than the one inside by seven bytes for each level
  pub outermost_length : depth ≤ length levels → length (outermost h levels depth p).payload ≡ 7 * depth + length p
  outermost_length few = wrapped_length (take depth levels) (sent h p) ∙ ap (λ (n : ℕ). 7 * n + length p) (length-take-le depth levels few)

  pub shallow : depth ≤ most → is_encapsulation (sent h p) ≡ false → Passed (depth_rules depth (sent h p))
  shallow few plain = (le-ltb most depth few, (plain, tt))

  module _ (room : ℕ) (ok : Passed (depth_rules depth (sent h p))) where
    pub says_as_frame : wrapping h levels depth p room ≡ writing (outermost h levels depth p).payload room
    unfolding wrapping
    says_as_frame = passed (depth_rules depth (sent h p)) refuses _ ok

    pub writes_as_frame : wrapped_bytes h levels depth p room ≡ carried h (outermost h levels depth p) room
    unfolding wrapped_bytes
    writes_as_frame = passed (depth_rules depth (sent h p)) (λ r. []) _ ok

    -- so the frame of the outermost type and packet number, its payload what stands in front and the payload inside, is what is to be written
    pub wraps : (f : Front) → Fronts f depth (take depth levels) (sent h p) → (outer : Header) (r : Writing) (o u : List ℕ) → outer ≡ carrying h f.message f.packet → told_written r ≡ writing (take (7 * depth) f.bytes ++ p) room → u ≡ laid (written_bytes outer (take (7 * depth) f.bytes ++ p) room) o → (told_written r ≡ wrapping h levels depth p room) × (u ≡ laid (wrapped_bytes h levels depth p room) o)
    wraps f fronts outer r o u e said laying = (
      said ∙ ap (λ (x : List ℕ). writing x room) whole ∙ sym says_as_frame,
      laying ∙ (λ i. laid (written_bytes (head i) (whole i) room) o) ∙ ap (λ (x : List ℕ). laid x o) (sym writes_as_frame),
    )
      where
        whole : take (7 * depth) f.bytes ++ p ≡ (outermost h levels depth p).payload
        whole = ap (λ (x : List ℕ). x ++ p) fronts.bytes ∙ sym (wrapped_payload (take depth levels) (sent h p))

        head : outer ≡ carrying h (outermost h levels depth p).message (outermost h levels depth p).packet
        head = e ∙ (λ i. carrying h (fronts.message i) (fronts.packet i))
