-- Writing and reading agree (02, C-21): what was wrapped is unwrapped, at every depth, and what was unwrapped and is wrapped again is the same frame.
use Prim.Native.Nat.{ℕ, ◌+◌, ◌≤◌, ◌<◌}
use native.Mathlib.Omega.{arith}
use mathlib.Core.Path.{◌≡◌, refl, sym, ap, ◌∙◌}
use mathlib.Core.Bool.{Bool, true}
use mathlib.Core.List.{List, [], ◌∷◌, ◌++◌}
use lib.ListN.{length, take, drop, length-take, length-drop, replicate}
use lib.Seq.{take-take, take-append_seam, length-take-le}
use borrow.Author.Tests.{ltb-false, le-ltb}
use Rattle.ground.specs.Bytes.{laid}
use Rattle.ground.proofs.Laid.{taken_laid}
use Rattle.refusal.specs.Refusal.{Told, refuses, gives}
use Rattle.refusal.specs.declared.Refusal.{Refusal}
use Rattle.refusal.proofs.Numbers.{gives_not}
use Rattle.refusal.proofs.Rules.{Passed, passed, unrefused, gave}
use Rattle.frame.specs.declared.Header.{Header}
use Rattle.frame.specs.Frame.{byte, header_of, length_byte, takes_subnet, reading, payload_of, frame_of, settled, write_rules, writing, written_bytes}
use Rattle.frame.proofs.Told.{Whole}
use Rattle.frame.proofs.Subnets.{taken_reads}
use Rattle.frame.proofs.RoundTrip.{long, reads_back, written_again as frame-written-again}
use Rattle.encapsulation.specs.declared.Level.{Level}
use Rattle.encapsulation.specs.Message.{Message, most, wrapped}
use Rattle.encapsulation.specs.Unwrap.{plain, opened, message_of, unwrapping}
use Rattle.encapsulation.specs.Wrap.{sent, carrying, outermost, depth_rules, wrapping, wrapped_bytes}
use Rattle.encapsulation.specs.Answer.{blank, placed}
use Rattle.encapsulation.proofs.Exactly.{opened_exactly}
use Rattle.encapsulation.proofs.Received.{frame_opened, message_written}
use Rattle.encapsulation.proofs.Positions.{Unwraps, unwraps}
use Rattle.encapsulation.proofs.Writing.{says_as_frame, writes_as_frame}

module _ (h : Header) (levels : List Level) (depth : ℕ) (p : List ℕ) where
  -- the frame that carries the message in its levels
  abbrev pub wrapped_frame : List ℕ
  wrapped_frame = frame_of (carrying h (outermost h levels depth p).message (outermost h levels depth p).packet) (outermost h levels depth p).payload

  -- it is unwrapped, by a system that takes its subnet, to the same levels and the same message, whatever the depth
  pub unwraps_back : Passed (depth_rules depth (sent h p)) → length (outermost h levels depth p).payload ≤ 240 → (ours : ℕ) → takes_subnet ours h.subnet ≡ true → unwrapping ours wrapped_frame ≡ plain (take depth levels) (sent h p)
  unwraps_back ok small ours taken = frame_opened ours wrapped_frame _ (reads_back (carrying h (outermost h levels depth p).message (outermost h levels depth p).packet) (outermost h levels depth p).payload small ours taken) ∙ ap (opened most) (message_written (carrying h (outermost h levels depth p).message (outermost h levels depth p).packet) (outermost h levels depth p).payload) ∙ (opened_exactly most (outermost h levels depth p) (take depth levels) (sent h p)).1 (refl, (ok.1.0, omega (arith, length-take depth levels, ltb-false most depth ok.0)))

  module _ (room : ℕ) (vs : List ℕ) (e : wrapping h levels depth p room ≡ gives vs) where
    -- where the writer refuses nothing, none of its rules holds
    deep_passed : Passed (depth_rules depth (sent h p))
    unfolding wrapping
    deep_passed = unrefused (λ (t : Told). t ≡ gives vs) (depth_rules depth (sent h p)) refuses _ (λ q z. gives_not vs q (sym z)) e

    frame_passed : Passed (write_rules (outermost h levels depth p).payload room) × ((12 + length (outermost h levels depth p).payload) ∷ [] ≡ vs)
    unfolding writing
    frame_passed = gave (write_rules (outermost h levels depth p).payload room) _ vs (sym (says_as_frame h levels depth p room deep_passed) ∙ e)

    -- and it writes that frame
    pub writes_frame : wrapped_bytes h levels depth p room ≡ wrapped_frame
    unfolding written_bytes
    writes_frame = writes_as_frame h levels depth p room deep_passed ∙ passed (write_rules (outermost h levels depth p).payload room) (λ r. []) wrapped_frame frame_passed.0

    -- so what it wrote, at the front of whatever room was lent, is unwrapped to what it was given
    pub written_unwraps : (out : List ℕ) (ours : ℕ) → takes_subnet ours h.subnet ≡ true → unwrapping ours (take (length (wrapped_bytes h levels depth p room)) (laid (wrapped_bytes h levels depth p room) out)) ≡ plain (take depth levels) (sent h p)
    written_unwraps out ours taken = ap (unwrapping ours) (taken_laid (wrapped_bytes h levels depth p room) out ∙ writes_frame) ∙ unwraps_back deep_passed (ltb-false 240 _ frame_passed.0.0) ours taken

    -- and it says how many bytes that is
    pub says_length : vs ≡ length (wrapped_bytes h levels depth p room) ∷ []
    says_length = sym frame_passed.1 ∙ ap (λ (n : ℕ). n ∷ []) (sym (ap length writes_frame ∙ long (carrying h (outermost h levels depth p).message (outermost h levels depth p).packet) (outermost h levels depth p).payload))

-- levels in their four places are those levels again, where there are no more than four
placed_again : (ls : List Level) → length ls ≤ most → take (length ls) (placed ls) ≡ ls
placed_again ls few = take-take (length ls) most (ls ++ replicate most blank) few ∙ take-append_seam ls (replicate most blank)

-- what was unwrapped and is wrapped again, where there is room for it, is the same frame, with a check byte 0 become 255
pub wrapped_again : (ours : ℕ) (b : List ℕ) (ls : List Level) (m : Message) (room : ℕ) → ((i : ℕ) → byte b i < 256) → unwrapping ours b ≡ plain ls m → length b ≤ room → (wrapping (carrying (header_of b) m.message m.packet) (placed ls) (length ls) m.payload room ≡ gives (length b ∷ [])) × (wrapped_bytes (carrying (header_of b) m.message m.packet) (placed ls) (length ls) m.payload room ≡ settled b)
unfolding writing written_bytes reading payload_of
wrapped_again ours b ls m room bytes e fits = (
  says_as_frame h (placed ls) (length ls) m.payload room ok ∙ ap (λ (x : Message). writing x.payload room) outer ∙ passed rules refuses _ passes ∙ ap (λ (n : ℕ). gives (n ∷ [])) (let z : 12 + length inside ≡ length b = omega (arith, size, w.long) in z),
  writes_as_frame h (placed ls) (length ls) m.payload room ok ∙ ap (λ (x : Message). written_bytes (carrying h x.message x.packet) x.payload room) outer ∙ passed rules (λ r. []) _ passes ∙ ap (frame_of (header_of b)) (sym (taken_reads ours b w (λ r. []) inside u.read.taken)) ∙ frame-written-again ours b _ bytes (taken_reads ours b w refuses _ u.read.taken),
)
  where
    u : Unwraps ours b ls m
    u = unwraps ours b ls m e

    w : Whole b
    w = u.read.bytes

    h : Header
    h = carrying (header_of b) m.message m.packet

    ok : Passed (depth_rules (length ls) (sent h m.payload))
    ok = (le-ltb most (length ls) u.few, (u.inside, tt))

    outer : outermost h (placed ls) (length ls) m.payload ≡ message_of b
    outer = ap (λ (x : List Level). wrapped x m) (placed_again ls u.few) ∙ sym u.lies

    inside : List ℕ
    inside = take (length_byte b) (drop 10 b)

    size : length inside ≡ length_byte b
    size = length-take-le (length_byte b) (drop 10 b) (omega (arith, length-drop 10 b, w.long))

    rules : List (Bool × Refusal)
    rules = write_rules inside room

    passes : Passed rules
    passes = (le-ltb 240 (length inside) (omega (arith, size, w.small)), (le-ltb room (12 + length inside) (omega (arith, size, w.long)), tt))
