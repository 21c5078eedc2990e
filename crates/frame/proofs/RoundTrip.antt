-- Demand 2: what is written reads back with the frame's own subnet, and with no other but where it is 0 (02, C-14); what is read and written again is the same frame, but for a check byte 0 that becomes 255.
use Prim.Native.Nat.{ℕ, ◌+◌, ◌≤◌, ◌<◌}
use native.Mathlib.Omega.{arith}
use mathlib.Core.Path.{◌≡◌, refl, sym, ap, ◌∙◌}
use mathlib.Core.Bool.{true, false}
use mathlib.Core.List.{List, [], ◌∷◌, ◌++◌}
use lib.ListN.{length, take, drop, length-append, length-drop, take-append-drop}
use lib.Seq.{take_at, take_all, take-add, length-take-le}
use Rattle.ground.specs.Below.{up_from}
use Rattle.ground.proofs.Runs.{run_read}
use Rattle.refusal.specs.Refusal.{refuses, gives}
use Rattle.refusal.specs.declared.Refusal.TheVariants.{OtherSubnet}
use Rattle.refusal.proofs.Rules.{Passed, passed, gave}
use Rattle.fletcher.specs.Fletcher.{is_good, check_bytes}
use Rattle.fletcher.proofs.Laws.{checked_good, only_check}
use Rattle.frame.specs.declared.Header.{Header}
use Rattle.frame.specs.Frame.{byte, fields, header_of, length_byte, takes_subnet, read_rules, reading, payload_of, body, frame_of, settled}
use Rattle.frame.proofs.Told.{Whole, passed_read}
use Rattle.frame.proofs.Subnets.{takes_own, takes_zero, taken_reads, other_refused}

-- a frame has twelve bytes more than its payload
pub long : (h : Header) (p : List ℕ) → length (frame_of h p) ≡ 12 + length p
unfolding frame_of
long h p = simp length-append (omega arith)

-- the header and the payload of a frame stand in it
pub written_header : (h : Header) (p : List ℕ) → header_of (frame_of h p) ≡ h
unfolding frame_of
written_header h p = refl

pub written_payload : (h : Header) (p : List ℕ) → take (length_byte (frame_of h p)) (drop 10 (frame_of h p)) ≡ p
unfolding frame_of
written_payload h p = take_at p (check_bytes (body h p)) (length p) refl

module _ (h : Header) (p : List ℕ) (small : length p ≤ 240) where
  written_whole : Whole (frame_of h p)
  unfolding frame_of
  written_whole = record { small = small; long = long h p; good = checked_good (body h p) }

  -- what is written reads back, under a subnet that takes it, as the same fields and the same payload length
  pub reads_back : (ours : ℕ) → takes_subnet ours h.subnet ≡ true → reading ours (frame_of h p) ≡ gives (fields h ++ length p ∷ [])
  unfolding reading frame_of
  reads_back ours taken = taken_reads ours (frame_of h p) written_whole refuses (gives (fields h ++ length p ∷ [])) taken

  -- and as the same payload
  pub reads_back_payload : (ours : ℕ) → takes_subnet ours h.subnet ≡ true → payload_of ours (frame_of h p) ≡ p
  unfolding payload_of frame_of
  reads_back_payload ours taken = taken_reads ours (frame_of h p) written_whole (λ r. []) _ taken ∙ written_payload h p

  -- "Demand 2's round trip reads with the frame's own subnet" (02, C-14)
  pub reads_back_own : (reading h.subnet (frame_of h p) ≡ gives (fields h ++ length p ∷ [])) × (payload_of h.subnet (frame_of h p) ≡ p)
  reads_back_own = (reads_back h.subnet (takes_own h.subnet), reads_back_payload h.subnet (takes_own h.subnet))

  -- and with 0 in the frame it reads back under every subnet
  pub reads_back_all : h.subnet ≡ 0 → (ours : ℕ) → (reading ours (frame_of h p) ≡ gives (fields h ++ length p ∷ [])) × (payload_of ours (frame_of h p) ≡ p)
  reads_back_all e ours = (reads_back ours taken, reads_back_payload ours taken)
    where
      taken : takes_subnet ours h.subnet ≡ true
      taken = rw e (takes_zero ours)

  -- under every other it is refused 24, and has no payload
  pub unread_elsewhere : (ours : ℕ) → takes_subnet ours h.subnet ≡ false → (reading ours (frame_of h p) ≡ refuses OtherSubnet) × (payload_of ours (frame_of h p) ≡ [])
  unfolding reading payload_of frame_of
  unread_elsewhere ours other = (other_refused ours (frame_of h p) written_whole refuses _ other, other_refused ours (frame_of h p) written_whole (λ r. []) _ other)

module _ (b : List ℕ) (w : Whole b) where
  -- what the writer is given, read off the frame, is the frame up to its check bytes
  head_is : fields (header_of b) ++ length_byte b ∷ [] ≡ take 10 b
  unfolding up_from
  head_is = sym (run_read b 0 10 (omega (arith, w.long)))

  body_is : body (header_of b) (take (length_byte b) (drop 10 b)) ≡ take (10 + length_byte b) b
  body_is =
      rw (length-take-le (length_byte b) (drop 10 b) (simp length-drop (omega (arith, w.long))), take-add 10 (length_byte b) b)
      (ap (λ (r : List ℕ). r ++ take (length_byte b) (drop 10 b)) head_is)

  tail_is : drop (10 + length_byte b) b ≡ byte b (10 + length_byte b) ∷ byte b (11 + length_byte b) ∷ []
  unfolding up_from
  tail_is =
      sym (take_all 2 (drop (10 + length_byte b) b) (simp length-drop (omega (arith, w.long))))
      ∙ run_read b (10 + length_byte b) 2 (omega (arith, w.long))
      ∙ ap (λ (x : ℕ). byte b (10 + length_byte b) ∷ byte b x ∷ []) (let e : 10 + length_byte b + 1 ≡ 11 + length_byte b = omega arith in e)

  split : b ≡ take (10 + length_byte b) b ++ byte b (10 + length_byte b) ∷ byte b (11 + length_byte b) ∷ []
  split = sym (take-append-drop (10 + length_byte b) b) ∙ ap (λ (r : List ℕ). take (10 + length_byte b) b ++ r) tail_is

  again : ((i : ℕ) → byte b i < 256) → frame_of (header_of b) (take (length_byte b) (drop 10 b)) ≡ settled b
  unfolding frame_of settled
  again bytes =
      ap (λ (x : List ℕ). x ++ check_bytes x) body_is
      ∙ ap (λ (r : List ℕ). take (10 + length_byte b) b ++ r)
      (only_check (take (10 + length_byte b) b) (byte b (10 + length_byte b)) (byte b (11 + length_byte b)) (bytes _) (bytes _) (ap is_good (sym split) ∙ w.good))

-- what reads well and is written again is the same frame, with a check byte 0 become 255
pub written_again : (ours : ℕ) (b vs : List ℕ) → ((i : ℕ) → byte b i < 256) → reading ours b ≡ gives vs → frame_of (header_of b) (payload_of ours b) ≡ settled b
unfolding reading payload_of
written_again ours b vs bytes e = rw (passed (read_rules ours b) (λ r. []) (take (length_byte b) (drop 10 b)) ok) (again b (passed_read ours b ok).bytes bytes)
  where
    ok : Passed (read_rules ours b)
    ok = (gave (read_rules ours b) (fields (header_of b) ++ length_byte b ∷ []) vs e).0
