-- Received bytes unwrapped: what the frame reader refuses is refused so, and of a frame its message is opened.
use Prim.Native.Nat.{ℕ, ◌≤◌}
use mathlib.Core.Path.{◌≡◌, sym, ap, ◌∙◌}
use mathlib.Core.Logic.{◌↔◌}
use mathlib.Core.Bool.{false}
use mathlib.Core.List.{List, [], ◌∷◌, ◌++◌}
use lib.ListN.{length, take, drop}
use Rattle.refusal.specs.Refusal.{refuses, gives}
use Rattle.refusal.specs.declared.Refusal.{Refusal}
use Rattle.refusal.proofs.Rules.{Passed, passed, unrefused, gave, refused as rules-refused}
use Rattle.frame.specs.declared.Header.{Header}
use Rattle.std.specs.Prelude.{Result, Ok, Err}
use Rattle.frame.specs.declared.Frame.{Frame}
use Rattle.frame.specs.Frame.{fields, header_of, length_byte, read_rules, reading, told, frame_of}
use Rattle.frame.proofs.Told.{WellRead, well_read}
use Rattle.frame.proofs.RoundTrip.{written_header, written_payload}
use Rattle.encapsulation.specs.declared.Level.{Level}
use Rattle.encapsulation.specs.declared.Unwrapped.{Unwrapped}
use Rattle.encapsulation.specs.Message.{Message, is_encapsulation, most}
use Rattle.encapsulation.specs.Unwrap.{Opened, plain, refused, opened, message_of, unwrapping}
use Rattle.encapsulation.specs.Wrap.{sent}
use Rattle.encapsulation.specs.Making.{answer_of}
use Rattle.encapsulation.proofs.Answers.{Answers, answers, plain_not}
use Rattle.encapsulation.proofs.Exactly.{LiesIn, opened_exactly}

module _ (ours : ℕ) (b : List ℕ) where
  -- a frame unwraps as its message opens
  pub frame_opened : (vs : List ℕ) → reading ours b ≡ gives vs → unwrapping ours b ≡ opened most (message_of b)
  unfolding reading unwrapping
  frame_opened vs e = passed (read_rules ours b) refused (opened most (message_of b)) (gave (read_rules ours b) (fields (header_of b) ++ length_byte b ∷ []) vs e).0

  -- "its own refusals first": what is no frame of ours is refused as the frame reader refuses it
  pub unread_opened : (q : Refusal) → reading ours b ≡ refuses q → unwrapping ours b ≡ refused q
  unfolding reading unwrapping
  unread_opened q e = rules-refused (read_rules ours b) (fields (header_of b) ++ length_byte b ∷ []) refused (opened most (message_of b)) q e

  -- received bytes unwrap to a plain message exactly where they read well and their message is that one in these levels, no more than four
  pub unwrap_plain_exactly : (ls : List Level) (m : Message) → (unwrapping ours b ≡ plain ls m) ↔ (Passed (read_rules ours b) × (LiesIn ls m (message_of b) × ((is_encapsulation m ≡ false) × (length ls ≤ most))))
  unfolding unwrapping
  unwrap_plain_exactly ls m = ((λ e. let ok = unrefused (λ (f : Opened). f ≡ plain ls m) (read_rules ours b) refused (opened most (message_of b)) (λ q z. plain_not ls m q (sym z)) e in (ok, (opened_exactly most (message_of b) ls m).0 (sym (passed (read_rules ours b) refused (opened most (message_of b)) ok) ∙ e))), λ h. passed (read_rules ours b) refused (opened most (message_of b)) h.0 ∙ (opened_exactly most (message_of b) ls m).1 h.1)

  -- so what was answered of a frame that a call of the reader gave, or refused, is the answer
  pub read_answers : (f : Frame) (part : List ℕ) (r : Result Unwrapped Refusal) → told (Ok f) ≡ reading ours b → part ≡ take f.length (drop 10 b) → r ≡ answer_of (opened most (record { message = f.header.message; packet = f.header.packet; payload = part })) → Answers r (unwrapping ours b)
  read_answers f part r t p q = answers r (unwrapping ours b) (q ∙ ap answer_of (ap (opened most) own ∙ sym (frame_opened _ (sym t))))
    where
      w : WellRead ours b f
      w = well_read ours b f t

      own : record { message = f.header.message; packet = f.header.packet; payload = part } ≡ message_of b
      own = λ i. record { message = (w.header i).message; packet = (w.header i).packet; payload = (p ∙ ap (λ (k : ℕ). take k (drop 10 b)) w.count) i }

  pub unread_answers : (q : Refusal) → told (Err q) ≡ reading ours b → Answers (Err q) (unwrapping ours b)
  unread_answers q t = answers (Err q) (unwrapping ours b) (ap answer_of (sym (unread_opened q (sym t))))

-- the message of a frame that was written
pub message_written : (h : Header) (p : List ℕ) → message_of (frame_of h p) ≡ sent h p
message_written h p = λ i. record { message = (written_header h p i).message; packet = (written_header h p i).packet; payload = written_payload h p i }
