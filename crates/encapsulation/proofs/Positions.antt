-- Where the plain message's payload stands: behind the frame's head and seven bytes for each level, within the received bytes.
use Prim.Native.Nat.{ℕ, ◌+◌, ◌*◌, ◌≤◌}
use native.Mathlib.Omega.{arith}
use mathlib.Core.Path.{◌≡◌, refl, sym, ap, ◌∙◌}
use mathlib.Core.Bool.{false}
use mathlib.Core.List.{List, [], ◌∷◌}
use lib.ListN.{length, get_or, take, drop, length-drop}
use lib.Seq.{drop-drop, length-take-le}
use Rattle.ground.proofs.Runs.{part_behind}
use Rattle.refusal.specs.Refusal.{gives}
use Rattle.refusal.proofs.Numbers.{told_values, gives_not}
use Rattle.frame.specs.Frame.{length_byte}
use Rattle.frame.proofs.Told.{Read, passed_read}
use Rattle.encapsulation.specs.declared.Level.{Level}
use Rattle.encapsulation.specs.Message.{Message, is_encapsulation, most}
use Rattle.encapsulation.specs.Unwrap.{Opened, plain, refused, message_of, unwrapping, payload_in}
use Rattle.encapsulation.specs.Answer.{told_opened}
use Rattle.encapsulation.specs.Making.{heads}
use Rattle.encapsulation.proofs.Heads.{wrapped_payload, heads_length, wrapped_length}
use Rattle.encapsulation.proofs.Exactly.{LiesIn}
use Rattle.encapsulation.proofs.Received.{unwrap_plain_exactly}

-- of received bytes that unwrap to a plain message, the frame's message holds it
pub record Unwraps (ours : ℕ) (b : List ℕ) (ls : List Level) (m : Message) : Type 0 where
  pub read : Read ours b
  pub lies : LiesIn ls m (message_of b)
  pub inside : is_encapsulation m ≡ false
  pub few : length ls ≤ most

pub unwraps : (ours : ℕ) (b : List ℕ) (ls : List Level) (m : Message) → unwrapping ours b ≡ plain ls m → Unwraps ours b ls m
unwraps ours b ls m e =
    let there = (unwrap_plain_exactly ours b ls m).0 e in
    record { read = passed_read ours b there.0; lies = there.1.0; inside = there.1.1.0; few = there.1.1.1 }

-- where the payload of an unwrapped message stands: so deep, and so long
pub record Stands (b : List ℕ) (f : Opened) (depth n : ℕ) : Type 0 where
  pub few : depth ≤ most
  pub within : 10 + 7 * depth + n + 2 ≡ length b
  pub part : take n (drop (10 + 7 * depth) b) ≡ payload_in f

pub plain_stands : (ours : ℕ) (b : List ℕ) (ls : List Level) (m : Message) → unwrapping ours b ≡ plain ls m → Stands b (plain ls m) (length ls) (length m.payload)
plain_stands ours b ls m e = record { few = u.few; within = omega (arith, long, whole); part = ap (take (length m.payload)) (sym (drop-drop (7 * length ls) 10 b)) ∙ part_behind (drop 10 b) (heads ls m) m.payload (7 * length ls) (length m.payload) (omega (arith, length-drop 10 b, long, whole)) (ap (λ (k : ℕ). take k (drop 10 b)) (sym whole) ∙ ap (λ (x : Message). x.payload) u.lies ∙ wrapped_payload ls m) (heads_length ls m) }
  where
    u : Unwraps ours b ls m
    u = unwraps ours b ls m e

    long : length b ≡ 12 + length_byte b
    long = u.read.bytes.long

    whole : length_byte b ≡ 7 * length ls + length m.payload
    whole = sym (length-take-le (length_byte b) (drop 10 b) (omega (arith, length-drop 10 b, long))) ∙ ap (λ (x : Message). length x.payload) u.lies ∙ wrapped_length ls m

-- the same of what a call of the reader answered
pub told_stands : (ours : ℕ) (b : List ℕ) (depth message packet n : ℕ) → gives (depth ∷ message ∷ packet ∷ n ∷ []) ≡ told_opened (unwrapping ours b) → Stands b (unwrapping ours b) depth n
told_stands ours b depth message packet n e = go (unwrapping ours b) refl e
  where
    go : (f : Opened) → unwrapping ours b ≡ f → gives (depth ∷ message ∷ packet ∷ n ∷ []) ≡ told_opened f → Stands b (unwrapping ours b) depth n
    go (plain ls m) q s = rw (q, ap (λ (l : List ℕ). get_or l 0 0) (told_values s), ap (λ (l : List ℕ). get_or l 3 0) (told_values s)) (plain_stands ours b ls m q)
    go (refused x) q s = absurd (gives_not _ x s)
