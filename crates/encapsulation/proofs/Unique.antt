-- The contracts, as they stand in the source, leave one outcome for each input: one answer with its levels, one payload, one content of the lent bytes.
use Prim.Native.Nat.{ℕ}
use mathlib.Core.Path.{◌≡◌, sym, ◌∙◌}
use mathlib.Core.List.{List}
use denote.Ref.{Bor, MutBor}
use Rattle.std.specs.Prelude.{Result}
use Rattle.refusal.specs.declared.Refusal.{Refusal}
use Rattle.frame.specs.declared.Header.{Header}
use Rattle.frame.specs.Frame.{Writing}
use Rattle.frame.specs.declared.WriteNumbers.{WriteNumbers}
use Rattle.frame.proofs.Unique.{one_writing}
use Rattle.encapsulation.specs.declared.Level.{Level}
use Rattle.encapsulation.specs.declared.Levels.{Levels}
use Rattle.encapsulation.specs.declared.Unwrapped.{Unwrapped}
use Rattle.encapsulation.specs.declared.UnwrapNumbers.{UnwrapNumbers}
use Rattle.encapsulation.specs.Unwrap.{unwrapping}
use Rattle.encapsulation.proofs.Answers.{same_answer}
use Rattle.encapsulation.proofs.unwrap.Reads as unwrap
use Rattle.encapsulation.proofs.inner_payload.Reads as inner-payload
use Rattle.encapsulation.proofs.wrap.Reads as wrap
use Rattle.encapsulation.proofs.nadrelgos_unwrap.Reads as face-unwrap
use Rattle.encapsulation.proofs.nadrelgos_wrap.Reads as face-wrap

-- what the reader is given: our subnet and the received bytes
abbrev Received : Type 0
Received = ℕ × (Bor (List ℕ) × Unit {0})

pub unique_unwrap : (κs : _) (a s t : Received) (r q : Result Unwrapped Refusal) → unwrap.Post κs a r s → unwrap.Post κs a q t → r ≡ q
unique_unwrap κs a s t r q p p' = same_answer r q (unwrapping a.0 a.1.0.now) p p'

pub unique_inner_payload : (κs a s t : _) (r q : Bor (List ℕ)) → inner-payload.Post κs a r s → inner-payload.Post κs a q t → r.now ≡ q.now
unique_inner_payload κs a s t r q p p' = p ∙ sym p'

pub unique_nadrelgos_unwrap : (κs a s t : _) (r q : UnwrapNumbers) → face-unwrap.Post κs a r s → face-unwrap.Post κs a q t → r ≡ q
unique_nadrelgos_unwrap κs a s t r q p p' = p ∙ sym p'

-- the depth, the payload and the room that a writer is given, and the same at its exit
abbrev pub Lent : Type 0
Lent = ℕ × (Bor (List ℕ) × (MutBor (List ℕ) × Unit {0}))

pub unique_wrap : (κs : _) (a s t : Header × (List Level × Lent)) (r q : Writing) → wrap.Post κs a r s → wrap.Post κs a q t → (r ≡ q) × (s.1.1.1.1.0.now ≡ t.1.1.1.1.0.now)
unique_wrap κs a s t r q p p' = one_writing r q p p'

pub unique_nadrelgos_wrap : (κs : _) (a s t : Header × (Levels × Lent)) (r q : WriteNumbers) → face-wrap.Post κs a r s → face-wrap.Post κs a q t → (r ≡ q) × (s.1.1.1.1.0.now ≡ t.1.1.1.1.0.now)
unique_nadrelgos_wrap κs a s t r q p p' = (p.0 ∙ sym p'.0, p.1 ∙ sym p'.1)
