-- The contracts, as they stand in the source, leave one outcome for each input: one answer, one payload, one content of the lent bytes. And a ready header's are `write`'s.
use mathlib.Core.Path.{◌≡◌, sym, ap, ◌∙◌}
use mathlib.Core.Bool.{Bool}
use mathlib.Core.List.{List}
use Prim.Native.Nat.{ℕ}
use lib.ListN.{length}
use denote.Ref.{Bor, MutBor}
use Rattle.ground.specs.Bytes.{laid}
use Rattle.refusal.specs.Refusal.{Told}
use Rattle.frame.specs.declared.Header.{Header}
use Rattle.frame.specs.declared.Ready.{Ready}
use Rattle.frame.specs.declared.WriteNumbers.{WriteNumbers}
use Rattle.frame.specs.Frame.{Reading, Writing, told_written, written_bytes}
use Rattle.frame.specs.ReadyHeader.{ready_bytes}
use Rattle.frame.proofs.Told.{same_told, same_written}
use Rattle.frame.proofs.ReadyHeader.{same_as_write}
use Rattle.frame.proofs.takes_subnet.Reads as takes-subnet
use Rattle.frame.proofs.read.Reads as read
use Rattle.frame.proofs.payload.Reads as payload
use Rattle.frame.proofs.write.Reads as write
use Rattle.frame.proofs.write_parts.Reads as write-parts
use Rattle.frame.proofs.prepare.Reads as prepare
use Rattle.frame.proofs.numbers_of.Reads as numbers
use Rattle.frame.proofs.write_ready.Reads as write-ready

pub unique_takes_subnet : (κs a s t : _) (r q : Bool) → takes-subnet.Post κs a r s → takes-subnet.Post κs a q t → r ≡ q
unique_takes_subnet κs a s t r q p p' = p ∙ sym p'

pub unique_read : (κs a s t : _) (r q : Reading) → read.Post κs a r s → read.Post κs a q t → r ≡ q
unique_read κs a s t r q p p' = same_told r q (p ∙ sym p')

pub unique_payload : (κs a s t : _) (r q : Bor (List ℕ)) → payload.Post κs a r s → payload.Post κs a q t → r.now ≡ q.now
unique_payload κs a s t r q p p' = p ∙ sym p'

pub unique_prepare : (κs a s t : _) (r q : Ready) → prepare.Post κs a r s → prepare.Post κs a q t → r ≡ q
unique_prepare κs a s t r q p p' = p ∙ sym p'

pub unique_numbers_of : (a s t : _) (r q : WriteNumbers) → numbers.Post tt a r s → numbers.Post tt a q t → r ≡ q
unique_numbers_of a s t r q p p' = p ∙ sym p'

-- the payload and the room that are lent to a writer, and the same at its exit
abbrev Lent : Type 0
Lent = Bor (List ℕ) × (MutBor (List ℕ) × Unit {0})

-- two writings that say one thing and lay one content are one
pub one_writing : {told : Told} {content o u : List ℕ} (r q : Writing) → (told_written r ≡ told) × (o ≡ content) → (told_written q ≡ told) × (u ≡ content) → (r ≡ q) × (o ≡ u)
one_writing r q p p' = (same_written r q (p.0 ∙ sym p'.0), p.1 ∙ sym p'.1)

pub unique_write : (κs : _) (a s t : Header × Lent) (r q : Writing) → write.Post κs a r s → write.Post κs a q t → (r ≡ q) × (s.1.1.0.now ≡ t.1.1.0.now)
unique_write κs a s t r q p p' = one_writing r q p p'

pub unique_write_parts : (κs : _) (a s t : Header × (Bor (List ℕ) × Lent)) (r q : Writing) → write-parts.Post κs a r s → write-parts.Post κs a q t → (r ≡ q) × (s.1.1.1.0.now ≡ t.1.1.1.0.now)
unique_write_parts κs a s t r q p p' = one_writing r q p p'

pub unique_write_ready : (κs : _) (a s t : Ready × Lent) (r q : Writing) → write-ready.Post κs a r s → write-ready.Post κs a q t → (r ≡ q) × (s.1.1.0.now ≡ t.1.1.0.now)
unique_write_ready κs a s t r q p p' = one_writing r q p p'

-- A header made ready and written gives what `write` gives of it: the same answer, the same content of the lent bytes.
pub ready_writes : (κs κt κu e : _) (h : Header) (ready : Ready) (lent : Lent) (s : Ready × Lent) (t : Header × Lent) (r q : Writing) → prepare.Post κs (h, tt) ready e → write-ready.Post κt (ready, lent) r s → write.Post κu (h, lent) q t → (r ≡ q) × (s.1.1.0.now ≡ t.1.1.0.now)
ready_writes κs κt κu e h ready lent s t r q made p p' = one_writing r q (p.0, p.1 ∙ ap (λ (x : List ℕ). laid x lent.1.0.now) same) p'
  where
    given : List ℕ
    given = lent.0.now

    room : ℕ
    room = length lent.1.0.now

    same : ready_bytes ready given room ≡ written_bytes h given room
    same = ap (λ (x : Ready). ready_bytes x given room) made ∙ same_as_write h given room
