-- The contracts, as they stand in the source, leave one result for each input, and one content of what is lent to be written.
-- For functions that are lent a record each theorem is over the generated clauses themselves: it is refused once the source says anything else.
use Prim.Native.Nat.{ℕ, min}
use mathlib.Core.Path.{◌≡◌, sym, ◌∙◌}
use mathlib.Core.List.{List}
use lib.ListN.{length}
use seplogic.Ra.Ura.{Ura}
use base.Fml.{Lft}
use base.Logic.{SProp, ent, sep, fst∗, snd∗}
use prog.Memory.{Memory}
use prog.Routine.{Routine}
use types.Logic.{Logic}
use contract.Monad.{Fun, fact, fact_i, fact_use}
use denote.Ref.{Bor, MutBor}
use Rattle.board.specs.declared.Node.{Node}
use Rattle.board.specs.declared.Columns.{Columns}
use Rattle.board.specs.Table.{at}
use Rattle.coordinator.specs.declared.State.{State}
use Rattle.coordinator.specs.declared.Coordinator.{Coordinator}
use Rattle.coordinator.specs.State.{state_of}
use Rattle.look.specs.declared.Seen.{Seen}
use Rattle.look.specs.declared.Digest.{Digest}
use Rattle.look.specs.Digest.{digest_all, noted_in}
use Rattle.change.specs.declared.Edit.{Edit}
use Rattle.change.specs.declared.Change.{Change}
use Rattle.change.specs.Change.{changed_from, amended}
use Rattle.place.specs.Place.{edited_between, numbered_first}
use Rattle.place.proofs.below.Reads as below
use Rattle.place.specs.contracts.record_at as record-at
use Rattle.place.specs.contracts.amend as amend
use Rattle.place.specs.contracts.number as number
use Rattle.place.specs.contracts.look as look
use Rattle.place.specs.contracts.make as make

-- two facts lead to a third where their statements do
pub two_facts : {M : Type 1} (𝓤 : Ura M) (P Q R : Type 0) → (P → Q → R) → ent 𝓤 (sep 𝓤 (fact 𝓤 P) (fact 𝓤 Q)) (fact 𝓤 R)
two_facts 𝓤 P Q R f = fact_use 𝓤 P (fst∗ 𝓤 (fact 𝓤 P) (fact 𝓤 Q)) (λ p. fact_use 𝓤 Q (snd∗ 𝓤 (fact 𝓤 P) (fact 𝓤 Q)) (λ q. fact_i 𝓤 R _ (f p q)))

-- what is passed to each, and the same at its exit
abbrev Positions : Type 0
Positions = Bor (List Node) × (ℕ × Unit {0})

abbrev Numbers : Type 0
Numbers = MutBor (List Node) × (ℕ × Unit {0})

abbrev Amends : Type 0
Amends = MutBor (List Node) × (ℕ × (ℕ × (Edit × Unit {0})))

abbrev Looks : Type 0
Looks = Bor Coordinator × (Bor (List Node) × (MutBor Digest × Unit {0}))

-- what looking says of its answer, and of the digest at exit
abbrev SaysSeen : Looks → Seen → Looks → Type 0
SaysSeen a r s = (r.setup ≡ a.0.now.setup) × ((r.state ≡ state_of a.0.now) × ((noted_in r s.1.1.0.now.columns ≡ s.1.1.0.now) × (s.1.1.0.now ≡ digest_all a.0.now.setup.k a.1.0.now a.1.1.0.now)))

-- what was seen is one where its parts are
same_seen : (r q : Seen) (columns others : Columns) → r.setup ≡ q.setup → r.state ≡ q.state → noted_in r columns ≡ noted_in q others → r ≡ q
same_seen r q columns others e f g i = record { setup = e i; state = f i; ok = (g i).ok; top = (g i).top; owed = (g i).owed }

abbrev Makes : Type 0
Makes = MutBor Coordinator × (MutBor (List Node) × (State × (Change × (Bor (List ℕ) × Unit {0}))))

-- what making a change says of coordinator and records at exit
abbrev SaysMade : Makes → Makes → Type 0
SaysMade a s = (s.0.now ≡ changed_from a.1.1.0 a.1.1.1.0 a.1.1.1.1.0.now a.0.now) × (s.1.0.now ≡ amended a.1.1.1.0 a.1.0.now)

pub unique_below : (a s t : _) (r q : ℕ) → below.Post tt a r s → below.Post tt a q t → r ≡ q
unique_below a s t r q p p' = p ∙ sym p'

module _ {M : Type 1} {𝓤 : Ura M} (𝓛 : Logic 𝓤) (at_mem : Memory → SProp 𝓤) (run : Routine → Fun 𝓤) where
  pub unique_record_at : (κs : Lft × Unit {0}) (a : Positions) (r q : Node) (s t : Positions)
      → ent 𝓤 (sep 𝓤 ((record-at.clauses 𝓛 at_mem run κs a).ensures tt r s) ((record-at.clauses 𝓛 at_mem run κs a).ensures tt q t)) (fact 𝓤 (r ≡ q))
  unique_record_at κs a r q s t = two_facts 𝓤 (r ≡ at a.0.now a.1.0) (q ≡ at a.0.now a.1.0) _ (λ p p'. p ∙ sym p')

  pub unique_amend : (κs : Lft × Unit {0}) (a : Amends) (r q : Unit {0}) (s t : Amends)
      → ent 𝓤 (sep 𝓤 ((amend.clauses 𝓛 at_mem run κs a).ensures tt r s) ((amend.clauses 𝓛 at_mem run κs a).ensures tt q t)) (fact 𝓤 (s.0.now ≡ t.0.now))
  unique_amend κs a r q s t =
      two_facts 𝓤 (s.0.now ≡ edited_between a.0.now a.1.0 a.1.1.0 a.1.1.1.0) (t.0.now ≡ edited_between a.0.now a.1.0 a.1.1.0 a.1.1.1.0) _ (λ p p'. p ∙ sym p')

  pub unique_number : (κs : Lft × Unit {0}) (a : Numbers) (r q : Unit {0}) (s t : Numbers)
      → ent 𝓤 (sep 𝓤 ((number.clauses 𝓛 at_mem run κs a).ensures tt r s) ((number.clauses 𝓛 at_mem run κs a).ensures tt q t)) (fact 𝓤 (s.0.now ≡ t.0.now))
  unique_number κs a r q s t =
      two_facts 𝓤 (s.0.now ≡ numbered_first a.0.now (min (length a.0.now) a.1.0)) (t.0.now ≡ numbered_first a.0.now (min (length a.0.now) a.1.0)) _ (λ p p'. p ∙ sym p')

  pub unique_look : (κs : Lft × (Lft × (Lft × Unit {0}))) (a : Looks) (r q : Seen) (s t : Looks)
      → ent 𝓤 (sep 𝓤 ((look.clauses 𝓛 at_mem run κs a).ensures tt r s) ((look.clauses 𝓛 at_mem run κs a).ensures tt q t)) (fact 𝓤 ((r ≡ q) × (s.1.1.0.now ≡ t.1.1.0.now)))
  unique_look κs a r q s t =
      two_facts 𝓤 (SaysSeen a r s) (SaysSeen a q t) _ (λ p p'. let same = p.1.1.1 ∙ sym p'.1.1.1 in (same_seen r q _ _ (p.0 ∙ sym p'.0) (p.1.0 ∙ sym p'.1.0) (p.1.1.0 ∙ same ∙ sym p'.1.1.0), same))

  pub unique_make : (κs : Lft × (Lft × (Lft × Unit {0}))) (a : Makes) (r q : Unit {0}) (s t : Makes)
      → ent 𝓤 (sep 𝓤 ((make.clauses 𝓛 at_mem run κs a).ensures tt r s) ((make.clauses 𝓛 at_mem run κs a).ensures tt q t)) (fact 𝓤 ((s.0.now ≡ t.0.now) × (s.1.0.now ≡ t.1.0.now)))
  unique_make κs a r q s t = two_facts 𝓤 (SaysMade a s) (SaysMade a t) _ (λ p p'. (p.0 ∙ sym p'.0, p.1 ∙ sym p'.1))
