-- The contracts of the lent forms, as they stand in the source, leave one outcome for each input: one answer, one coordinator, one list of records, one content of the output.
-- For functions that are lent a record each theorem is over the generated clauses themselves: it is refused once the source says anything else.
use mathlib.Core.Path.{◌≡◌, sym, ap, ◌∙◌}
use mathlib.Core.List.{List}
use Prim.Native.Nat.{ℕ}
use lib.ListN.{length}
use seplogic.Ra.Ura.{Ura}
use base.Fml.{Lft}
use base.Logic.{SProp, ent, sep}
use prog.Memory.{Memory}
use prog.Routine.{Routine}
use types.Logic.{Logic}
use contract.Monad.{Fun, fact}
use denote.Ref.{Bor, MutBor}
use Rattle.ground.specs.Bytes.{laid}
use Rattle.board.specs.declared.Node.{Node}
use Rattle.board.specs.declared.Table.{Table}
use Rattle.coordinator.specs.declared.Coordinator.{Coordinator}
use Rattle.steps.specs.declared.Event.{Event}
use Rattle.steps.specs.declared.Outcome.{Outcome}
use Rattle.steps.specs.declared.Stepped.{Stepped}
use Rattle.steps.specs.After.{After, shows}
use Rattle.steps.specs.Start.{start_of}
use Rattle.steps.specs.Step.{step_of}
use Rattle.steps.proofs.Shows.{same_shown}
use Rattle.lent.specs.Lent.{in_place}
use Rattle.lent.specs.Numbers.{event_of, Faced, facing, faced}
use Rattle.lent.specs.Amend.{Amends, amends, listing, clearing, marking, amend_of}
use Rattle.place.proofs.Unique.{two_facts}
use Rattle.lent.proofs.InPlace.{same_in_place}
use Rattle.panel.specs.contracts.setup as setup
use Rattle.panel.specs.contracts.step as step
use Rattle.panel.specs.contracts.nadrelgos_list as list
use Rattle.panel.specs.contracts.nadrelgos_clear as clear
use Rattle.panel.specs.contracts.nadrelgos_mark as mark
use Rattle.panel.specs.contracts.nadrelgos_setup as setup-for-c
use Rattle.panel.specs.contracts.nadrelgos_step as step-for-c
use Rattle.panel.proofs.lend_setup.Reads as lend-setup
use Rattle.panel.proofs.lend_step.Reads as lend-step

-- the same coordinator and records, beside the answers r and q
abbrev pub Same : {A : Type 0} (r q : A) (c d : Coordinator) (ys zs : List Node) → Type 0
Same r q c d ys zs = (r ≡ q) × ((c ≡ d) × (ys ≡ zs))

pub same_facing : (n m : ℕ) (c d : Coordinator) (ys zs : List Node) → facing n c ys ≡ facing m d zs → Same n m c d ys zs
same_facing n m c d ys zs e = (ap (λ (f : Faced). f.answer) e, (ap (λ (f : Faced). f.coordinator) e, ap (λ (f : Faced). f.nodes) e))

-- what setup is passed, by Rattle and by C
abbrev pub Setups : Type 0
Setups = MutBor Coordinator × (MutBor (List Node) × (Bor (List ℕ) × (ℕ × (ℕ × (ℕ × (ℕ × Unit {0}))))))

-- what a setup on these arguments leaves, by the definition
abbrev pub set_up : Setups → After
set_up a = start_of a.0.now a.1.0.now a.1.1.0.now a.1.1.1.0 a.1.1.1.1.0 a.1.1.1.1.1.0 a.1.1.1.1.1.1.0

-- what a setup says of its answer r and of what it was passed, at exit
abbrev pub SaysSetup : Setups → Outcome → Setups → Type 0
SaysSetup a r s = in_place r s.0.now s.1.0.now ≡ shows (set_up a)

-- what a step is passed
abbrev pub Steps : Type 0
Steps = MutBor Coordinator × (MutBor (List Node) × (Event × (Bor (List ℕ) × (MutBor (List ℕ) × Unit {0}))))

abbrev pub output : Steps → List ℕ
output a = a.1.1.1.1.0.now

-- what a step on these arguments leaves, by the definition
abbrev pub stepped : Steps → After
stepped a = step_of a.0.now a.1.0.now a.1.1.0 a.1.1.1.0.now (length (output a))

-- what C passes to a step: a number and what a join is made of, for the event
abbrev pub Numbered : Type 0
Numbered = MutBor Coordinator × (MutBor (List Node) × (ℕ × (ℕ × (ℕ × (ℕ × (ℕ × (Bor (List ℕ) × (MutBor (List ℕ) × Unit {0}))))))))

abbrev pub numbered_output : Numbered → List ℕ
numbered_output a = a.1.1.1.1.1.1.1.1.0.now

abbrev numbered : Numbered → After
numbered a = step_of a.0.now a.1.0.now (event_of a.1.1.0 a.1.1.1.0 a.1.1.1.1.0 a.1.1.1.1.1.0 a.1.1.1.1.1.1.0) a.1.1.1.1.1.1.1.0.now (length (numbered_output a))

-- what is passed to a change of one record: the position, and for a board that is listed its type, MAC, session and version
abbrev pub Listings : Type 0
Listings = MutBor (List Node) × (ℕ × (ℕ × (ℕ × (ℕ × (ℕ × Unit {0})))))

abbrev pub Positions : Type 0
Positions = MutBor (List Node) × (ℕ × Unit {0})

pub same_amends : (r q : ℕ) (ys zs : List Node) (does : Amends) → amends r ys ≡ does → amends q zs ≡ does → (r ≡ q) × (ys ≡ zs)
same_amends r q ys zs does p p' = (ap (λ (x : Amends). x.answer) (p ∙ sym p'), ap (λ (x : Amends). x.nodes) (p ∙ sym p'))

-- what a step says of its answer r and of what it was passed, at exit
abbrev pub Says : Steps → Outcome → Steps → Type 0
Says a r s = (in_place r s.0.now s.1.0.now ≡ shows (stepped a)) × (output s ≡ laid (stepped a).bytes (output a))

module _ {M : Type 1} {𝓤 : Ura M} (𝓛 : Logic 𝓤) (at_mem : Memory → SProp 𝓤) (run : Routine → Fun 𝓤) where
  pub unique_setup : (κs : Lft × (Lft × (Lft × Unit {0}))) (a : Setups) (r q : Outcome) (s t : Setups)
      → ent 𝓤 (sep 𝓤 ((setup.clauses 𝓛 at_mem run κs a).ensures tt r s) ((setup.clauses 𝓛 at_mem run κs a).ensures tt q t)) (fact 𝓤 (Same r q s.0.now t.0.now s.1.0.now t.1.0.now))
  unique_setup κs a r q s t =
      two_facts 𝓤 (SaysSetup a r s) (SaysSetup a q t) _ (λ p p'. same_in_place r q _ _ _ _ (p ∙ sym p'))

  pub unique_step : (κs : Lft × (Lft × (Lft × (Lft × Unit {0})))) (a : Steps) (r q : Outcome) (s t : Steps)
      → ent 𝓤 (sep 𝓤 ((step.clauses 𝓛 at_mem run κs a).ensures tt r s) ((step.clauses 𝓛 at_mem run κs a).ensures tt q t)) (fact 𝓤 (Same r q s.0.now t.0.now s.1.0.now t.1.0.now × (output s ≡ output t)))
  unique_step κs a r q s t = two_facts 𝓤 (Says a r s) (Says a q t) _ (λ p p'. (same_in_place r q _ _ _ _ (p.0 ∙ sym p'.0), p.1 ∙ sym p'.1))

  pub unique_nadrelgos_list : (κs : Lft × Unit {0}) (a : Listings) (r q : ℕ) (s t : Listings)
      → ent 𝓤 (sep 𝓤 ((list.clauses 𝓛 at_mem run κs a).ensures tt r s) ((list.clauses 𝓛 at_mem run κs a).ensures tt q t)) (fact 𝓤 ((r ≡ q) × (s.0.now ≡ t.0.now)))
  unique_nadrelgos_list κs a r q s t = two_facts 𝓤 (amends r s.0.now ≡ does) (amends q t.0.now ≡ does) _ (same_amends r q _ _ does)
    where
      does : Amends
      does = amend_of (length a.0.now) a.0.now (listing a.0.now a.1.0 a.1.1.0 a.1.1.1.0 a.1.1.1.1.0 a.1.1.1.1.1.0)

  pub unique_nadrelgos_clear : (κs : Lft × Unit {0}) (a : Positions) (r q : ℕ) (s t : Positions)
      → ent 𝓤 (sep 𝓤 ((clear.clauses 𝓛 at_mem run κs a).ensures tt r s) ((clear.clauses 𝓛 at_mem run κs a).ensures tt q t)) (fact 𝓤 ((r ≡ q) × (s.0.now ≡ t.0.now)))
  unique_nadrelgos_clear κs a r q s t = two_facts 𝓤 (amends r s.0.now ≡ does) (amends q t.0.now ≡ does) _ (same_amends r q _ _ does)
    where
      does : Amends
      does = amend_of (length a.0.now) a.0.now (clearing a.0.now a.1.0)

  pub unique_nadrelgos_mark : (κs : Lft × Unit {0}) (a : Positions) (r q : ℕ) (s t : Positions)
      → ent 𝓤 (sep 𝓤 ((mark.clauses 𝓛 at_mem run κs a).ensures tt r s) ((mark.clauses 𝓛 at_mem run κs a).ensures tt q t)) (fact 𝓤 ((r ≡ q) × (s.0.now ≡ t.0.now)))
  unique_nadrelgos_mark κs a r q s t = two_facts 𝓤 (amends r s.0.now ≡ does) (amends q t.0.now ≡ does) _ (same_amends r q _ _ does)
    where
      does : Amends
      does = amend_of (length a.0.now) a.0.now (marking a.0.now a.1.0)

  pub unique_nadrelgos_setup : (κs : Lft × (Lft × (Lft × Unit {0}))) (a : Setups) (r q : ℕ) (s t : Setups)
      → ent 𝓤 (sep 𝓤 ((setup-for-c.clauses 𝓛 at_mem run κs a).ensures tt r s) ((setup-for-c.clauses 𝓛 at_mem run κs a).ensures tt q t)) (fact 𝓤 (Same r q s.0.now t.0.now s.1.0.now t.1.0.now))
  unique_nadrelgos_setup κs a r q s t =
      two_facts 𝓤 (facing r s.0.now s.1.0.now ≡ faced (set_up a)) (facing q t.0.now t.1.0.now ≡ faced (set_up a)) _ (λ p p'. same_facing r q _ _ _ _ (p ∙ sym p'))

  pub unique_nadrelgos_step : (κs : Lft × (Lft × (Lft × (Lft × Unit {0})))) (a : Numbered) (r q : ℕ) (s t : Numbered)
      → ent 𝓤 (sep 𝓤 ((step-for-c.clauses 𝓛 at_mem run κs a).ensures tt r s) ((step-for-c.clauses 𝓛 at_mem run κs a).ensures tt q t)) (fact 𝓤 (Same r q s.0.now t.0.now s.1.0.now t.1.0.now × (numbered_output s ≡ numbered_output t)))
  unique_nadrelgos_step κs a r q s t =
      two_facts 𝓤
      ((facing r s.0.now s.1.0.now ≡ faced (numbered a)) × (numbered_output s ≡ laid (numbered a).bytes (numbered_output a)))
      ((facing q t.0.now t.1.0.now ≡ faced (numbered a)) × (numbered_output t ≡ laid (numbered a).bytes (numbered_output a)))
      _
      (λ p p'. (same_facing r q _ _ _ _ (p.0 ∙ sym p'.0), p.1 ∙ sym p'.1))

-- what goes by value has a reading of its contract
pub unique_lend_setup : (κs : _) (a s t : _) (r q : Stepped) → lend-setup.Post κs a r s → lend-setup.Post κs a q t → r ≡ q
unique_lend_setup κs a s t r q p p' = same_shown r q (p ∙ sym p')

abbrev Values : Type 0
Values = Coordinator × (Table × (Event × (Bor (List ℕ) × (MutBor (List ℕ) × Unit {0}))))

pub unique_lend_step : (κs : _) (a s t : Values) (r q : Stepped) → lend-step.Post κs a r s → lend-step.Post κs a q t → (r ≡ q) × (s.1.1.1.1.0.now ≡ t.1.1.1.1.0.now)
unique_lend_step κs a s t r q p p' = (same_shown r q (p.0 ∙ sym p'.0), p.1 ∙ sym p'.1)
