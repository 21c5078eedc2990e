-- What setup and the changes of single records make of lent records, which they edit where they stand, is what the definitions say: of any other count than forty nothing is changed.
use Prim.Native.Nat.{ℕ, min}
use mathlib.Core.Path.{◌≡◌, refl, sym, ap, ◌∙◌}
use mathlib.Core.Bool.{Bool, true, false}
use mathlib.Core.List.{List, [], ◌∷◌, map}
use lib.Dec.{eqb}
use lib.ListN.{length, replicate}
use borrow.Author.Tests.{eqb-true, not-false}
use Rattle.ground.specs.Choose.{choose}
use Rattle.ground.proofs.Choices.{of_choice}
use Rattle.refusal.specs.Refusal.{refuses}
use Rattle.refusal.specs.declared.Refusal.{Refusal}
use Rattle.refusal.specs.declared.Refusal.TheVariants.{StateUnfit}
use Rattle.refusal.proofs.Rules.{ruled_through, each, by_rules}
use Rattle.board.specs.declared.Node.{Node}
use Rattle.board.specs.Node.{none}
use Rattle.coordinator.specs.declared.Coordinator.{Coordinator}
use Rattle.coordinator.specs.Fresh.{fresh, blank_table}
use Rattle.steps.specs.declared.Answer.TheVariants.{Rest, Refuse}
use Rattle.steps.specs.declared.Outcome.{Outcome}
use Rattle.steps.specs.declared.Stepped.{Stepped}
use Rattle.steps.specs.After.{After, Shown, shows, leaving, refused, accepted, rests}
use Rattle.steps.specs.Start.{setup_of, start_rules, start_of}
use Rattle.steps.proofs.Shows.{same_shown}
use Rattle.change.specs.declared.Edit.{Edit}
use Rattle.change.specs.declared.Edit.TheVariants.{Cleared}
use Rattle.change.specs.Change.{edited, edited_at}
use Rattle.board.specs.Index.{numbered}
use Rattle.place.specs.Place.{edited_between, numbered_first}
use Rattle.place.proofs.Edits.{length_edited, nothing_edited, each_edited, position_edited}
use Rattle.place.proofs.Numbers.{numbered_if}
use Rattle.start.specs.declared.Begun.{Begun}
use Rattle.start.specs.Begin.{begun, begin_of}
use Rattle.lent.specs.declared.Amendment.{Amendment}
use Rattle.lent.specs.Lent.{in_place}
use Rattle.lent.specs.Numbers.{packed}
use Rattle.lent.specs.Amend.{Amends, amends, amend_of, amending}

-- what is in place tells the outcome, the coordinator and the records
pub same_in_place : (r q : Outcome) (c d : Coordinator) (ys zs : List Node) → in_place r c ys ≡ in_place q d zs → (r ≡ q) × ((c ≡ d) × (ys ≡ zs))
same_in_place r q c d ys zs e = (ap (λ (x : Stepped). x.outcome) same, (ap (λ (s : Shown). s.coordinator) e, ap (λ (s : Shown). s.nodes) e))
  where
    made : Outcome → Coordinator → List Node → Stepped
    made o k l = record { coordinator = k; table = record { nodes = l }; outcome = o }

    same : made r c ys ≡ made q d zs
    same = same_shown (made r c ys) (made q d zs) e

-- forty records cleared are forty free positions
cleared : (t : List Node) → map (edited Cleared) t ≡ replicate (length t) none
cleared [] = refl
cleared (n ∷ t) = ap (λ (l : List Node). none ∷ l) (cleared t)

all_cleared : (t : List Node) → length t ≡ 40 → edited_between t 0 (length t) Cleared ≡ blank_table
all_cleared t e = each_edited Cleared t ∙ cleared t ∙ ap (λ (n : ℕ). replicate n none) e

-- setup, and what it clears where it stands
module _ (c : Coordinator) (ys : List Node) (addresses : List ℕ) (subnet internal mac session : ℕ) where
  abbrev does : Begun → Shown
  does r = in_place r.outcome r.coordinator (edited_between ys 0 r.clear Cleared)

  abbrev rules : List (Bool × Refusal)
  rules = start_rules ys addresses mac

  abbrev refusing : Refusal → Begun × After
  refusing q = (begun c 0 (Refuse q), refused c ys q)

  abbrev starting : Begun × After
  starting = (begun (fresh (setup_of addresses subnet internal mac session)) (length ys) Rest, accepted (fresh (setup_of addresses subnet internal mac session)) blank_table rests [])

  -- each refusal leaves all as it was, and a start that is taken leaves what it says
  begun_same : does (begin_of c (length ys) addresses subnet internal mac session) ≡ shows (start_of c ys addresses subnet internal mac session)
  unfolding start_of
  begun_same =
      sym (ap does (ruled_through (λ (x : Begun × After). x.0) rules refusing starting)) ∙
      by_rules (λ (x : Begun × After). does x.0 ≡ shows x.1) rules refusing starting
      (each (λ q. ap (λ (l : List Node). leaving c l (refuses q) 0 0 0) (nothing_edited ys 0 Cleared)) rules)
      (λ ok. ap (λ (l : List Node). leaving starting.1.coordinator l rests 0 0 0) (all_cleared ys (eqb-true (length ys) 40 (not-false _ ok.0)))) ∙
      ap shows (ruled_through (λ (x : Begun × After). x.1) rules refusing starting)

  pub setup_in_place : (zs : List Node) (r : Begun) → r ≡ begin_of c (length ys) addresses subnet internal mac session → zs ≡ edited_between ys 0 r.clear Cleared → in_place r.outcome r.coordinator zs ≡ shows (start_of c ys addresses subnet internal mac session)
  setup_in_place zs r e back = ap (in_place r.outcome r.coordinator) back ∙ ap does e ∙ begun_same

-- a change of one record
module _ (ys zs : List Node) (position : ℕ) (e : Edit) (r : Amendment) (back : zs ≡ edited_between ys r.from r.to r.edit) (er : r ≡ amending (length ys) position e) where
  abbrev changed : List Node
  changed = edited_at ys position e

  pub amend_in_place : amends r.answer zs ≡ amend_of (length ys) ys changed
  amend_in_place = ap (amends r.answer) back ∙ ap edits er ∙ of_choice edits (eqb (length ys) 40) _ _ ∙ (λ i. choose (eqb (length ys) 40) (amends (packed rests 0 0 0) (position_edited ys position e i)) (amends (packed (refuses StateUnfit) 0 0 0) (nothing_edited ys 0 e i)))
    where
      edits : Amendment → Amends
      edits a = amends a.answer (edited_between ys a.from a.to a.edit)

  -- after which all are numbered
  pub number_in_place : (us : List Node) → us ≡ numbered_first zs (min (length zs) r.all) → amends r.answer us ≡ amend_of (length ys) ys (numbered changed)
  unfolding choose
  number_in_place us then = ap (amends r.answer) (then ∙ numbered_if (eqb (length ys) 40) zs (length ys) r.all (ap length back ∙ length_edited ys _ _ _) (ap (λ (a : Amendment). a.all) er ∙ of_choice (λ (a : Amendment). a.all) (eqb (length ys) 40) _ _)) ∙ go (eqb (length ys) 40) amend_in_place
    where
      go : (b : Bool) → amends r.answer zs ≡ choose b (amends (packed rests 0 0 0) changed) (amends (packed (refuses StateUnfit) 0 0 0) ys)
          → amends r.answer (choose b (numbered zs) zs) ≡ choose b (amends (packed rests 0 0 0) (numbered changed)) (amends (packed (refuses StateUnfit) 0 0 0) ys)
      go true h = ap (λ (a : Amends). amends a.answer (numbered a.nodes)) h
      go false h = h
