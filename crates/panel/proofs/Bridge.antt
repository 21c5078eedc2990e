-- From the lent forms to the rest: a lent setup is a fresh start, and a series of lent steps is a series of the panel of demand 3. So every theorem
-- about that panel (crates lasting, staying, turns) holds of the coordinator and the records that a host lends, with no second proof.
use mathlib.Core.Path.{◌≡◌, refl, sym, ap, subst, ◌∙◌}
use mathlib.Core.List.{List, [], ◌∷◌}
use lib.ListN.{length}
use Rattle.steps.specs.declared.Outcome.{Outcome}
use Rattle.steps.specs.After.{Shown, told, rests, shows}
use Rattle.series.specs.Series.{Input, World, left, Fresh, fresh_start, after}
use Rattle.series.specs.Ours.{ours}
use Rattle.lent.specs.Lent.{in_place}
use Rattle.panel.proofs.Unique.{Setups, set_up, SaysSetup, Steps, output, Says}

-- what a host lends to a step: its coordinator and its records, and the event with the received bytes and the room
abbrev world : Steps → World
world a = record { coordinator = a.0.now; nodes = a.1.0.now }

abbrev input : Steps → Input
input a = record { event = a.1.1.0; received = a.1.1.1.0.now; room = length (output a) }

-- a lent setup that is taken is a fresh start of demand 3, with as many addresses as it was given
pub is_fresh : (a s : Setups) (r : Outcome) → SaysSetup a r s → told r.answer ≡ rests → Fresh ours (length a.1.1.0.now) (record { coordinator = s.0.now; nodes = s.1.0.now })
is_fresh a s r e taken =
    subst (Fresh ours (length a.1.1.0.now)) (sym same)
    (fresh_start (record { coordinator = a.0.now; nodes = a.1.0.now }) a.1.1.0.now a.1.1.1.0 a.1.1.1.1.0 a.1.1.1.1.1.0 a.1.1.1.1.1.1.0 refl (sym (ap (λ (x : Shown). x.says) e) ∙ taken))
  where
    same : record { coordinator = s.0.now; nodes = s.1.0.now } ≡ left (set_up a)
    same i = record { coordinator = (e i).coordinator; nodes = (e i).nodes }

-- one lent step on a world leaves another, with an answer
abbrev Stepping : World → Input → Outcome → World → Type 0
Stepping w i r v = in_place r v.coordinator v.nodes ≡ shows (ours.step w i)

pub is_stepping : (a s : Steps) (r : Outcome) → Says a r s → Stepping (world a) (input a) r (world s)
is_stepping a s r p = p.0

-- and so it leaves the world that the panel of demand 3 leaves
stepping_left : (w v : World) (i : Input) (r : Outcome) → Stepping w i r v → v ≡ left (ours.step w i)
stepping_left w v i r e = λ j. record { coordinator = (e j).coordinator; nodes = (e j).nodes }

-- a series of lent steps, each on what the one before it left
pub data Played : World → List Input → World → Type 0 where
  played_none : (w : World) → Played w [] w
  played_more : (w v x : World) (i : Input) (is : List Input) (r : Outcome) → Stepping w i r v → Played v is x → Played w (i ∷ is) x

-- a series of lent steps leaves what demand 3's series leaves
pub series_in_place : (w x : World) (is : List Input) → Played w is x → x ≡ after ours w is
unfolding after
series_in_place w x [] (played_none v) = refl
series_in_place w x (i ∷ is) (played_more u v y j js r e p) = series_in_place v x is p ∙ ap (λ (z : World). after ours z is) (stepping_left w v i r e)
