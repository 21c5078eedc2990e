-- What an answer says tells it apart, and so what a caller is shown tells what a step left.
use Prim.Native.Nat.{ℕ}
use mathlib.Core.Path.{◌≡◌, refl, sym, ap, subst, ◌∙◌}
use mathlib.Core.List.{List, [], ◌∷◌}
use lib.ListN.{get_or}
use Rattle.refusal.specs.Refusal.{Told, refuses}
use Rattle.refusal.specs.declared.Refusal.{Refusal}
use Rattle.refusal.proofs.Numbers.{same_refused, gives_not}
use Rattle.coordinator.specs.declared.Exchange.{Exchange}
use Rattle.coordinator.specs.declared.Exchange.TheVariants.{Offer, List as Listing, Forward, Return}
use Rattle.steps.specs.declared.Seek.{Seek as Seeks}
use Rattle.steps.specs.declared.Seek.TheVariants.{Search, Identify, Assign}
use Rattle.steps.specs.declared.Answer.{Answer}
use Rattle.steps.specs.declared.Answer.TheVariants.{Wait, Seek, Deliver, Transmit, Rest, Refuse}
use Rattle.steps.specs.declared.Stepped.{Stepped}
use Rattle.steps.specs.After.{exchange_number, seek_number, told, After, Shown, shown, Leaves}

-- the waits for position b by the number of their exchange
wait_at : ℕ → ℕ → Answer
wait_at b n = get_or (Rest ∷ Wait b Offer ∷ Wait b Listing ∷ Wait b Forward ∷ Wait b Return ∷ Seek b Search ∷ Seek b Identify ∷ Seek b Assign ∷ []) n Rest

placed : (b : ℕ) (e : Exchange) → wait_at b (exchange_number e) ≡ Wait b e
unfolding wait_at
placed b Offer = refl
placed b Listing = refl
placed b Forward = refl
placed b Return = refl

sought : (p : ℕ) (s : Seeks) → wait_at p (seek_number s) ≡ Seek p s
unfolding wait_at
sought p Search = refl
sought p Identify = refl
sought p Assign = refl

-- the answers by what they say, where they refuse nothing
answer_at : List ℕ → Answer
answer_at vs = get_or (Rest ∷ wait_at (get_or vs 1 0) (get_or vs 2 0) ∷ Deliver ∷ Transmit ∷ Rest ∷ []) (get_or vs 0 0) Rest

-- the values of two answers that refuse nothing tell them apart
data Taken : Answer → Type 0 where
  taken_wait : (b : ℕ) (e : Exchange) → Taken (Wait b e)
  taken_seek : (p : ℕ) (s : Seeks) → Taken (Seek p s)
  taken_deliver : Taken Deliver
  taken_transmit : Taken Transmit
  taken_rest : Taken Rest

back : {a : Answer} → Taken a → answer_at (told a).values ≡ a
unfolding answer_at
back (taken_wait b e) = placed b e
back (taken_seek p s) = sought p s
back taken_deliver = refl
back taken_transmit = refl
back taken_rest = refl

both_taken : {a b : Answer} → Taken a → Taken b → told a ≡ told b → a ≡ b
both_taken p q e = sym (back p) ∙ ap (λ (t : Told). answer_at t.values) e ∙ back q

taken_not_refused : {A : Type 0} (r : Refusal) {a : Answer} → Taken a → told a ≡ refuses r → A
taken_not_refused r (taken_wait b x) e = absurd (gives_not _ r e)
taken_not_refused r (taken_seek p s) e = absurd (gives_not _ r e)
taken_not_refused r taken_deliver e = absurd (gives_not _ r e)
taken_not_refused r taken_transmit e = absurd (gives_not _ r e)
taken_not_refused r taken_rest e = absurd (gives_not _ r e)

-- an answer that is taken, against any answer
against : (a b : Answer) → Taken a → told a ≡ told b → a ≡ b
against a (Wait b x) p e = both_taken p (taken_wait b x) e
against a (Seek q s) p e = both_taken p (taken_seek q s) e
against a Deliver p e = both_taken p taken_deliver e
against a Transmit p e = both_taken p taken_transmit e
against a Rest p e = both_taken p taken_rest e
against a (Refuse r) p e = taken_not_refused r p e

refused_against : (r : Refusal) (b : Answer) → refuses r ≡ told b → Refuse r ≡ b
refused_against r (Wait b x) e = taken_not_refused r (taken_wait b x) (sym e)
refused_against r (Seek p s) e = taken_not_refused r (taken_seek p s) (sym e)
refused_against r Deliver e = taken_not_refused r taken_deliver (sym e)
refused_against r Transmit e = taken_not_refused r taken_transmit (sym e)
refused_against r Rest e = taken_not_refused r taken_rest (sym e)
refused_against r (Refuse q) e = ap Refuse (same_refused r q e)

-- two answers that say the same are the same
pub same_told : (a b : Answer) → told a ≡ told b → a ≡ b
same_told (Wait b x) q e = against (Wait b x) q (taken_wait b x) e
same_told (Seek p s) q e = against (Seek p s) q (taken_seek p s) e
same_told Deliver q e = against Deliver q taken_deliver e
same_told Transmit q e = against Transmit q taken_transmit e
same_told Rest q e = against Rest q taken_rest e
same_told (Refuse r) q e = refused_against r q e

-- two steps that show the same are the same
pub same_shown : (r q : Stepped) → shown r ≡ shown q → r ≡ q
same_shown r q e =
    λ i. record {
      coordinator = (e i).coordinator;
      table = record { nodes = (e i).nodes };
      outcome = record { answer = answer i; written = (e i).written; joined = (e i).joined; dropped = (e i).dropped };
    }
  where
    answer : r.outcome.answer ≡ q.outcome.answer
    answer = same_told r.outcome.answer q.outcome.answer (ap (λ (s : Shown). s.says) e)

-- what is left may be said by any equal definition
pub leaves_as : (r : Stepped) (before after : List ℕ) {a b : After} → a ≡ b → Leaves b r before after → Leaves a r before after
leaves_as r before after e h = subst (λ (x : After). Leaves x r before after) (sym e) h
