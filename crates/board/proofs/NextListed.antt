-- Going round: the next listed position is the nearest one, so that each listed position has its turn.
use Prim.Native.Nat.{ℕ, zero, suc, ◌+◌, ◌-◌, ◌≤◌, ◌<◌, min}
use native.Mathlib.Omega.{arith}
use native.Mathlib.Decide.{ℕ_discrete}
use mathlib.Core.Path.{◌≡◌, refl, sym, ◌∙◌, ap}
use mathlib.Core.Logic.{◌⊎◌, inl, inr}
use mathlib.Core.List.{List}
use mathlib.Core.Bool.{Bool, true, false, false≢true}
use lib.Dec.{ltb, leb}
use borrow.Author.Tests.{lt-ltb, le-ltb, ltb-true, ltb-false, leb-true, leb-false}
use Rattle.ground.specs.Below.{up_from, first_or}
use Rattle.ground.proofs.Choices.{choose_yes, choose_no}
use Rattle.ground.proofs.Firsts.{FirstCase, None, first_case, first_append, first_of_fewer}
use Rattle.std.proofs.Common.{Option, None as Absent, Some, unwrap_or}
use Rattle.std.specs.Option.{MatchOption}
use Rattle.board.specs.declared.Node.{Node}
use Rattle.board.specs.Table.{listed_at}
use Rattle.board.specs.Wanted.{highest_listed}
use Rattle.board.specs.Round.{round, next_listed, distance, reached}
use Rattle.board.proofs.LowestWanted.{highest_within, none_above}

-- the positions after a, whether or not a is cut at k
rest : (k a b : ℕ) → b ≡ min a k → up_from (b + 1) (k - b) ≡ up_from (a + 1) (k - a)
unfolding up_from
rest k a b e = go (leb a k) refl
  where
    go : (c : Bool) → leb a k ≡ c → up_from (b + 1) (k - b) ≡ up_from (a + 1) (k - a)
    go true h = rw (let q : b ≡ a = omega (arith, leb-true a k h) in q) refl
    go false h = rw ((let q : k - b ≡ 0 = omega (arith, leb-false a k h) in q), (let q : k - a ≡ 0 = omega (arith, leb-false a k h) in q)) refl

-- looking round is looking after a and then, where nobody is found, from 1
looks : (p : ℕ → Bool) (k a : ℕ) → first_or 0 p (round k a) ≡ first_or (first_or 0 p (up_from 1 (min a k))) p (up_from (a + 1) (k - a))
unfolding round
looks p k a = first_append 0 p (up_from (a + 1) (k - a)) (up_from 1 (min a k))

-- what the code gives: the first after a and, where there is none, the first from 1 on
pub next_looked : (t : List Node) (k a : ℕ) {top last : ℕ} → top ≡ min k 40 → last ≡ min a top → (o r : Option ℕ) → ((d : ℕ) → unwrap_or o d ≡ first_or d (listed_at t) (up_from (last + 1) (top - last))) → MatchOption o ((d : ℕ) → unwrap_or r d ≡ first_or d (listed_at t) (up_from 1 (last - 0))) (λ p. r ≡ Some p) → unwrap_or r 0 ≡ next_listed t k a
unfolding next_listed
next_looked t k a {top} {last} et el o r found cases = rw (← et) (go o refl cases ∙ sym (looks (listed_at t) top a))
  where
    later : ℕ
    later = first_or 0 (listed_at t) (up_from 1 (min a top))

    after : unwrap_or o later ≡ first_or later (listed_at t) (up_from (a + 1) (top - a))
    after = found later ∙ ap (first_or later (listed_at t)) (rest top a last el)

    go : (q : Option ℕ) → o ≡ q → MatchOption q ((d : ℕ) → unwrap_or r d ≡ first_or d (listed_at t) (up_from 1 (last - 0))) (λ p. r ≡ Some p) → unwrap_or r 0 ≡ first_or later (listed_at t) (up_from (a + 1) (top - a))
    go Absent e h = h 0 ∙ ap (λ (n : ℕ). first_or 0 (listed_at t) (up_from 1 n)) (omega (arith, el)) ∙ ap (λ (q : Option ℕ). unwrap_or q later) (sym e) ∙ after
    go (Some p) e h = ap (λ (q : Option ℕ). unwrap_or q 0) h ∙ ap (λ (q : Option ℕ). unwrap_or q later) (sym e) ∙ after

-- going round from m to 1 in place of from k to 1 finds the same where none above m passes, wherever it begins, also above m
round_of_fewer : (p : ℕ → Bool) (k m a : ℕ) → m ≤ k → ((i : ℕ) → m < i → i ≤ k → p i ≡ false) → first_or 0 p (round k a) ≡ first_or 0 p (round m a)
round_of_fewer p k m a h none =
    looks p k a ∙
    ap (λ (d : ℕ). first_or d p (up_from (a + 1) (k - a))) (first_of_fewer 0 p 1 (min a k) (min a m) (omega arith) (λ i l u. none i (omega arith) (omega arith))) ∙
    first_of_fewer _ p (a + 1) (k - a) (m - a) (omega arith) (λ i l u. none i (omega arith) (omega arith)) ∙
    sym (looks p m a)

-- so the next listed position is found going round from the highest one
pub next_to_top : (t : List Node) (k : ℕ) → highest_listed t ≤ k → (a : ℕ) → next_listed t k a ≡ next_listed t (highest_listed t) a
unfolding next_listed
next_to_top t k within a = round_of_fewer (listed_at t) (min k 40) (min (highest_listed t) 40) a (omega arith) (λ i l u. none_above t i (omega (arith, highest_within t)) (omega arith))

-- the distance to a position ahead, and to one that is reached by going round
ahead : (k a p : ℕ) → a < p → distance k a p ≡ p - a
unfolding distance
ahead k a p h = sym (choose_yes _ _ _ _ (lt-ltb a p h) refl)

behind : (k a p : ℕ) → p ≤ a → distance k a p ≡ k - a + p
unfolding distance
behind k a p h = sym (choose_no _ _ _ _ (le-ltb a p h) refl)

-- what holds where p is ahead and where it is not
by_side {ℓ} : (P : Type ℓ) (a p : ℕ) → (a < p → P) → (p ≤ a → P) → P
by_side P a p f g = go (ltb a p) refl
  where
    go : (b : Bool) → ltb a p ≡ b → P
    go true e = f (ltb-true a p e)
    go false e = g (ltb-false a p e)

-- a position is at least 1 away, and one from 1 to k at most k
pub distance_least : (k a p : ℕ) → 1 ≤ p → 1 ≤ distance k a p
distance_least k a p h = by_side _ a p (λ l. omega (arith, ahead k a p l)) (λ l. omega (arith, behind k a p l))

pub distance_most : (k a p : ℕ) → 1 ≤ p → p ≤ k → distance k a p ≤ k
distance_most k a p h m = by_side _ a p (λ l. omega (arith, ahead k a p l)) (λ l. omega (arith, behind k a p l))

-- r is a position from 1 to k that passes, and none nearer to a does
pub record Nearest (p : ℕ → Bool) (k a r : ℕ) : Type 0 where
  pub from : 1 ≤ r
  pub within : r ≤ k
  pub passes : p r ≡ true
  pub nearer : (q : ℕ) → 1 ≤ q → q ≤ k → distance k a q < distance k a r → p q ≡ false

-- none from 1 to k passes, and 0 is given; or the nearest that passes is
abbrev pub NearestCase : (ℕ → Bool) → ℕ → ℕ → ℕ → Type 0
NearestCase p k a r = ((None p 1 k) × (r ≡ 0)) ⊎ Nearest p k a r

round_case : (p : ℕ → Bool) (k a : ℕ) → NearestCase p k a (first_or 0 p (round k a))
round_case p k a = rw (looks p k a) (go (first_or 0 p (up_from 1 (min a k))) (first_case 0 p 1 (min a k)) (first_case _ p (a + 1) (k - a)))
  where
    go : (s : ℕ) → FirstCase 0 p 1 (min a k) s → FirstCase s p (a + 1) (k - a) (first_or s p (up_from (a + 1) (k - a))) → NearestCase p k a (first_or s p (up_from (a + 1) (k - a)))
    go s low (inr f) =
        inr
        (record {
          from = omega (arith, f.from);
          within = omega (arith, f.within, f.from);
          passes = f.passes;
          nearer = λ q h l near. by_side _ a q
              (λ m. f.before q (omega arith) (omega (arith, ahead k a q m, ahead k a (first_or s p (up_from (a + 1) (k - a))) (omega (arith, f.from)))))
              (λ m. absurd (let z : ⊥ = omega (arith, behind k a q m, ahead k a (first_or s p (up_from (a + 1) (k - a))) (omega (arith, f.from)), f.within, f.from) in z));
        })
    go s (inl (none, zeroed)) (inl (after, e)) = inl ((λ i h l. by_side _ a i (λ m. after i (omega arith) (omega arith)) (λ m. none i h (omega arith))), e ∙ zeroed)
    go s (inr f) (inl (after, e)) =
        inr
        (rw e
        (record {
          from = f.from;
          within = omega (arith, f.within);
          passes = f.passes;
          nearer = λ q h l near. by_side _ a q
              (λ m. after q (omega arith) (omega arith))
              (λ m. f.before q h (omega (arith, behind k a q m, behind k a s (omega (arith, f.within)))));
        }))

-- the next listed position is 0 and nobody from 1 to k is listed; or it is listed, within 1 to k, and nobody listed is nearer
pub next_case : (t : List Node) (k a : ℕ) → k ≤ 40 → NearestCase (listed_at t) k a (next_listed t k a)
unfolding next_listed
next_case t k a h = rw (let e : min k 40 ≡ k = omega arith in e) (round_case (listed_at t) k a)

-- where somebody from 1 to k is listed, the next one is: listed, within 1 to k, and the nearest
pub next_nearest : (t : List Node) (k a p : ℕ) → k ≤ 40 → listed_at t p ≡ true → 1 ≤ p → p ≤ k → Nearest (listed_at t) k a (next_listed t k a)
next_nearest t k a p h e l m = go (next_case t k a h)
  where
    go : NearestCase (listed_at t) k a (next_listed t k a) → Nearest (listed_at t) k a (next_listed t k a)
    go (inl (none, zeroed)) = absurd (false≢true (sym (none p l (omega arith)) ∙ e))
    go (inr f) = f

-- a position that is at least as far from a as r is, and is not r, is nearer to r than to a
closer : (k a r p : ℕ) → 1 ≤ r → r ≤ k → 1 ≤ p → p ≤ k → distance k a r ≤ distance k a p → (p ≡ r → ⊥) → distance k r p < distance k a p
closer k a r p h l m n d ne = by_side _ a p (λ x. by_side _ a r (λ y. one x y) (λ y. two x y)) (λ x. by_side _ a r (λ y. three x y) (λ y. four x y))
  where
    one : a < p → a < r → distance k r p < distance k a p
    one x y = omega (arith, ahead k a p x, ahead k a r y, ahead k r p (omega (arith, ne, ahead k a p x, ahead k a r y)))

    two : a < p → r ≤ a → distance k r p < distance k a p
    two x y = absurd (let z : ⊥ = omega (arith, ahead k a p x, behind k a r y) in z)

    three : p ≤ a → a < r → distance k r p < distance k a p
    three x y = omega (arith, behind k a p x, behind k r p (omega arith))

    four : p ≤ a → r ≤ a → distance k r p < distance k a p
    four x y = omega (arith, behind k a p x, ahead k r p (omega (arith, ne, behind k a p x, behind k a r y)))

-- the step to the next listed position names p or comes at least one nearer to it
pub next_closer : (t : List Node) (k a p : ℕ) → k ≤ 40 → listed_at t p ≡ true → 1 ≤ p → p ≤ k → (p ≡ next_listed t k a → ⊥) → distance k (next_listed t k a) p < distance k a p
next_closer t k a p h e l m ne = closer k a (next_listed t k a) p near.from near.within l m not_nearer ne
  where
    near : Nearest (listed_at t) k a (next_listed t k a)
    near = next_nearest t k a p h e l m

    not_nearer : distance k a (next_listed t k a) ≤ distance k a p
    not_nearer = by_side _ (distance k a p) (distance k a (next_listed t k a)) (λ q. absurd (false≢true (sym (near.nearer p l m q) ∙ e))) (λ q. q)

-- p is named by one of the first n steps from a
abbrev pub Named : List Node → ℕ → ℕ → ℕ → ℕ → Type 0
Named t k n a p = (i : ℕ) × (1 ≤ i) × (i ≤ n) × (reached t k i a ≡ p)

-- n steps name p, or come at least n nearer to it
pub named_or_nearer : (t : List Node) (k p : ℕ) → k ≤ 40 → listed_at t p ≡ true → 1 ≤ p → p ≤ k → (n a : ℕ) → Named t k n a p ⊎ (distance k (reached t k n a) p + n ≤ distance k a p)
unfolding reached
named_or_nearer t k p h e l m zero a = inr (omega arith)
named_or_nearer t k p h e l m (suc n) a = go (named_or_nearer t k p h e l m n (next_listed t k a)) (ℕ_discrete p (next_listed t k a))
  where
    go : Named t k n (next_listed t k a) p ⊎ (distance k (reached t k n (next_listed t k a)) p + n ≤ distance k (next_listed t k a) p) → Dec (p ≡ next_listed t k a) → Named t k (suc n) a p ⊎ (distance k (reached t k n (next_listed t k a)) p + suc n ≤ distance k a p)
    go r (yes q) = inl (1, omega arith, omega arith, sym q)
    go (inl (i, from, within, there)) (no ne) = inl (suc i, omega arith, omega arith, there)
    go (inr d) (no ne) = inr (omega (arith, next_closer t k a p h e l m ne))

-- each listed position is named by one of any k steps one after another
pub named_in_round : (t : List Node) (k p : ℕ) → k ≤ 40 → listed_at t p ≡ true → 1 ≤ p → p ≤ k → (a : ℕ) → Named t k k a p
named_in_round t k p h e l m a = go (named_or_nearer t k p h e l m k a)
  where
    go : Named t k k a p ⊎ (distance k (reached t k k a) p + k ≤ distance k a p) → Named t k k a p
    go (inl named) = named
    go (inr d) = absurd (let z : ⊥ = omega (arith, distance_least k (reached t k k a) p l, distance_most k a p l m) in z)

-- steps that come back to where they began have named each listed position: none is repeated before all had their turn
pub named_before_repeat : (t : List Node) (k p : ℕ) → k ≤ 40 → listed_at t p ≡ true → 1 ≤ p → p ≤ k → (n a : ℕ) → 1 ≤ n → reached t k n a ≡ a → Named t k n a p
named_before_repeat t k p h e l m n a some back = go (named_or_nearer t k p h e l m n a)
  where
    go : Named t k n a p ⊎ (distance k (reached t k n a) p + n ≤ distance k a p) → Named t k n a p
    go (inl named) = named
    go (inr d) = absurd (let z : ⊥ = omega (arith, ap (λ (b : ℕ). distance k b p) back) in z)
