-- What an answer by rules says of the rules.
use Prim.Native.Nat.{ℕ}
use mathlib.Core.Path.{◌≡◌, refl, sym, ap, ◌∙◌}
use mathlib.Core.Logic.{◌↔◌}
use mathlib.Core.Bool.{Bool, true, false, false≢true}
use mathlib.Core.List.{List, [], ◌∷◌, ◌++◌}
use Rattle.ground.specs.Choose.{choose}
use Rattle.refusal.specs.Refusal.{refuses, gives, ruled, Told}
use Rattle.refusal.specs.declared.Refusal.{Refusal}
use Rattle.refusal.proofs.Numbers.{told_values, same_refused, gives_not}

-- none of the rules holds
abbrev pub Passed : List (Bool × Refusal) → Type 0
Passed [] = Unit {0}
Passed (rule ∷ rules) = (rule.0 ≡ false) × Passed rules

-- where none of two lists of rules holds, one after the other, none of either does
pub passed_both : (rules more : List (Bool × Refusal)) → Passed (rules ++ more) → Passed rules × Passed more
passed_both [] more h = (tt, h)
passed_both (rule ∷ rules) more h = let rest = passed_both rules more h.1 in ((h.0, rest.0), rest.1)

-- where none of the first holds, the second decide
pub passed_on {ℓ} : {A : Type ℓ} (rules more : List (Bool × Refusal)) (f : Refusal → A) (v : A) → Passed rules → ruled (rules ++ more) f v ≡ ruled more f v
unfolding choose
passed_on [] more f v h = refl
passed_on (rule ∷ rules) more f v h = rw h.0 (passed_on rules more f v h.1)

-- where none holds the value stands
pub passed {ℓ} : {A : Type ℓ} (rules : List (Bool × Refusal)) (f : Refusal → A) (v : A) → Passed rules → ruled rules f v ≡ v
unfolding choose
passed [] f v h = refl
passed (rule ∷ rules) f v h = rw h.0 (passed rules f v h.1)

-- whether none holds can be told
pub whether : (rules : List (Bool × Refusal)) → Dec (Passed rules)
whether [] = yes tt
whether (rule ∷ rules) = go rule.0 refl (whether rules)
  where
    go : (b : Bool) → rule.0 ≡ b → Dec (Passed rules) → Dec (Passed (rule ∷ rules))
    go true e rest = no (λ p. false≢true (sym p.0 ∙ e))
    go false e (yes p) = yes (e, p)
    go false e (no h) = no (λ p. h p.1)

-- where some rule holds, what stands behind them does not matter
pub stopped {ℓ} : {A : Type ℓ} (rules more : List (Bool × Refusal)) (f : Refusal → A) (v u : A) → (Passed rules → ⊥) → ruled (rules ++ more) f v ≡ ruled rules f u
unfolding choose
stopped [] more f v u h = absurd (h tt)
stopped (rule ∷ rules) more f v u h = go (stopped rules more f v u) rule.0 refl
  where
    go : ((Passed rules → ⊥) → ruled (rules ++ more) f v ≡ ruled rules f u) → (b : Bool) → rule.0 ≡ b → choose b (f rule.1) (ruled (rules ++ more) f v) ≡ choose b (f rule.1) (ruled rules f u)
    go rest true e = refl
    go rest false e = rest (λ p. h (e, p))

-- every rule says this refusal
abbrev pub Says : List (Bool × Refusal) → Refusal → Type 0
Says [] q = Unit {0}
Says (rule ∷ rules) q = (rule.1 ≡ q) × Says rules q

-- where all say the same and some rule holds, it is said
pub said {ℓ} : {A : Type ℓ} (rules : List (Bool × Refusal)) (q : Refusal) (f : Refusal → A) (v : A) → Says rules q → (Passed rules → ⊥) → ruled rules f v ≡ f q
unfolding choose
said [] q f v s h = absurd (h tt)
said (rule ∷ rules) q f v s h = go (said rules q f v s.1) rule.0 refl
  where
    go : ((Passed rules → ⊥) → ruled rules f v ≡ f q) → (b : Bool) → rule.0 ≡ b → choose b (f rule.1) (ruled rules f v) ≡ f q
    go rest true e = ap f s.0
    go rest false e = rest (λ p. h (e, p))

-- an answer of which something holds that holds of no refusal passed every rule
pub unrefused {ℓ κ} : {A : Type ℓ} (Accepted : A → Type κ) (rules : List (Bool × Refusal)) (f : Refusal → A) (v : A) → ((q : Refusal) → Accepted (f q) → ⊥) → Accepted (ruled rules f v) → Passed rules
unfolding choose
unrefused Accepted [] f v never h = tt
unrefused Accepted (rule ∷ rules) f v never h = go (unrefused Accepted rules f v never) rule.0 refl h
  where
    go : (Accepted (ruled rules f v) → Passed rules) → (b : Bool) → rule.0 ≡ b → Accepted (choose b (f rule.1) (ruled rules f v)) → Passed (rule ∷ rules)
    go rest true e h = absurd (never rule.1 h)
    go rest false e h = (e, rest h)

-- an answer that gives values passed every rule, and they are its values
pub gave : (rules : List (Bool × Refusal)) (us vs : List ℕ) → ruled rules refuses (gives us) ≡ gives vs → Passed rules × (us ≡ vs)
gave rules us vs h = (ok, told_values (sym (passed rules refuses (gives us) ok) ∙ h))
  where
    ok : Passed rules
    ok = unrefused (λ (t : Told). t ≡ gives vs) rules refuses (gives us) (λ q e. gives_not vs q (sym e)) h

-- an answer that refuses does so for anything that the same rules guard
pub refused {ℓ} : {A : Type ℓ} (rules : List (Bool × Refusal)) (us : List ℕ) (f : Refusal → A) (v : A) (q : Refusal) → ruled rules refuses (gives us) ≡ refuses q → ruled rules f v ≡ f q
unfolding choose
refused [] us f v q h = absurd (gives_not us q h)
refused (rule ∷ rules) us f v q h = go (refused rules us f v q) rule.0 h
  where
    go : (ruled rules refuses (gives us) ≡ refuses q → ruled rules f v ≡ f q) → (b : Bool) → choose b (refuses rule.1) (ruled rules refuses (gives us)) ≡ refuses q → choose b (f rule.1) (ruled rules f v) ≡ f q
    go rest true e = ap f (same_refused rule.1 q e)
    go rest false e = rest e

-- what is read off an answer by rules is ruled by the same rules
pub ruled_through {ℓ κ} : {A : Type ℓ} {B : Type κ} (g : A → B) (rules : List (Bool × Refusal)) (f : Refusal → A) (v : A) → g (ruled rules f v) ≡ ruled rules (λ r. g (f r)) (g v)
unfolding choose
ruled_through g [] f v = refl
ruled_through g (rule ∷ rules) f v = go rule.0 (ruled_through g rules f v)
  where
    go : (b : Bool) → g (ruled rules f v) ≡ ruled rules (λ r. g (f r)) (g v) → g (choose b (f rule.1) (ruled rules f v)) ≡ choose b (g (f rule.1)) (ruled rules (λ r. g (f r)) (g v))
    go true e = refl
    go false e = e

-- no rule says this refusal
abbrev pub Unsaid : List (Bool × Refusal) → Refusal → Type 0
Unsaid [] q = Unit {0}
Unsaid (rule ∷ rules) q = (rule.1 ≡ q → ⊥) × Unsaid rules q

-- when a number is given, where refusing tells the refusals apart and the value is no refusal
module _ {ℓ} {A : Type ℓ} (f : Refusal → A) (v : A) (apart : (r q : Refusal) → f r ≡ f q → r ≡ q) (value : (q : Refusal) → v ≡ f q → ⊥) where
  -- never where no rule says it
  pub refused_not : (rules : List (Bool × Refusal)) (q : Refusal) → Unsaid rules q → ruled rules f v ≡ f q → ⊥
  unfolding choose
  refused_not [] q u e = value q e
  refused_not (rule ∷ rules) q u e = go rule.0 (refused_not rules q u.1) e
    where
      go : (b : Bool) → (ruled rules f v ≡ f q → ⊥) → choose b (f rule.1) (ruled rules f v) ≡ f q → ⊥
      go true rest h = u.0 (apart rule.1 q h)
      go false rest h = rest h

  -- that of the first rule, where no other says it: exactly when the rule holds
  pub refused_first : (b : Bool) (r : Refusal) (rules : List (Bool × Refusal)) → Unsaid rules r → (ruled ((b, r) ∷ rules) f v ≡ f r) ↔ (b ≡ true)
  unfolding choose
  refused_first b r rules u = (only b, λ e. rw e refl)
    where
      only : (b : Bool) → choose b (f r) (ruled rules f v) ≡ f r → b ≡ true
      only true h = refl
      only false h = absurd (refused_not rules r u h)

  -- any other: exactly when the first rule does not hold and the later rules give it
  pub refused_later : (b : Bool) (r : Refusal) (rules : List (Bool × Refusal)) (q : Refusal) → (r ≡ q → ⊥) → (ruled ((b, r) ∷ rules) f v ≡ f q) ↔ ((b ≡ false) × (ruled rules f v ≡ f q))
  unfolding choose
  refused_later b r rules q differ = (only b, λ h. rw h.0 h.1)
    where
      only : (b : Bool) → choose b (f r) (ruled rules f v) ≡ f q → (b ≡ false) × (ruled rules f v ≡ f q)
      only true h = absurd (differ (apart r q h))
      only false h = (refl, h)

  -- one that only later rules say: none of the first holds, and the later give it
  pub refused_beyond : (rules more : List (Bool × Refusal)) (q : Refusal) → Unsaid rules q → ruled (rules ++ more) f v ≡ f q → Passed rules × (ruled more f v ≡ f q)
  refused_beyond [] more q u e = (tt, e)
  refused_beyond (rule ∷ rules) more q u e =
      let first = (refused_later rule.0 rule.1 (rules ++ more) q u.0).0 e in
      let rest = refused_beyond rules more q u.1 first.1 in
      ((first.0, rest.0), rest.1)

-- nothing is refused exactly when no rule holds, in any reading of that which fits the value and no refusal
pub accepted_exactly {ℓ κ} : {A : Type ℓ} (Accepted : A → Type κ) (f : Refusal → A) (v : A) → Accepted v → ((q : Refusal) → Accepted (f q) → ⊥) → (rules : List (Bool × Refusal)) → Accepted (ruled rules f v) ↔ Passed rules
accepted_exactly Accepted f v value never rules = (unrefused Accepted rules f v never, λ h. rw (passed rules f v h) value)

-- what holds of each refusal that a rule says, where it holds and those before it do not
abbrev pub Each {ℓ} : (Refusal → Type ℓ) → List (Bool × Refusal) → Type ℓ
Each Q [] = Unit
Each Q (rule ∷ rules) = (rule.0 ≡ true → Q rule.1) × (rule.0 ≡ false → Each Q rules)

-- what holds of every refusal
pub each {ℓ} : {Q : Refusal → Type ℓ} → ((r : Refusal) → Q r) → (rules : List (Bool × Refusal)) → Each Q rules
each q [] = tt
each q (rule ∷ rules) = ((λ h. q rule.1), (λ h. each q rules))

-- what holds of each of them, and of the value where no rule holds, holds of whatever the rules give
pub by_rules {ℓ κ} : {A : Type ℓ} (P : A → Type κ) (rules : List (Bool × Refusal)) (f : Refusal → A) (v : A) → Each (λ r. P (f r)) rules → (Passed rules → P v) → P (ruled rules f v)
unfolding choose
by_rules P [] f v e h = h tt
by_rules P (rule ∷ rules) f v e h = go (by_rules P rules f v) rule.0 refl
  where
    go : (Each (λ r. P (f r)) rules → (Passed rules → P v) → P (ruled rules f v)) → (b : Bool) → rule.0 ≡ b → P (choose b (f rule.1) (ruled rules f v))
    go rest true q = e.0 q
    go rest false q = rest (e.1 q) (λ passed. h (q, passed))
