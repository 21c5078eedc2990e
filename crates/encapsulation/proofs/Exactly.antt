-- What opening a message comes to, exactly when: one law over the depth for the plain message and for each refusal. So writing and reading agree at each level.
use Prim.Native.Nat.{ℕ, zero, suc, ◌+◌, ◌-◌, ◌≤◌, ◌<◌}
use native.Mathlib.Omega.{arith}
use mathlib.Core.Path.{◌≡◌, refl, sym, ap, ◌∙◌, subst}
use mathlib.Core.Logic.{◌↔◌, ◌⊎◌, inl, inr}
use mathlib.Core.Bool.{Bool, true, false}
use mathlib.Core.List.{List, [], ◌∷◌, ◌++◌, append-nil}
use lib.ListN.{length, drop, length-drop, take-append-drop}
use borrow.Author.Tests.{le-ltb, eqb-true, eq-eqb, not-false}
use Rattle.ground.specs.Below.{up_from}
use Rattle.ground.proofs.Choices.{not_no}
use Rattle.ground.proofs.Runs.{run_read}
use Rattle.refusal.specs.Refusal.{number_of}
use Rattle.refusal.specs.declared.Refusal.{Refusal}
use Rattle.refusal.specs.declared.Refusal.TheVariants.{BadInner, TooDeep}
use Rattle.refusal.proofs.Rules.{Passed, whether}
use Rattle.frame.specs.Frame.{byte}
use Rattle.encapsulation.specs.declared.Level.{Level}
use Rattle.encapsulation.specs.Message.{Message, message_bytes, encapsulation, is_encapsulation, opening, around, wrapped}
use Rattle.encapsulation.specs.Unwrap.{Opened, plain, refused, under, level_of, inner_of, inner_rules, opened_inside, opened}
use Rattle.encapsulation.proofs.Laws.{plain_opened, deep_opened, inner_opened, bad_inner, whole_inner}

-- the payload of an encapsulation around a message is whole
around_whole : (l : Level) (m : Message) → Passed (inner_rules (around l m).payload)
around_whole l m = (le-ltb (length (around l m).payload) 7 (omega arith), (not_no _ (eq-eqb (length (around l m).payload) (7 + length m.payload) (omega arith)), tt))

-- an encapsulation whose payload is whole is one around the message that is inside
whole_around : (m : Message) → is_encapsulation m ≡ true → Passed (inner_rules m.payload) → m ≡ around (level_of m.packet m.payload) (inner_of m.payload)
unfolding up_from
whole_around m h ok = λ i. record { message = eqb-true m.message encapsulation h i; packet = m.packet; payload = bytes i }
  where
    p : List ℕ
    p = m.payload

    long : length p ≡ 7 + byte p 6
    long = eqb-true _ _ (not-false _ ok.1.0)

    rest : byte p 6 ≡ length (drop 7 p)
    rest = omega (arith, length-drop 7 p, long)

    bytes : p ≡ opening (level_of m.packet p) ++ message_bytes (inner_of p)
    bytes = sym (take-append-drop 7 p) ∙ ap (λ (x : List ℕ). x ++ drop 7 p) (run_read p 0 7 (omega (arith, long))) ∙ ap (λ (n : ℕ). byte p 0 ∷ byte p 1 ∷ byte p 2 ∷ byte p 3 ∷ byte p 4 ∷ byte p 5 ∷ n ∷ drop 7 p) rest

-- with a level left, an encapsulation around a message opens as the message does, with the level around it
around_opened : (l : Level) (m : Message) (left : ℕ) → opened (suc left) (around l m) ≡ under l (opened left m)
around_opened l m left = inner_opened (suc left) (around l m) refl (λ e. omega arith) ∙ rw (let e : suc left - 1 ≡ left = omega arith in e) (whole_inner (opened left) l.packet (around l m).payload (around_whole l m))

-- an opened message, with all these levels around it
abbrev in_all : List Level → Opened → Opened
in_all ls (plain ks m) = plain (ls ++ ks) m
in_all ls (refused r) = refused r

in_none : (f : Opened) → f ≡ in_all [] f
in_none (plain ks m) = refl
in_none (refused r) = refl

in_more : (l : Level) (ls : List Level) (f : Opened) → under l (in_all ls f) ≡ in_all (l ∷ ls) f
in_more l ls (plain ks m) = refl
in_more l ls (refused r) = refl

-- the reader goes through the levels of a wrapped message to what is inside, each level taking one of those that are left
opened_through : (ls : List Level) (m : Message) (n left : ℕ) → left ≡ length ls + n → opened left (wrapped ls m) ≡ in_all ls (opened n m)
unfolding wrapped
opened_through [] m n left e = ap (λ (k : ℕ). opened k m) (let z : left ≡ n = omega arith in z) ∙ in_none (opened n m)
opened_through (l ∷ ls) m n zero e = absurd (let z : ⊥ = omega arith in z)
opened_through (l ∷ ls) m n (suc left) e = around_opened l (wrapped ls m) left ∙ ap (under l) (opened_through ls m n left (omega arith)) ∙ in_more l ls (opened n m)

-- a message that lies in these levels
abbrev pub LiesIn : List Level → Message → Message → Type 0
LiesIn ls inner m = m ≡ wrapped ls inner

-- an encapsulation lies in some levels of a message, and this holds of the levels and of it
abbrev pub Holding : Message → (List Level → Message → Type 0) → Type 0
Holding m P = (ls : List Level) × ((inner : Message) × (LiesIn ls inner m × ((is_encapsulation inner ≡ true) × P ls inner)))

-- its payload is not code, operands and one whole message
abbrev pub Broken : Message → Type 0
Broken inner = Passed (inner_rules inner.payload) → ⊥

-- why a message is refused: the encapsulation in its levels has none left, or is not whole
abbrev Why : ℕ → List Level → Message → Refusal → Type 0
Why left ls inner r = ((r ≡ TooDeep) × (length ls ≡ left)) ⊎ ((r ≡ BadInner) × ((length ls < left) × Broken inner))

-- what opening a message says of it: the plain message lies in these levels, of which there are no more than were left; or an encapsulation in it could not be opened
abbrev Says : ℕ → Message → Opened → Type 0
Says left m (plain ls inner) = LiesIn ls inner m × ((is_encapsulation inner ≡ false) × (length ls ≤ left))
Says left m (refused r) = Holding m (λ ls inner. Why left ls inner r)

-- one level more around all of it
says_under : (l : Level) (m : Message) (left : ℕ) (f : Opened) → Says left m f → Says (suc left) (around l m) (under l f)
unfolding wrapped
says_under l m left (plain ls inner) s = (ap (around l) s.0, (s.1.0, omega (arith, s.1.1)))
says_under l m left (refused r) (ls, (inner, (lies, (holds, why)))) = (l ∷ ls, (inner, (ap (around l) lies, (holds, go why))))
  where
    go : Why left ls inner r → Why (suc left) (l ∷ ls) inner r
    go (inl (e, n)) = inl (e, ap suc n)
    go (inr (e, (n, bad))) = inr (e, (omega arith, bad))

-- whatever it comes to, it says so
opened_says : (left : ℕ) (m : Message) → Says left m (opened left m)
unfolding wrapped
opened_says zero m = go (is_encapsulation m) refl
  where
    go : (b : Bool) → is_encapsulation m ≡ b → Says 0 m (opened 0 m)
    go true e = rw (deep_opened 0 m e refl) ([], (m, (refl, (e, inl (refl, refl)))))
    go false e = rw (plain_opened 0 m e) (refl, (e, omega arith))
opened_says (suc left) m = go (is_encapsulation m) refl (whether (inner_rules m.payload)) (opened_says left (inner_of m.payload))
  where
    l : Level
    l = level_of m.packet m.payload

    within : is_encapsulation m ≡ true → opened (suc left) m ≡ opened_inside (opened left) m.packet m.payload
    within e = inner_opened (suc left) m e (λ z. omega arith) ∙ ap (λ (k : ℕ). opened_inside (opened k) m.packet m.payload) (let z : suc left - 1 ≡ left = omega arith in z)

    go : (b : Bool) → is_encapsulation m ≡ b → Dec (Passed (inner_rules m.payload)) → Says left (inner_of m.payload) (opened left (inner_of m.payload)) → Says (suc left) m (opened (suc left) m)
    go true e (yes ok) s = rw (within e, whole_inner (opened left) m.packet m.payload ok) (subst (λ (x : Message). Says (suc left) x (under l (opened left (inner_of m.payload)))) (sym (whole_around m e ok)) (says_under l (inner_of m.payload) left (opened left (inner_of m.payload)) s))
    go true e (no bad) s = rw (within e, bad_inner (opened left) m.packet m.payload bad) ([], (m, (refl, (e, inr (refl, (omega arith, bad))))))
    go false e d s = rw (plain_opened (suc left) m e) (refl, (e, omega arith))

-- "writing and reading agree at each level": a plain message is found exactly in the levels that it was wrapped in, no more than are left
pub opened_exactly : (left : ℕ) (m : Message) (ls : List Level) (inner : Message) → (opened left m ≡ plain ls inner) ↔ (LiesIn ls inner m × ((is_encapsulation inner ≡ false) × (length ls ≤ left)))
opened_exactly left m ls inner = ((λ e. subst (Says left m) e (opened_says left m)), λ h. ap (opened left) h.0 ∙ opened_through ls inner (left - length ls) left (omega (arith, h.1.1)) ∙ ap (in_all ls) (plain_opened (left - length ls) inner h.1.0) ∙ ap (λ (ks : List Level). plain ks inner) (append-nil ls))

-- 31 is given exactly where an encapsulation lies in as many levels as there may be, whatever it holds
pub too_deep_exactly : (left : ℕ) (m : Message) → (opened left m ≡ refused TooDeep) ↔ Holding m (λ ls inner. length ls ≡ left)
too_deep_exactly left m = ((λ e. only (subst (Says left m) e (opened_says left m))), given)
  where
    only : Says left m (refused TooDeep) → Holding m (λ ls inner. length ls ≡ left)
    only (ls, (inner, (lies, (holds, inl (e, n))))) = (ls, (inner, (lies, (holds, n))))
    only (ls, (inner, (lies, (holds, inr (e, rest))))) = absurd (let z : ⊥ = omega (arith, ap number_of e) in z)

    given : Holding m (λ ls inner. length ls ≡ left) → opened left m ≡ refused TooDeep
    given (ls, (inner, (lies, (holds, n)))) = ap (opened left) lies ∙ opened_through ls inner 0 left (omega arith) ∙ ap (in_all ls) (deep_opened 0 inner holds refl)

-- 30 exactly where one lies in fewer, and its payload is not code, operands and one whole message
pub bad_inner_exactly : (left : ℕ) (m : Message) → (opened left m ≡ refused BadInner) ↔ Holding m (λ ls inner. (length ls < left) × Broken inner)
bad_inner_exactly left m = ((λ e. only (subst (Says left m) e (opened_says left m))), given)
  where
    only : Says left m (refused BadInner) → Holding m (λ ls inner. (length ls < left) × Broken inner)
    only (ls, (inner, (lies, (holds, inl (e, n))))) = absurd (let z : ⊥ = omega (arith, ap number_of e) in z)
    only (ls, (inner, (lies, (holds, inr (e, rest))))) = (ls, (inner, (lies, (holds, rest))))

    given : Holding m (λ ls inner. (length ls < left) × Broken inner) → opened left m ≡ refused BadInner
    given (ls, (inner, (lies, (holds, (n, bad))))) = ap (opened left) lies ∙ opened_through ls inner (left - length ls) left (omega arith) ∙ ap (in_all ls) (inner_opened (left - length ls) inner holds (λ z. omega arith) ∙ bad_inner (opened (left - length ls - 1)) inner.packet inner.payload bad)

-- and nothing else is: a message that is no plain one in its levels gets 30 or 31
pub only_these : (left : ℕ) (m : Message) (r : Refusal) → opened left m ≡ refused r → (r ≡ TooDeep) ⊎ (r ≡ BadInner)
only_these left m r e = go (subst (Says left m) e (opened_says left m))
  where
    go : Says left m (refused r) → (r ≡ TooDeep) ⊎ (r ≡ BadInner)
    go (ls, (inner, (lies, (holds, inl (q, n))))) = inl q
    go (ls, (inner, (lies, (holds, inr (q, rest))))) = inr q
