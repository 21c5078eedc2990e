-- The laws of choices and of tests joined by `and`.
use mathlib.Core.Path.{◌≡◌, refl, ◌∙◌, sym}
use mathlib.Core.Bool.{Bool, true, false, ◌&&◌, ◌||◌, not, false≢true}
use mathlib.Core.Logic.{◌⊎◌, inl, inr}
use borrow.Author.Rules.{rules}
use borrow.Author.Tests.{lt-ltb, le-ltb, le-leb, lt-leb, eq-eqb, ne_eqb}
use Rattle.ground.specs.Choose.{choose}

pub choose_yes {ℓ} : {A : Type ℓ} (t : Bool) (x a b : A) → t ≡ true → x ≡ a → x ≡ choose t a b
unfolding choose
choose_yes t x a b h e = rw h e

pub choose_no {ℓ} : {A : Type ℓ} (t : Bool) (x a b : A) → t ≡ false → x ≡ b → x ≡ choose t a b
unfolding choose
choose_no t x a b h e = rw h e

-- the same, where the test is what a call gave
pub yes {ℓ} : {A : Type ℓ} {r t : Bool} {x a : A} (b : A) → r ≡ t → r ≡ true → x ≡ a → x ≡ choose t a b
yes {t = t} {x} {a} b e h l = choose_yes t x a b (sym e ∙ h) l

pub no {ℓ} : {A : Type ℓ} {r t : Bool} {x b : A} (a : A) → r ≡ t → r ≡ false → x ≡ b → x ≡ choose t a b
no {t = t} {x} {b} a e h l = choose_no t x a b (sym e ∙ h) l

-- a choice computes where its test is known
pub chosen {ℓ} : {A : Type ℓ} (a b : A) → choose true a b ≡ a
unfolding choose
chosen a b = refl

pub unchosen {ℓ} : {A : Type ℓ} (a b : A) → choose false a b ≡ b
unfolding choose
unchosen a b = refl

-- what is made of a choice is a choice of what is made of each
pub of_choice {ℓ κ} : {A : Type ℓ} {B : Type κ} (f : A → B) (t : Bool) (a b : A) → f (choose t a b) ≡ choose t (f a) (f b)
unfolding choose
of_choice f true a b = refl
of_choice f false a b = refl

pub and_yes : (a b x : Bool) → a ≡ true → x ≡ b → x ≡ (a && b)
and_yes a b x h e = rw h e

pub and_no : (a b : Bool) → a ≡ false → false ≡ (a && b)
and_no a b h = rw h refl

pub both : (a b : Bool) → a ≡ true → b ≡ true → (a && b) ≡ true
both a b h e = rw (h, e) refl

pub not_left : (a b : Bool) → a ≡ false → (a && b) ≡ false
not_left a b h = rw h refl

pub not_right : (a b : Bool) → b ≡ false → (a && b) ≡ false
not_right true b h = h
not_right false b h = refl

pub and_left : (a b : Bool) → (a && b) ≡ true → a ≡ true
and_left true b h = refl
and_left false b h = h

pub and_right : (a b : Bool) → (a && b) ≡ true → b ≡ true
and_right true b h = h
and_right false b h = absurd (false≢true h)

pub or_left : (a b : Bool) → a ≡ true → (a || b) ≡ true
or_left a b h = rw h refl

pub or_right : (a b : Bool) → b ≡ true → (a || b) ≡ true
or_right true b h = refl
or_right false b h = h

pub either : (a b : Bool) → (a || b) ≡ true → (a ≡ true) ⊎ (b ≡ true)
either true b h = inl refl
either false b h = inr h

pub neither : (a b : Bool) → (a || b) ≡ false → (a ≡ false) × (b ≡ false)
neither true b h = absurd (false≢true (sym h))
neither false b h = (refl, h)

-- a test or false, and a test and true, is the test
pub or_none : (b : Bool) → (b || false) ≡ b
or_none true = refl
or_none false = refl

pub and_all : (b : Bool) → (b && true) ≡ b
and_all true = refl
and_all false = refl

pub not_yes : (b : Bool) → b ≡ false → not b ≡ true
not_yes b h = rw h refl

pub not_no : (b : Bool) → b ≡ true → not b ≡ false
not_no b h = rw h refl

-- a test that cannot hold fails
pub never : (b : Bool) → (b ≡ true → ⊥) → b ≡ false
never true h = absurd (h refl)
never false h = refl

-- two tests are one where each follows from the other
pub alike : (a b : Bool) → (a ≡ true → b ≡ true) → (b ≡ true → a ≡ true) → a ≡ b
alike true b f g = sym (f refl)
alike false b f g = sym (never b (λ e. false≢true (g e)))

-- what closes a return after tests, where the contract chooses by those tests
pub ruleset tests = (rules, choose_yes, choose_no, and_yes, and_no, both, not_left, not_right, not_yes, not_no, lt-ltb, le-ltb, le-leb, lt-leb, eq-eqb, ne_eqb)
