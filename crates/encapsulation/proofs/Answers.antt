-- What is answered of an opened message: what an answer is held to, and that only one meets it.
use Prim.Native.Nat.{ℕ}
use mathlib.Core.Path.{◌≡◌, refl, sym, ap, ◌∙◌}
use mathlib.Core.List.{List, ◌∷◌, []}
use lib.ListN.{length, get_or}
use Rattle.std.specs.Prelude.{Result, Ok, Err, IfOk}
use Rattle.refusal.specs.declared.Refusal.{Refusal}
use Rattle.refusal.proofs.Numbers.{told_values, same_refused, gives_not}
use Rattle.encapsulation.specs.declared.Level.{Level}
use Rattle.encapsulation.specs.declared.Unwrapped.{Unwrapped}
use Rattle.encapsulation.specs.Message.{Message}
use Rattle.encapsulation.specs.Unwrap.{Opened, plain, refused}
use Rattle.encapsulation.specs.Answer.{inside_values, told_inside, told_opened, levels_in}
use Rattle.encapsulation.specs.Making.{answer_of}

-- what an answer is held to: that it says what opening came to, and has its levels
abbrev pub Answers : Result Unwrapped Refusal → Opened → Type 0
Answers r f = (told_inside r ≡ told_opened f) × IfOk r (λ u. u.levels ≡ levels_in f)

answer : (f : Opened) → Answers (answer_of f) f
answer (plain ls m) = (refl, refl)
answer (refused r) = (refl, tt)

pub answers : (r : Result Unwrapped Refusal) (f : Opened) → r ≡ answer_of f → Answers r f
answers r f e = rw e (answer f)

-- only one answer meets it
pub answered : (r : Result Unwrapped Refusal) (f : Opened) → Answers r f → r ≡ answer_of f
answered (Ok u) (plain ls m) a = λ i. Ok (record { levels = a.1 i; depth = at 0 i; message = at 1 i; packet = at 2 i; length = at 3 i })
  where
    at : (j : ℕ) → get_or (inside_values u) j 0 ≡ get_or (length ls ∷ m.message ∷ m.packet ∷ length m.payload ∷ []) j 0
    at j = ap (λ (l : List ℕ). get_or l j 0) (told_values a.0)
answered (Ok u) (refused q) a = absurd (gives_not _ q a.0)
answered (Err r) (plain ls m) a = absurd (gives_not _ r (sym a.0))
answered (Err r) (refused q) a = ap Err (same_refused r q a.0)

pub same_answer : (r q : Result Unwrapped Refusal) (f : Opened) → Answers r f → Answers q f → r ≡ q
same_answer r q f a b = answered r f a ∙ sym (answered q f b)

-- what opening comes to is told apart by what is said of it
pub same_opened : (r q : Refusal) → refused r ≡ refused q → r ≡ q
same_opened r q e = same_refused r q (ap told_opened e)

pub plain_not : (ls : List Level) (m : Message) (q : Refusal) → plain ls m ≡ refused q → ⊥
plain_not ls m q e = gives_not _ q (ap told_opened e)
