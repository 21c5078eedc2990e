-- The numbers tell the refusals apart. Which refusals there are is gone through once, in `placed`; the other laws follow from it.
use Prim.Native.Nat.{ℕ, ◌-◌, ◌≤◌, ◌<◌}
use mathlib.Core.Path.{◌≡◌, refl, sym, ap, ◌∙◌}
use mathlib.Core.Bool.{Bool, true, false}
use mathlib.Core.List.{List, [], ◌∷◌}
use lib.Dec.{ltb}
use lib.ListN.{get_or, get_or-eq_default}
use borrow.Author.Tests.{ltb-true, ltb-false}
use native.Mathlib.Omega.{arith}
use Rattle.std.specs.Prelude.{Result, Ok, Err, IsErrAnd}
use Rattle.refusal.specs.Refusal.{number_of, refuses, gives, says, counts, Told}
use Rattle.refusal.specs.declared.Refusal.{Refusal}
use Rattle.refusal.specs.declared.Refusal.TheVariants.{Short, OverLong, LengthMismatch, BadChecksum, NotForUs, NotAwaited, UnexpectedType, BadEcho, BadMethod, PayloadTooLong, NoRoom, BadType, BadMac, Busy, Held, Full, AwaitingReply, NobodyListed, NotWaiting, BadPool, StateUnfit, NotDiscovering, OtherSubnet, TooManyTypes, BadLength, NoSlot, BadInner, TooDeep, BadTextLength, BadText}

-- the refusals in the order of their numbers; at 17, 28 and 29, which are none's, stands the first again
listed : List Refusal
listed =
    Short ∷ OverLong ∷ LengthMismatch ∷ BadChecksum ∷ NotForUs ∷ NotAwaited ∷ UnexpectedType ∷ BadEcho ∷ BadMethod ∷ PayloadTooLong ∷ NoRoom ∷ BadType ∷ BadMac ∷ Busy ∷ Held ∷ Full ∷ Short ∷ AwaitingReply ∷ NobodyListed ∷ NotWaiting ∷ BadPool ∷ StateUnfit ∷ NotDiscovering ∷ OtherSubnet ∷ TooManyTypes ∷ BadLength ∷ NoSlot ∷ Short ∷ Short ∷ BadInner ∷ TooDeep ∷ BadTextLength ∷ BadText ∷ []

-- the refusal that a number names; a number that is none's names the first
pub refusal_of : ℕ → Refusal
refusal_of n = get_or listed (n - 1) Short

-- a refusal stands in that list where its number says
pub placed : (r : Refusal) → refusal_of (number_of r) ≡ r
unfolding listed refusal_of
placed Short = refl
placed OverLong = refl
placed LengthMismatch = refl
placed BadChecksum = refl
placed NotForUs = refl
placed NotAwaited = refl
placed UnexpectedType = refl
placed BadEcho = refl
placed BadMethod = refl
placed PayloadTooLong = refl
placed NoRoom = refl
placed BadType = refl
placed BadMac = refl
placed Busy = refl
placed Held = refl
placed Full = refl
placed AwaitingReply = refl
placed NobodyListed = refl
placed NotWaiting = refl
placed BadPool = refl
placed StateUnfit = refl
placed NotDiscovering = refl
placed OtherSubnet = refl
placed TooManyTypes = refl
placed BadLength = refl
placed NoSlot = refl
placed BadInner = refl
placed TooDeep = refl
placed BadTextLength = refl
placed BadText = refl

pub same_number : (r q : Refusal) → number_of r ≡ number_of q → r ≡ q
same_number r q h = sym (placed r) ∙ ap refusal_of h ∙ placed q

-- a number that some refusal has is the number of the refusal that it names
named : (n : ℕ) (r : Refusal) → number_of r ≡ n → number_of (refusal_of n) ≡ n
named n r h = ap (λ (m : ℕ). number_of (refusal_of m)) (sym h) ∙ ap number_of (placed r) ∙ h

-- no refusal has the number 0, by which an answer that refuses is told from one that does not
pub not_zero : (r : Refusal) → number_of r ≡ 0 → ⊥
unfolding listed refusal_of
not_zero r h = omega (arith, named 0 r h)

-- nor 17, which is retired: so no answer carries it, whatever is lent (02, C-23)
pub not_seventeen : (r : Refusal) → number_of r ≡ 17 → ⊥
unfolding listed refusal_of
not_seventeen r h = omega (arith, named 17 r h)

-- nor one past the end of the list, so that a number is a byte
pub number_byte : (r : Refusal) → number_of r < 256
unfolding listed refusal_of
number_byte r = go (ltb (number_of r) 256) refl
  where
    past : 256 ≤ number_of r → ⊥
    past l = omega (arith, l, ap number_of (sym (get_or-eq_default listed Short {n = number_of r - 1} (omega (arith, l))) ∙ placed r))

    go : (b : Bool) → ltb (number_of r) 256 ≡ b → number_of r < 256
    go true e = ltb-true (number_of r) 256 e
    go false e = absurd (past (ltb-false (number_of r) 256 e))

-- two answers that say the same have one number and the same values
pub told_number : {a b : Told} → a ≡ b → a.number ≡ b.number
told_number e = ap (λ (t : Told). t.number) e

pub told_values : {a b : Told} → a ≡ b → a.values ≡ b.values
told_values e = ap (λ (t : Told). t.values) e

-- two that refuse and say the same refuse the same
pub same_refused : (r q : Refusal) → refuses r ≡ refuses q → r ≡ q
same_refused r q h = same_number r q (told_number h)

-- and one that gives values refuses nothing
pub gives_not : (vs : List ℕ) (q : Refusal) → gives vs ≡ refuses q → ⊥
gives_not vs q e = not_zero q (sym (told_number e))

-- two answers that say the same are the same, where the numbers of a value tell the value
pub same_said : {A : Type 0} (values : A → List ℕ) → ((x y : A) → values x ≡ values y → x ≡ y) → (r q : Result A Refusal) → says values r ≡ says values q → r ≡ q
same_said values tell (Ok x) (Ok y) e = ap Ok (tell x y (told_values e))
same_said values tell (Ok x) (Err q) e = absurd (gives_not _ q e)
same_said values tell (Err r) (Ok y) e = absurd (gives_not _ r (sym e))
same_said values tell (Err r) (Err q) e = ap Err (same_refused r q e)

pub same_counts : (r q : Result ℕ Refusal) → counts r ≡ counts q → r ≡ q
same_counts = same_said (λ n. n ∷ []) (λ n m e. ap (λ (l : List ℕ). get_or l 0 0) e)

-- what a `?` hands on is the refusal
pub exit : {A : Type 0} (r : Result A Refusal) (q : Refusal) → IsErrAnd r (λ y. y ≡ q) → r ≡ Err q
exit (Ok x) q h = absurd h
exit (Err y) q h = ap Err h
