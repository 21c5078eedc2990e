-- A phase that a step makes is the phase of its numbers, and the numbers 0 to 13 are those of a phase that a step makes.
use Prim.Native.Nat.{ℕ, zero, suc, ◌≤◌, ◌<◌}
use native.Mathlib.Omega.{arith}
use mathlib.Core.Path.{◌≡◌, refl, sym, ap, subst, ◌∙◌}
use mathlib.Core.Bool.{Bool, true, false}
use lib.Dec.{eqb, leb}
use borrow.Author.Tests.{ne_eqb, leb-true, leb-false}
use Rattle.ground.specs.Choose.{choose}
use Rattle.coordinator.specs.declared.Exchange.{Exchange}
use Rattle.coordinator.specs.declared.Exchange.TheVariants.{Offer, List as Listing, Forward, Return}
use Rattle.coordinator.specs.declared.Part.{Part}
use Rattle.coordinator.specs.declared.Part.TheVariants.{Search, IdentifyDue, Identify, Present, AssignDue, Assign}
use Rattle.coordinator.specs.declared.Phase.{Phase}
use Rattle.coordinator.specs.declared.Phase.TheVariants.{Resting, Awaiting, ForwardDue, ReturnDue, Seeking, Unknown}
use Rattle.coordinator.specs.declared.Stand.{Stand}
use Rattle.coordinator.specs.Phase.{phase_at, phase_of, stand_of}

-- the phases that a step makes: only a forward's wait names a requester, and only there an ACK may have come
pub data Made : Phase → Type 0 where
  resting : Made Resting
  offering : (b : ℕ) → Made (Awaiting b Offer 0 false)
  listing : (b : ℕ) → Made (Awaiting b Listing 0 false)
  forwarding : (b q : ℕ) (a : Bool) → Made (Awaiting b Forward q a)
  returning : (b : ℕ) → Made (Awaiting b Return 0 false)
  forward_due_lem : (b q : ℕ) → Made (ForwardDue b q)
  return_due_lem : (b : ℕ) → Made (ReturnDue b)
  seeking : (p : ℕ) (part : Part) → Made (Seeking p part)

pub phase_back : {p : Phase} → Made p → phase_of (stand_of p) ≡ p
unfolding phase_of stand_of choose
phase_back resting = refl
phase_back (offering b) = refl
phase_back (listing b) = refl
phase_back (forwarding b q true) = refl
phase_back (forwarding b q false) = refl
phase_back (returning b) = refl
phase_back (forward_due_lem b q) = refl
phase_back (return_due_lem b) = refl
phase_back (seeking p Search) = refl
phase_back (seeking p IdentifyDue) = refl
phase_back (seeking p Identify) = refl
phase_back (seeking p Present) = refl
phase_back (seeking p AssignDue) = refl
phase_back (seeking p Assign) = refl

made_at : (n b q : ℕ) → n ≤ 13 → Made (phase_at n b q)
unfolding choose
made_at zero b q l = resting
made_at (suc zero) b q l = offering b
made_at (suc (suc zero)) b q l = listing b
made_at (suc (suc (suc zero))) b q l = forwarding b q false
made_at (suc (suc (suc (suc zero)))) b q l = forwarding b q true
made_at (suc (suc (suc (suc (suc zero))))) b q l = returning b
made_at (suc (suc (suc (suc (suc (suc zero)))))) b q l = forward_due_lem b q
made_at (suc (suc (suc (suc (suc (suc (suc zero))))))) b q l = return_due_lem b
made_at (suc (suc (suc (suc (suc (suc (suc (suc zero)))))))) b q l = seeking b Search
made_at (suc (suc (suc (suc (suc (suc (suc (suc (suc zero))))))))) b q l = seeking b IdentifyDue
made_at (suc (suc (suc (suc (suc (suc (suc (suc (suc (suc zero)))))))))) b q l = seeking b Identify
made_at (suc (suc (suc (suc (suc (suc (suc (suc (suc (suc (suc zero))))))))))) b q l = seeking b Present
made_at (suc (suc (suc (suc (suc (suc (suc (suc (suc (suc (suc (suc zero)))))))))))) b q l = seeking b AssignDue
made_at (suc (suc (suc (suc (suc (suc (suc (suc (suc (suc (suc (suc (suc zero))))))))))))) b q l = seeking b Assign
made_at (suc (suc (suc (suc (suc (suc (suc (suc (suc (suc (suc (suc (suc (suc n)))))))))))))) b q l = absurd (let z : ⊥ = omega arith in z)

-- the numbers 0 to 13 stand for phases that a step makes
pub phase_made : (s : Stand) → s.stage ≤ 13 → Made (phase_of s)
unfolding phase_of
phase_made s l = made_at s.stage s.board s.requester l

not_made : Made Unknown → ⊥
not_made = elim [ ]

-- so they stand for known ones
pub phase_known : (s : Stand) → s.stage ≤ 13 → phase_of s ≡ Unknown → ⊥
phase_known s l e = not_made (subst Made e (phase_made s l))

unknown : (s : Stand) → 13 < s.stage → phase_of s ≡ Unknown
unfolding phase_of choose
unknown s l = rw (other 0 (omega arith), other 1 (omega arith), other 2 (omega arith), other 3 (omega arith), other 4 (omega arith), other 5 (omega arith), other 6 (omega arith), other 7 (omega arith), other 8 (omega arith), other 9 (omega arith), other 10 (omega arith), other 11 (omega arith), other 12 (omega arith), other 13 (omega arith)) refl
  where
    other : (n : ℕ) → n ≤ 13 → eqb s.stage n ≡ false
    other n h = ne_eqb s.stage n (λ e. omega arith)

-- and no others do
pub known_stage : (s : Stand) → (phase_of s ≡ Unknown → ⊥) → s.stage ≤ 13
known_stage s u = go (leb s.stage 13) refl
  where
    go : (b : Bool) → leb s.stage 13 ≡ b → s.stage ≤ 13
    go true e = leb-true s.stage 13 e
    go false e = absurd (u (unknown s (leb-false s.stage 13 e)))

-- the board that a phase waits for, or another position where it waits for none
abbrev waited_in : ℕ → Phase → ℕ
waited_in p Resting = p
waited_in p (Awaiting b e q a) = b
waited_in p (ForwardDue b q) = p
waited_in p (ReturnDue b) = p
waited_in p (Seeking position part) = p
waited_in p Unknown = p

waited_choice : (p : ℕ) (test : Bool) (x y : Phase) → waited_in p (choose test x y) ≡ choose test (waited_in p x) (waited_in p y)
unfolding choose
waited_choice p true x y = refl
waited_choice p false x y = refl

same_choice : (test : Bool) (p : ℕ) → choose test p p ≡ p
unfolding choose
same_choice true p = refl
same_choice false p = refl

-- a wait is for the board that the numbers name
pub waited_board : (s : Stand) {b : ℕ} {e : Exchange} {q : ℕ} {a : Bool} → phase_of s ≡ Awaiting b e q a → b ≡ s.board
unfolding phase_of
waited_board s w = sym (ap (waited_in s.board) w) ∙ simp (waited_choice, same_choice)
