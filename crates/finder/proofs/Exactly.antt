-- When each finding is given: exactly when the rule says (01, "Finder").
use Prim.Native.Nat.{ℕ, ◌+◌, ◌≤◌, ◌<◌}
use native.Mathlib.Omega.{arith}
use mathlib.Core.Path.{◌≡◌, refl, sym, ap, ◌∙◌}
use mathlib.Core.Logic.{◌⊎◌, inl, inr, ◌↔◌}
use mathlib.Core.Bool.{Bool, true, false, false≢true}
use mathlib.Core.List.{List}
use lib.ListN.{length}
use lib.Dec.{ltb}
use borrow.Author.Tests.{ltb-true, ltb-false}
use Rattle.ground.specs.Choose.{choose}
use Rattle.ground.proofs.Firsts.{FirstCase, first_case}
use Rattle.refusal.specs.Refusal.{Told}
use Rattle.finder.specs.Finder.{starts, length_at, holds_frame, limit, first_frame, found, nothing, spent, finding, told}
use Rattle.finder.specs.declared.Finding.{Finding}
use Rattle.finder.specs.declared.Finding.TheVariants.{Found}
use Rattle.finder.proofs.Laws.{value, differ}
use Rattle.refusal.proofs.Numbers.{told_number}
use Rattle.finder.proofs.Begins.{held}

-- no good frame begins at the first n starts
abbrev pub NoneIn : ℕ → List ℕ → ℕ → Type 0
NoneIn ours s n = (i : ℕ) → i < n → holds_frame ours s i ≡ false

-- a good frame begins at start i, within the budget, and at no start before it
pub record FoundAt (ours : ℕ) (s : List ℕ) (budget i : ℕ) : Type 0 where
  pub within : i < budget
  pub a_start : i < starts s
  pub holds : holds_frame ours s i ≡ true
  pub first : NoneIn ours s i

-- the three findings, each with what it takes
abbrev pub Cases : ℕ → List ℕ → ℕ → Told → Type 0
Cases ours s budget r =
    ((i : ℕ) × (FoundAt ours s budget i × (r ≡ found i (12 + length_at s i) (i + 1)))) ⊎
    ((NoneIn ours s (starts s) × ((starts s ≤ budget) × (r ≡ nothing (starts s)))) ⊎
    (NoneIn ours s budget × ((budget < starts s) × (r ≡ spent budget))))

none_within : (ours : ℕ) (s : List ℕ) (budget : ℕ) → limit s budget ≤ first_frame ours s budget → NoneIn ours s (limit s budget)
none_within ours s budget h = go (first_case (limit s budget) (holds_frame ours s) 0 (limit s budget))
  where
    go : FirstCase (limit s budget) (holds_frame ours s) 0 (limit s budget) (first_frame ours s budget) → NoneIn ours s (limit s budget)
    go (inl (none, e)) = λ i l. none i (omega arith) (omega arith)
    go (inr f) = absurd (let z : ⊥ = omega (arith, f.within) in z)

first_within : (ours : ℕ) (s : List ℕ) (budget : ℕ) → first_frame ours s budget < limit s budget → FoundAt ours s budget (first_frame ours s budget)
first_within ours s budget h = go (first_case (limit s budget) (holds_frame ours s) 0 (limit s budget))
  where
    go : FirstCase (limit s budget) (holds_frame ours s) 0 (limit s budget) (first_frame ours s budget) → FoundAt ours s budget (first_frame ours s budget)
    go (inl (none, e)) = absurd (let z : ⊥ = omega (arith, e) in z)
    go (inr f) = record { within = omega arith; a_start = omega arith; holds = f.passes; first = λ i l. f.before i (omega arith) l }

-- the finder says one of the three, with what it takes
pub finding_cases : (ours : ℕ) (s : List ℕ) (budget : ℕ) → Cases ours s budget (finding ours s budget)
unfolding finding choose
finding_cases ours s budget = go (ltb (first_frame ours s budget) (limit s budget)) refl (ltb budget (starts s)) refl
  where
    go : (b : Bool) → ltb (first_frame ours s budget) (limit s budget) ≡ b → (d : Bool) → ltb budget (starts s) ≡ d → Cases ours s budget (choose b (found (first_frame ours s budget) (12 + length_at s (first_frame ours s budget)) (first_frame ours s budget + 1)) (choose d (spent budget) (nothing (starts s))))
    go true e d q = inl (first_frame ours s budget, (first_within ours s budget (ltb-true _ _ e), refl))
    go false e true q = inr (inr ((λ i l. none_within ours s budget (ltb-false _ _ e) i (omega (arith, ltb-true budget (starts s) q))), (ltb-true _ _ q, refl)))
    go false e false q = inr (inl ((λ i l. none_within ours s budget (ltb-false _ _ e) i (omega (arith, ltb-false budget (starts s) q))), (ltb-false _ _ q, refl)))

-- Spent is given exactly when no good frame begins at the first budget starts and more starts remain
pub spent_exactly : (ours : ℕ) (s : List ℕ) (budget tried : ℕ) → (finding ours s budget ≡ spent tried) ↔ (NoneIn ours s budget × ((budget < starts s) × (tried ≡ budget)))
spent_exactly ours s budget tried = (λ e. only e (finding_cases ours s budget), λ h. when h (finding_cases ours s budget))
  where
    only : finding ours s budget ≡ spent tried → Cases ours s budget (finding ours s budget) → NoneIn ours s budget × ((budget < starts s) × (tried ≡ budget))
    only e (inl (i, (f, q))) = differ (told_number (sym q ∙ e)) (λ n. omega arith)
    only e (inr (inl (n, (l, q)))) = differ (told_number (sym q ∙ e)) (λ n. omega arith)
    only e (inr (inr (n, (l, q)))) = (n, (l, value 0 (sym e ∙ q)))

    when : NoneIn ours s budget × ((budget < starts s) × (tried ≡ budget)) → Cases ours s budget (finding ours s budget) → finding ours s budget ≡ spent tried
    when h (inl (i, (f, q))) = absurd (false≢true (sym (h.0 i f.within) ∙ f.holds))
    when h (inr (inl (n, (l, q)))) = absurd (let z : ⊥ = omega (arith, h.1.0) in z)
    when h (inr (inr (n, (l, q)))) = q ∙ ap spent (sym h.1.1)

-- the starts tried are never more than the budget
pub tried_most : (ours : ℕ) (s : List ℕ) (budget i long tried : ℕ) → (finding ours s budget ≡ found i long tried) ⊎ ((finding ours s budget ≡ nothing tried) ⊎ (finding ours s budget ≡ spent tried)) → tried ≤ budget
tried_most ours s budget i long tried e = go e (finding_cases ours s budget)
  where
    go : (finding ours s budget ≡ found i long tried) ⊎ ((finding ours s budget ≡ nothing tried) ⊎ (finding ours s budget ≡ spent tried)) → Cases ours s budget (finding ours s budget) → tried ≤ budget
    go (inl e) (inl (j, (f, q))) = omega (arith, value 2 (sym e ∙ q), f.within)
    go (inl e) (inr (inl (n, (l, q)))) = differ (told_number (sym e ∙ q)) (λ n. omega arith)
    go (inl e) (inr (inr (n, (l, q)))) = differ (told_number (sym e ∙ q)) (λ n. omega arith)
    go (inr (inl e)) (inl (j, (f, q))) = differ (told_number (sym e ∙ q)) (λ n. omega arith)
    go (inr (inl e)) (inr (inl (n, (l, q)))) = omega (arith, value 0 (sym e ∙ q), l)
    go (inr (inl e)) (inr (inr (n, (l, q)))) = differ (told_number (sym e ∙ q)) (λ n. omega arith)
    go (inr (inr e)) (inl (j, (f, q))) = differ (told_number (sym e ∙ q)) (λ n. omega arith)
    go (inr (inr e)) (inr (inl (n, (l, q)))) = differ (told_number (sym e ∙ q)) (λ n. omega arith)
    go (inr (inr e)) (inr (inr (n, (l, q)))) = omega (arith, value 0 (sym e ∙ q))

-- what is found lies whole in the stretch, and is no shorter than the shortest frame
pub record Inside (s : List ℕ) (start long : ℕ) : Type 0 where
  pub end : start + long ≤ length s
  pub least : 12 ≤ long

pub found_inside : {r : Finding} {i long tried : ℕ} (ours : ℕ) (s : List ℕ) (budget : ℕ) → r ≡ Found i long tried → told r ≡ finding ours s budget → Inside s i long
found_inside {i = i} {long} {tried} ours s budget e t = go (ap told (sym e) ∙ t) (finding_cases ours s budget)
  where
    go : found i long tried ≡ finding ours s budget → Cases ours s budget (finding ours s budget) → Inside s i long
    go e (inl (j, (f, q))) = record { end = omega (arith, (held ours s j f.holds).room.inside, value 0 (e ∙ q), value 1 (e ∙ q)); least = omega (arith, value 1 (e ∙ q)) }
    go e (inr (inl (n, (l, q)))) = differ (told_number (e ∙ q)) (λ n. omega arith)
    go e (inr (inr (n, (l, q)))) = differ (told_number (e ∙ q)) (λ n. omega arith)
