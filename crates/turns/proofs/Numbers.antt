-- The arithmetic of the potential.
use Prim.Native.Nat.{ℕ, zero, suc, ◌+◌, ◌-◌, ◌*◌, ◌≤◌, ◌<◌}
use native.Mathlib.Omega.{arith}
use native.Mathlib.Nat.{mul-suc, mul-le-mul_left, mul-le-mul_right}
use mathlib.Core.Path.{◌≡◌, ap}
use Rattle.coordinator.specs.declared.Part.{Part}
use Rattle.coordinator.specs.declared.Part.TheVariants.{Search, IdentifyDue, Identify, Present, AssignDue, Assign}
use Rattle.turns.specs.Potential.{list_steps, join_steps, drop_steps, left_of, ahead}

-- a join, which makes one board more at most, leaves room for itself and a list to each of k boards
pub ahead_join : (k n m : ℕ) → 1 ≤ n → m ≤ n + 1 → ahead k m 0 + join_steps k ≤ ahead k n 1
unfolding ahead
ahead_join k n m h l = omega (arith, mul-le-mul_left (drop_steps k) (let e : m - 1 + 0 ≤ n - 1 + 1 = omega arith in e))

-- a drop that leaves somebody listed leaves room for a list to each of the others
pub ahead_drop : (k n m joins : ℕ) → 1 ≤ m → m + 1 ≡ n → ahead k m joins + drop_steps k ≡ ahead k n joins
unfolding ahead
ahead_drop k n m joins h e = omega (arith, ap (λ (i : ℕ). drop_steps k * i) (let q : n - 1 + joins ≡ suc (m - 1 + joins) = omega arith in q), mul-suc (drop_steps k) (m - 1 + joins))

-- the most that may come, with k boards listed and joins not held
squared : (k : ℕ) → 1 ≤ k → drop_steps k * k + join_steps k ≡ list_steps * (k * k) + 1
squared zero h = absurd (let z : ⊥ = omega arith in z)
squared (suc j) h = rw (let e : suc j - 1 ≡ j = omega arith in e) (omega arith)

pub ahead_most : (k n joins : ℕ) → 1 ≤ k → n ≤ k → joins ≤ 1 → ahead k n joins ≤ list_steps * (k * k) + 1
unfolding ahead
ahead_most k n joins h l o = omega (arith, squared k h, mul-le-mul_left (drop_steps k) (let e : n - 1 + joins ≤ k = omega arith in e), mul-le-mul_right (join_steps k) o)

-- an exchange by which a board joins has a step left
pub left_least : (part : Part) → 1 ≤ left_of part
left_least Search = omega arith
left_least IdentifyDue = omega arith
left_least Identify = omega arith
left_least Present = omega arith
left_least AssignDue = omega arith
left_least Assign = omega arith

-- and once the discovery is started at most five
pub left_most : (part : Part) → left_of part ≤ 5
left_most Search = omega arith
left_most IdentifyDue = omega arith
left_most Identify = omega arith
left_most Present = omega arith
left_most AssignDue = omega arith
left_most Assign = omega arith

-- with m the steps that there can be to an offer: coming nearer is worth m of them, whatever the potential becomes
pub steps_nearer : (m steps near far old new : ℕ) → near < far → new < m → steps + m ≤ near * m + new → steps + 1 + m ≤ far * m + old
steps_nearer m steps near far old new h l e = omega (arith, mul-le-mul_right m (let q : suc near ≤ far = omega arith in q))

-- where p is listed it is at least one step away
pub steps_start : (m far old : ℕ) → 1 ≤ far → m ≤ far * m + old
steps_start m far old h = omega (arith, mul-le-mul_right m h)

-- and at most k steps
pub steps_most : (m steps far k old : ℕ) → far ≤ k → old < m → steps + m ≤ far * m + old → steps < k * m
steps_most m steps far k old h l e = omega (arith, mul-le-mul_right m h)
