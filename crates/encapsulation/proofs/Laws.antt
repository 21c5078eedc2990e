-- What opening a message comes to, case by case, and what is answered of it.
use Prim.Native.Nat.{ℕ, zero, suc, ◌+◌, ◌-◌, ◌≤◌}
use native.Mathlib.Omega.{arith}
use native.Mathlib.Numerals.{add-one}
use mathlib.Core.Path.{◌≡◌, refl, sym, ap, ◌∙◌}
use mathlib.Core.Bool.{Bool, true, false}
use mathlib.Core.List.{List, [], ◌∷◌, ◌++◌}
use lib.ListN.{length, get_or, take, drop, length-drop, replicate}
use mathlib.Core.Logic.{◌↔◌}
use borrow.Author.Tests.{le-ltb, eqb-true, eq-eqb, not-false}
use Rattle.ground.proofs.Runs.{rest_is}
use Rattle.ground.specs.Choose.{choose}
use Rattle.ground.proofs.Choices.{choose_yes, choose_no, not_no}
use Rattle.std.specs.Prelude.{Ok, Err}
use Rattle.refusal.specs.declared.Refusal.{Refusal}
use Rattle.refusal.specs.declared.Refusal.TheVariants.{BadInner, TooDeep}
use Rattle.refusal.proofs.Rules.{Passed, passed, said, each, by_rules}
use Rattle.frame.specs.Frame.{byte}
use Rattle.encapsulation.specs.declared.Level.{Level}
use Rattle.encapsulation.specs.declared.Unwrapped.{Unwrapped}
use Rattle.encapsulation.specs.Message.{Message, is_encapsulation, most}
use Rattle.encapsulation.specs.Unwrap.{Opened, plain, refused, under, level_of, inner_of, inner_rules, opened_inside, opened}
use Rattle.encapsulation.specs.Answer.{blank, placed}
use Rattle.encapsulation.specs.Making.{answer_of, deeper}

-- a plain message opens as it stands, however many levels are left
pub plain_opened : (left : ℕ) (m : Message) → is_encapsulation m ≡ false → opened left m ≡ plain [] m
unfolding opened
plain_opened zero m h = sym (choose_no _ _ _ _ h refl)
plain_opened (suc left) m h = sym (choose_no _ _ _ _ h refl)

-- an encapsulation for which no level is left is too deep, whatever its payload
pub deep_opened : (left : ℕ) (m : Message) → is_encapsulation m ≡ true → left ≡ 0 → opened left m ≡ refused TooDeep
unfolding opened
deep_opened zero m h e = sym (choose_yes _ _ _ _ h refl)
deep_opened (suc left) m h e = absurd (let z : ⊥ = omega arith in z)

-- any other is opened, with one level less for what is inside
pub inner_opened : (left : ℕ) (m : Message) → is_encapsulation m ≡ true → (left ≡ 0 → ⊥) → opened left m ≡ opened_inside (opened (left - 1)) m.packet m.payload
unfolding opened
inner_opened zero m h e = absurd (e refl)
inner_opened (suc left) m h e = rw (let e : suc left - 1 ≡ left = omega arith in e) (sym (choose_yes _ _ _ _ h refl))

module _ (next : Message → Opened) (packet : ℕ) (p : List ℕ) where
  -- what is no whole message is a bad inner one
  pub bad_inner : (Passed (inner_rules p) → ⊥) → opened_inside next packet p ≡ refused BadInner
  unfolding opened_inside
  bad_inner h = said (inner_rules p) BadInner refused _ (refl, (refl, tt)) h

  -- a whole one opens as its message does, with this level around it
  pub whole_inner : Passed (inner_rules p) → opened_inside next packet p ≡ under (level_of packet p) (next (inner_of p))
  unfolding opened_inside
  whole_inner h = passed (inner_rules p) refused _ h

-- a payload that is long enough is one whole message exactly where what stands behind its seventh byte is as long as that says
pub inner_passes : (p : List ℕ) → 7 ≤ length p → (length (take (length p - 7) (drop 7 p)) ≡ byte p 6) ↔ Passed (inner_rules p)
inner_passes p h =
    ((λ e. (le-ltb (length p) 7 h, (not_no _ (eq-eqb (length p) (7 + byte p 6) (omega (arith, h, e, long))), tt))), λ ok. omega (arith, h, long, eqb-true (length p) (7 + byte p 6) (not-false _ ok.1.0)))
  where
    long : length (take (length p - 7) (drop 7 p)) ≡ length p - 7
    long = ap length (rest_is p 7) ∙ length-drop 7 p

-- a level of which all is 0 is blank
abbrev pub IsBlank : Level → Type 0
IsBlank l = (l.code ≡ 0) × ((l.operand1 ≡ 0) × ((l.operand2 ≡ 0) × ((l.operand3 ≡ 0) × (l.packet ≡ 0))))

blank_is : (l : Level) → IsBlank l → l ≡ blank
blank_is l e = λ i. record { code = e.0 i; operand1 = e.1.0 i; operand2 = e.1.1.0 i; operand3 = e.1.1.1.0 i; packet = e.1.1.1.1 i }

-- a plain message is answered with four of them
pub plain_answer : (left : ℕ) (m : Message) (l : Level) → IsBlank l → is_encapsulation m ≡ false → Ok (record { levels = l ∷ l ∷ l ∷ l ∷ []; depth = 0; message = m.message; packet = m.packet; length = length m.payload }) ≡ answer_of (opened left m)
plain_answer left m l e h =
    let is : l ≡ blank = blank_is l e in
    (λ i. Ok (record { levels = is i ∷ is i ∷ is i ∷ is i ∷ []; depth = 0; message = m.message; packet = m.packet; length = length m.payload })) ∙ ap answer_of (sym (plain_opened left m h))

-- the first three places that are in use
three : (ls : List Level) → get_or (placed ls) 0 blank ∷ get_or (placed ls) 1 blank ∷ get_or (placed ls) 2 blank ∷ [] ≡ take 3 (ls ++ replicate most blank)
three [] = refl
three (a ∷ []) = refl
three (a ∷ b ∷ []) = refl
three (a ∷ b ∷ c ∷ ls) = refl

-- the answer of an opened message with one level more around it
answer_under : (l : Level) (f : Opened) (u : Unwrapped) → Ok u ≡ answer_of f → Ok (deeper l u) ≡ answer_of (under l f)
answer_under l (plain ls m) u e =
    let is : u ≡ record { levels = placed ls; depth = length ls; message = m.message; packet = m.packet; length = length m.payload } = cc in
    ap (λ (v : Unwrapped). Ok (deeper l v)) is ∙ rw (add-one (length ls), three ls) refl
answer_under l (refused r) u e = absurd (cc)

refusal_under : (l : Level) (f : Opened) (q : Refusal) → Err q ≡ answer_of f → Err q ≡ answer_of (under l f)
refusal_under l (plain ls m) q e = absurd (cc)
refusal_under l (refused r) q e = e

-- an encapsulation is answered by what its inner message is answered, with one level less left
module _ (left packet : ℕ) (p : List ℕ) (ok : Passed (inner_rules p)) where
  pub inside_answer : (u : Unwrapped) → Ok u ≡ answer_of (opened left (inner_of p)) → Ok (deeper (level_of packet p) u) ≡ answer_of (opened_inside (opened left) packet p)
  inside_answer u e = answer_under (level_of packet p) (opened left (inner_of p)) u e ∙ ap answer_of (sym (whole_inner (opened left) packet p ok))

  pub inside_refused : (q : Refusal) → Err q ≡ answer_of (opened left (inner_of p)) → Err q ≡ answer_of (opened_inside (opened left) packet p)
  inside_refused q e = refusal_under (level_of packet p) (opened left (inner_of p)) q e ∙ ap answer_of (sym (whole_inner (opened left) packet p ok))

-- how many levels an opened message has; none where it is refused
abbrev depth_of : Opened → ℕ
depth_of (plain ls m) = length ls
depth_of (refused r) = 0

under_depth : (l : Level) (n : ℕ) (f : Opened) → depth_of f ≤ n → depth_of (under l f) ≤ suc n
under_depth l n (plain ls m) h = omega arith
under_depth l n (refused r) h = omega arith

few : (left : ℕ) (m : Message) → depth_of (opened left m) ≤ left
unfolding opened opened_inside choose
few zero m = go (is_encapsulation m)
  where
    go : (b : Bool) → depth_of (choose b (refused TooDeep) (plain [] m)) ≤ 0
    go true = omega arith
    go false = omega arith
few (suc left) m = go (is_encapsulation m) (few left (inner_of m.payload))
  where
    go : (b : Bool) → depth_of (opened left (inner_of m.payload)) ≤ left → depth_of (choose b (opened_inside (λ inner. opened left inner) m.packet m.payload) (plain [] m)) ≤ suc left
    go true h = by_rules (λ (f : Opened). depth_of f ≤ suc left) (inner_rules m.payload) refused _ (each {Q = λ r. 0 ≤ suc left} (λ r. omega arith) (inner_rules m.payload)) (λ ok. under_depth (level_of m.packet m.payload) left (opened left (inner_of m.payload)) h)
    go false h = omega arith

-- a message lies no deeper than there are levels
pub depth_within : (left : ℕ) (m : Message) (u : Unwrapped) → Ok u ≡ answer_of (opened left m) → u.depth ≤ left
depth_within left m u e = go (opened left m) e (few left m)
  where
    go : (f : Opened) → Ok u ≡ answer_of f → depth_of f ≤ left → u.depth ≤ left
    go (plain ls n) q h = let is : u ≡ record { levels = placed ls; depth = length ls; message = n.message; packet = n.packet; length = length n.payload } = cc in omega (arith, h, ap (λ (v : Unwrapped). v.depth) is)
    go (refused r) q h = absurd (cc)
