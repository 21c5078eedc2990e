-- The two passes as the code makes them: one position more, by the marks, in the list with byte 0 in front.
use native.Mathlib.Decide.{ℕ_discrete}
use Prim.Native.Nat.{ℕ, zero, suc, ◌+◌, ◌≤◌, ◌<◌}
use native.Mathlib.Omega.{arith}
use native.Mathlib.Numerals.{add-one}
use mathlib.Core.Path.{◌≡◌, refl, sym, subst, ap, ◌∙◌}
use mathlib.Core.Bool.{Bool, true, false, ◌&&◌}
use mathlib.Core.List.{List, [], ◌∷◌}
use lib.ListN.{length, get_or, set, drop, replicate, length-set}
use lib.Seq.{set_out}
use borrow.Author.Tests.{eq-eqb, ne_eqb}
use Rattle.ground.specs.Choose.{choose}
use Rattle.ground.specs.Below.{one, among}
use Rattle.ground.proofs.Choices.{choose_yes, choose_no, not_left}
use Rattle.board.specs.Node.{is_old}
use Rattle.board.specs.Types.{is_new, Marks, is_unmarked}
use Rattle.board.proofs.Types.{new_type, unmarked_new}
use Rattle.nodelist.specs.Condensed.{standing_to, open_byte, filled_to, condensed}
use Rattle.nodelist.proofs.Placed.{Noted, noted_more}
use Rattle.nodelist.proofs.Condensed.{free_none, standing_free, standing_built, open_free}
use Rattle.nodelist.proofs.Open.{open_from, open_lowest, open_next}

-- the first pass
module _ (internal : ℕ) (kinds versions : List ℕ) where
  pub stood_begun : {marks : List ℕ} → Marks [] marks → Noted internal (standing_to kinds versions 0) (internal ∷ replicate 15 0) marks
  unfolding standing_to among
  stood_begun m = (refl, record { size = m.size; each = λ k p l. m.each k p l ∙ ap one (sym (free_none k p)) })

  module _ (i : ℕ) {list marks : List ℕ} (n : Noted internal (standing_to kinds versions i) list marks) where
    -- a board of another version is passed over
    pub stood_over : (get_or versions i 0 ≡ 1 → ⊥) → Noted internal (standing_to kinds versions (i + 1)) list marks
    unfolding standing_to
    stood_over other = subst (λ (l : List ℕ). Noted internal l list marks) same n
      where
        same : standing_to kinds versions i ≡ standing_to kinds versions (i + 1)
        same = choose_no _ _ _ _ (not_left (is_old (get_or versions i 0)) _ (ne_eqb (get_or versions i 0) 1 other)) refl ∙ ap (standing_to kinds versions) (sym (add-one i))

    -- a 1.0 board is marked, and put at its position where its type was not marked
    pub stood_more : i < 15 → get_or versions i 0 ≡ 1 → get_or kinds i 0 < 256 → {r : Bool} {marked after : List ℕ} → r ≡ is_unmarked marks (get_or kinds i 0) → marked ≡ set marks (get_or kinds i 0) 1 → after ≡ choose r (set list (i + 1) (get_or kinds i 0)) list → Noted internal (standing_to kinds versions (i + 1)) after marked
    unfolding standing_to
    stood_more l old byte {r} {marked} {after} seen mark put = subst (λ (x : List ℕ). Noted internal x after marked) same (noted_more internal (standing_to kinds versions i) i (get_or kinds i 0) (standing_free kinds versions i i (omega arith)) (omega (arith, l, (standing_built kinds versions i).size)) n byte seen mark put)
      where
        now : List ℕ
        now = standing_to kinds versions i

        same : choose (is_new now (get_or kinds i 0)) (set now i (get_or kinds i 0)) now ≡ standing_to kinds versions (i + 1)
        same = ap (λ (b : Bool). choose (b && is_new now (get_or kinds i 0)) (set now i (get_or kinds i 0)) now) (sym (eq-eqb (get_or versions i 0) 1 old)) ∙ ap (standing_to kinds versions) (sym (add-one i))

-- the second pass: with it goes the lowest open byte of the list, 16 where there is none
abbrev pub Filling : ℕ → List ℕ → List ℕ → List ℕ → ℕ → Type 0
Filling internal bytes list marks lowest = Noted internal bytes list marks × (lowest ≡ open_byte bytes + 1) × (length bytes ≡ 15)

pub filling_begun : (list : List ℕ) {marks : List ℕ} → length list ≡ 16 → Marks (drop 1 list) marks → (kinds : List ℕ) {lowest : ℕ} → lowest ≡ open_from list 1 → Filling (get_or list 0 0) (filled_to (drop 1 list) kinds 0) list marks lowest
unfolding filled_to
filling_begun [] size m kinds e = absurd (let z : ⊥ = omega (arith, size) in z)
filling_begun (x ∷ bytes) size m kinds e = ((refl, m), e ∙ open_lowest x bytes 1 (omega arith) (omega arith) (λ j l. absurd (let z : ⊥ = omega (arith, l) in z)), omega (arith, size))

-- one position more
next_filled : (bytes kinds : List ℕ) (i : ℕ) → choose (is_new (filled_to bytes kinds i) (get_or kinds i 0)) (set (filled_to bytes kinds i) (open_byte (filled_to bytes kinds i)) (get_or kinds i 0)) (filled_to bytes kinds i) ≡ filled_to bytes kinds (i + 1)
unfolding filled_to
next_filled bytes kinds i = ap (filled_to bytes kinds) (sym (add-one i))

module _ (internal : ℕ) (bytes kinds : List ℕ) (i : ℕ) {list marks : List ℕ} {lowest : ℕ} (f : Filling internal (filled_to bytes kinds i) list marks lowest) where
  abbrev now : List ℕ
  now = filled_to bytes kinds i

  abbrev kind : ℕ
  kind = get_or kinds i 0

  -- where no byte is open, nothing more is written
  pub filling_full : 16 ≤ lowest → (n : ℕ) → i ≤ n → filled_to bytes kinds n ≡ now
  unfolding filled_to choose
  filling_full l zero h = ap (filled_to bytes kinds) (let e : 0 ≡ i = omega (arith, h) in e)
  filling_full l (suc n) h = go (ℕ_discrete i (suc n)) (λ (k : i ≤ n). filling_full l n k)
    where
      kept : (b : Bool) (k : ℕ) → choose b (set now (open_byte now) k) now ≡ now
      kept true k = set_out now (open_byte now) k (omega (arith, l, f.1, f.2))
      kept false k = refl

      go : Dec (i ≡ suc n) → (i ≤ n → filled_to bytes kinds n ≡ now) → filled_to bytes kinds (suc n) ≡ now
      go (yes e) r = ap (filled_to bytes kinds) (sym e)
      go (no ne) r = ap (λ (x : List ℕ). choose (is_new x (get_or kinds n 0)) (set x (open_byte x) (get_or kinds n 0)) x) (r (omega (arith, h, ne))) ∙ kept (is_new now (get_or kinds n 0)) (get_or kinds n 0)

  module _ (l : lowest < 16) (byte : kind < 256) {r : Bool} {marked : List ℕ} (seen : r ≡ is_unmarked marks kind) (mark : marked ≡ set marks kind 1) where
    -- so the marks are kept, whatever comes of it
    noted_next : {after : List ℕ} → after ≡ choose r (set list lowest kind) list → Noted internal (filled_to bytes kinds (i + 1)) after marked
    noted_next {after} put = subst (λ (x : List ℕ). Noted internal x after marked) (next_filled bytes kinds i) (noted_more internal now (open_byte now) kind (open_free now f.2) (omega (arith, l, f.1, f.2)) f.0 byte seen mark (put ∙ ap (λ (n : ℕ). choose r (set list n kind) list) f.1))

    told_new : {b : Bool} → r ≡ b → is_new now kind ≡ b
    told_new e = sym (unmarked_new f.0.1 kind byte) ∙ sym seen ∙ e

    -- a type that stands already, or nobody's, is passed over
    pub filling_over : r ≡ false → Filling internal (filled_to bytes kinds (i + 1)) list marked lowest
    filling_over e = (noted_next (choose_no _ _ _ _ e refl), f.1 ∙ ap (λ (x : List ℕ). open_byte x + 1) same, ap length (sym same) ∙ f.2)
      where
        same : now ≡ filled_to bytes kinds (i + 1)
        same = choose_no _ _ _ _ (told_new e) refl ∙ next_filled bytes kinds i

    -- a new one is put there, and the next open byte is looked for
    pub filling_more : r ≡ true → {after : List ℕ} → after ≡ set list lowest kind → {next : ℕ} → next ≡ open_from after (lowest + 1) → Filling internal (filled_to bytes kinds (i + 1)) after marked next
    filling_more e {after} put {next} found = (held, found ∙ ap (λ (x : List ℕ). open_from x (lowest + 1)) held.0 ∙ ap (λ (x : List ℕ). open_from (internal ∷ x) (lowest + 1)) (sym same) ∙ ap (λ (n : ℕ). open_from (internal ∷ set now (open_byte now) kind) (n + 1)) f.1 ∙ open_next internal now kind f.2 (omega (arith, l, f.1)) (new_type now kind (told_new e)).0 ∙ ap (λ (x : List ℕ). open_byte x + 1) same, ap length (sym same) ∙ length-set now (open_byte now) kind ∙ f.2)
      where
        held : Noted internal (filled_to bytes kinds (i + 1)) after marked
        held = noted_next (put ∙ choose_yes r _ _ list e refl)

        same : set now (open_byte now) kind ≡ filled_to bytes kinds (i + 1)
        same = choose_yes _ _ _ _ (told_new e) refl ∙ next_filled bytes kinds i

-- one pass after the other
pub stood_filling : (internal : ℕ) (bytes : List ℕ) {list marks : List ℕ} → Noted internal bytes list marks → Marks (drop 1 list) marks
stood_filling internal bytes {list} {marks} (held, m) = subst (λ (l : List ℕ). Marks (drop 1 l) marks) (sym held) m

pub both_passes : (internal : ℕ) (kinds versions : List ℕ) {list after : List ℕ} → list ≡ internal ∷ standing_to kinds versions 15 → after ≡ get_or list 0 0 ∷ filled_to (drop 1 list) kinds 40 → after ≡ condensed internal kinds versions
unfolding condensed
both_passes internal kinds versions stood filled = filled ∙ ap (λ (l : List ℕ). get_or l 0 0 ∷ filled_to (drop 1 l) kinds 40) stood
