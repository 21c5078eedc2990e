-- `board::too_many_with` meets its contract: the types of all but one board are counted where one of them is a 1.0 board.
use Rattle.std.proofs.Common.{◌≡◌, ℕ, Bool, true, false, ◌||◌, nat_eq, nat_lt, List, ◌∷◌, sym, ap, ◌∙◌}
use borrow.Author.Tests.{eq-eqb, ne_eqb}
use Rattle.ground.specs.Below.{among}
use Rattle.ground.proofs.Choices.{and_yes, and_no, or_left, or_right}
use Rattle.board.specs.Columns.{forty}
use Rattle.board.specs.Types.{type_count, too_many_types}
use Rattle.board.proofs.too_many_with.Goals as goal
use Rattle.board.proofs.too_many_with.Goals.{else-version-ne1-via-then-version-ne1+else-not-has_old, else-version-ne1-via-else-version-ne1}

-- without a 1.0 board there are never too many, and with one the count decides
later : (kinds versions : List ℕ) (version : ℕ) → (version ≡ 1 → ⊥) → false ≡ among 1 versions → false ≡ too_many_types kinds (version ∷ versions)
unfolding too_many_types among
later kinds versions version ne h = and_no _ _ (ap (λ (b : Bool). b || among 1 versions) (ne_eqb 1 version (λ e. ne (sym e))) ∙ sym h)

old : (kinds versions : List ℕ) (version n : ℕ) → n ≡ type_count kinds → among 1 (version ∷ versions) ≡ true → nat_lt 15 n ≡ too_many_types kinds (version ∷ versions)
unfolding too_many_types among
old kinds versions version n e h = and_yes _ _ _ h (ap (nat_lt 15) e)

one_old : (versions : List ℕ) (version : ℕ) → true ≡ among 1 versions → among 1 (version ∷ versions) ≡ true
unfolding among
one_old versions version h = or_right (nat_eq 1 version) (among 1 versions) (sym h)

own_old : (versions : List ℕ) (version : ℕ) → version ≡ 1 → among 1 (version ∷ versions) ≡ true
unfolding among
own_old versions version e = or_left (nat_eq 1 version) (among 1 versions) (eq-eqb 1 version (sym e))

pub returns-then-not-has_old : goal.returns-then-not-has_old
returns-then-not-has_old c = later _ _ _ c.if-version-ne1.true (c.if-not-has_old.ensures ∙ ap (λ (l : List ℕ). among 1 (forty l)) c.with_byte-theirs.ensures)

pub returns : goal.returns
returns c =
    old _ _ _ _ (c.type_count.ensures ∙ ap (λ (l : List ℕ). type_count (c.args.kind ∷ forty l)) c.with_byte-others.ensures)
    (elim c.else-version-ne1.branch [
      | else-version-ne1-via-then-version-ne1+else-not-has_old w ↦ one_old _ _ (w.if-not-has_old.ensures ∙ ap (λ (l : List ℕ). among 1 (forty l)) c.with_byte-theirs.ensures)
      | else-version-ne1-via-else-version-ne1 w ↦ own_old _ _ w.if-version-ne1.false
    ])
