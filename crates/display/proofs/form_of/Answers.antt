-- `display::form_of` meets its contract: what it cut the payload into tells whether it is well formed.
use Rattle.std.proofs.Common.{◌≡◌, arith, sym, ap, ◌∙◌}
use Rattle.std.specs.Prelude.{[]}
use Rattle.refusal.specs.Refusal.{refuses, gives}
use Rattle.refusal.specs.declared.Refusal.TheVariants.{BadTextLength}
use Rattle.display.specs.Form.{forming}
use Rattle.display.proofs.Laws.{exit, not_long, not_text, well_stands, lengths, text_is, lengths_off, lengths_on}
use Rattle.display.proofs.form_of.Goals as goal
use Rattle.display.proofs.form_of.Goals.{then-text-n-via-then-text-n, then-text-n-via-else-text-n+then-most-text}

pub returns-in_err-own-clause-told : goal.returns-in_err-own-clause-told
unfolding forming
returns-in_err-own-clause-told g c =
    let short = rw c.in_err-own.ensures.ok_part at c.split_first_chunk.ensures.cases in
    let value = rw c.in_err-own.ensures.ok_part at c.in_err-own.ensures.value in
    let is : c.in_err-own.field-0.0 ≡ BadTextLength = cc in
    exit _ _ _ c.from_residual.ensures.1 ∙ ap refuses is ∙ sym (not_long g.row.OWN c.args.most c.args.payload.now refuses (gives []) (λ ok. omega (arith, (lengths _ _ _ ok).0, short)))

pub returns-in_err-n-clause-told : goal.returns-in_err-n-clause-told
unfolding forming
returns-in_err-n-clause-told g c =
    let cut = rw c.in_ok-own.ensures.ok_part at c.split_first_chunk.ensures.cases in
    let none = rw c.in_err-n.ensures.ok_part at c.split_first.ensures.cases in
    let value = rw c.in_err-n.ensures.ok_part at c.in_err-n.ensures.value in
    let is : c.in_err-n.field-0.0 ≡ BadTextLength = cc in
    exit _ _ _ c.from_residual-in_err-n.ensures.1 ∙ ap refuses is ∙ sym (not_long g.row.OWN c.args.most c.args.payload.now refuses (gives []) (λ ok. omega (arith, (lengths _ _ _ ok).0, cut.2, none)))

pub returns-then-text-n-clause-told : goal.returns-then-text-n-clause-told
unfolding forming
returns-then-text-n-clause-told g c =
    let cut = rw c.in_ok-own.ensures.ok_part at c.split_first_chunk.ensures.cases in
    let parts = rw c.in_ok-n.ensures.ok_part at c.split_first.ensures.cases in
    sym (not_long _ _ _ refuses (gives []) (lengths_off _ c.args.most _ _ _ _ (cut.1, cut.2) parts.0 (λ e l.
    elim c.then-text-n.branch [
      | then-text-n-via-then-text-n w ↦ w.if-text-n.true e
      | then-text-n-via-else-text-n+then-most-text w ↦ omega (arith, l, w.if-most-text.true)
    ])))

pub returns-then-not-all_text-clause-told : goal.returns-then-not-all_text-clause-told
unfolding forming
returns-then-not-all_text-clause-told g c =
    let cut = rw c.in_ok-own.ensures.ok_part at c.split_first_chunk.ensures.cases in
    let parts = rw c.in_ok-n.ensures.ok_part at c.split_first.ensures.cases in
    let none = rw (text_is g.row.OWN c.args.most _ _ _ _ (cut.1, cut.2) parts.0) at c.all_text.ensures in
    sym (not_text _ _ _ refuses (gives []) (lengths_on _ _ _ _ _ _ (cut.1, cut.2) parts.0 c.if-text-n.false c.if-most-text.false) (sym none ∙ c.if-not-all_text.true))

pub returns-clause-told : goal.returns-clause-told
unfolding forming
returns-clause-told g c =
    let cut = rw c.in_ok-own.ensures.ok_part at c.split_first_chunk.ensures.cases in
    let parts = rw c.in_ok-n.ensures.ok_part at c.split_first.ensures.cases in
    let all = rw (text_is g.row.OWN c.args.most _ _ _ _ (cut.1, cut.2) parts.0) at c.all_text.ensures in
    let l = lengths _ _ _ (lengths_on _ _ _ _ _ _ (cut.1, cut.2) parts.0 c.if-text-n.false c.if-most-text.false) in
    sym (well_stands g.row.OWN c.args.most c.args.payload.now refuses (gives []) (record { long = l.0; small = l.1; shown = sym all ∙ c.if-not-all_text.false }))

pub returns-clause-parts : goal.returns-clause-parts
returns-clause-parts g c =
    let cut = rw c.in_ok-own.ensures.ok_part at c.split_first_chunk.ensures.cases in
    let parts = rw c.in_ok-n.ensures.ok_part at c.split_first.ensures.cases in
    (cut.0, text_is _ c.args.most _ _ _ _ (cut.1, cut.2) parts.0)
