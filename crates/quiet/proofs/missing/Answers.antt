-- `quiet::missing` meets its contract: one miss more below the third, and the third drops.
use mathlib.Core.Path.{◌≡◌, sym, ap, ◌∙◌}
use mathlib.Core.Bool.{◌&&◌, ◌||◌, not}
use lib.Dec.{eqb, ltb}
use borrow.Author.Rules.{rules}
use borrow.Author.Tests.{tests}
use Rattle.board.specs.Node.{none}
use Rattle.board.specs.Table.{put}
use Rattle.board.specs.Change.{relisted}
use Rattle.coordinator.specs.declared.Coordinator.{Coordinator}
use Rattle.steps.specs.declared.Answer.TheVariants.{Rest}
use Rattle.steps.specs.After.{shows, leaving, rests}
use Rattle.change.specs.declared.Edit.TheVariants.{Missed, Cleared}
use Rattle.change.proofs.Making.{makes_edit, makes_relisted}
use Rattle.quiet.proofs.Waits.{miss_noted, third_drops}
use Rattle.quiet.proofs.Seen.{still_seen}
use Rattle.quiet.proofs.missing.Goals as goal

pub returns-then-node-lt2 : goal.returns-then-node-lt2
returns-then-node-lt2 c = λ p co t s k.
    let board = c.args.board in
    makes_edit p co t board Missed Rest 0 0 0 c.resting.ensures ∙ sym (ap shows (miss_noted co t board k.1 c.if-node-lt2.true))

pub returns : goal.returns
returns c = λ p co t s k.
    let board = c.args.board in
    let others : c.if-seen-gt0.rested ≡ (ltb 0 c.args.seen.top && (not (eqb c.args.seen.top board) || not (eqb c.lowest-lowest.result board))) = search (rules, tests) in
    makes_relisted p co t board Cleared Rest 0 0 board c.resting-2.ensures ∙
    ap (λ (next : Coordinator). leaving next (relisted (put t board none)) rests 0 0 board) (still_seen s k.0 board p c.lowest-lowest.ensures others c.rested-left.ensures) ∙
    sym (ap shows (third_drops co t board k.1 c.if-node-lt2.false))
