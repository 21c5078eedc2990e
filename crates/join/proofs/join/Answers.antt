-- `join::join` meets its contract: a verdict that refuses refuses the step, and one that does not makes what the rules say.
use mathlib.Core.Path.{◌≡◌, ap, sym, ◌∙◌}
use mathlib.Core.Bool.{true}
use Rattle.board.specs.Node.{is_mac}
use Rattle.steps.specs.After.{shows}
use Rattle.steps.specs.Join.{chosen}
use Rattle.change.proofs.Making.{makes_refusal}
use Rattle.join.proofs.Seen.{known_seen, chosen_seen, many_seen}
use Rattle.join.proofs.Verdict.{join_taken, join_refused, join_made}
use Rattle.join.proofs.join.Goals as goal

pub returns-in-Err : goal.returns-in-Err
returns-in-Err c = λ p co t s k.
    let args = c.args in
    let q = c.in-Err.refusal in
    let own = known_seen s k.2 args.mac c.lowest_mac-own.ensures in
    let verdict = c.in-Err.ensures co t s (λ m. many_seen s _ args.kind args.version k.0 k.1 (own m) c.version_of-joining.ensures c.too_many_with-many.ensures) (λ m. chosen_seen s args.mac k.0 (own m) c.chosen-position.ensures) in
    makes_refusal p co t q c.refusing.ensures ∙
    sym (ap shows (join_refused co t args.kind args.mac args.session args.version s.fit q (sym verdict)))

pub returns : goal.returns
returns c = λ p co t s k.
    let args = c.args in
    let own = known_seen s k.2 args.mac c.lowest_mac-own.ensures in
    let place : is_mac args.mac ≡ true → c.chosen-position.result ≡ chosen t co.setup.k args.mac = λ m. chosen_seen s args.mac k.0 (own m) c.chosen-position.ensures in
    let verdict = c.in_default.ensures co t s (λ m. many_seen s _ args.kind args.version k.0 k.1 (own m) c.version_of-joining.ensures c.too_many_with-many.ensures) place in
    join_made co t args.kind args.mac args.session args.version (join_taken co t args.kind args.mac args.session args.version s.fit (sym verdict)) p place c.resting.ensures
