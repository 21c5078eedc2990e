-- `seek::discover` meets its contract: the two tests in the order of the rules, and past them the search.
use mathlib.Core.Path.{refl}
use lib.ListN.{length}
use Rattle.refusal.specs.declared.Refusal.TheVariants.{Busy, Held}
use Rattle.steps.proofs.Shows.{leaves_as}
use Rattle.change.proofs.Making.{makes_refusal, made}
use Rattle.join.proofs.Seen.{busy_seen}
use Rattle.seek.proofs.Seen.{held_seen}
use Rattle.seek.proofs.Discovery.{discover_busy, discover_held, discover_searches}
use Rattle.seek.proofs.discover.Goals as goal

pub returns-then-is_busy : goal.returns-then-is_busy
returns-then-is_busy c = λ p co t s k.
    let args = c.args in
    leaves_as (made c.refusing.result p co t) args.out.now _ (discover_busy co t (length args.out.now) s.fit (busy_seen s c.is_busy.ensures) c.if-is_busy.true) (makes_refusal p co t Busy c.refusing.ensures, refl)

pub returns-then-is_held_back : goal.returns-then-is_held_back
returns-then-is_held_back c = λ p co t s k.
    let args = c.args in
    leaves_as (made c.refusing-then-is_held_back.result p co t) args.out.now _ (discover_held co t (length args.out.now) s.fit (busy_seen s c.is_busy.ensures) c.if-is_busy.false (held_seen s c.is_held_back.ensures) c.if-is_held_back.true) (makes_refusal p co t Held c.refusing-then-is_held_back.ensures, refl)

pub returns : goal.returns
returns c = λ p co t s k.
    let args = c.args in
    leaves_as (made c.search.result p co t) args.out.now _ (discover_searches co t (length args.out.now) s.fit (busy_seen s c.is_busy.ensures) c.if-is_busy.false (held_seen s c.is_held_back.ensures) c.if-is_held_back.false) (c.search.ensures p co t s k)
