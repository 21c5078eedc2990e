-- `seek::search` meets its contract: 16 where no position is free; else Node Discovery is written, or finds no room.
use mathlib.Core.Path.{refl}
use lib.ListN.{length}
use Rattle.refusal.specs.declared.Refusal.TheVariants.{Full}
use Rattle.steps.proofs.Shows.{leaves_as}
use Rattle.change.proofs.Making.{makes_refusal, made}
use Rattle.seek.proofs.Seen.{free_seen}
use Rattle.seek.proofs.Discovery.{no_place, makes_searched, leaves_searched}
use Rattle.seek.proofs.search.Goals as goal

pub returns-then-position-eq0 : goal.returns-then-position-eq0
returns-then-position-eq0 c = λ p co t s k.
    let args = c.args in
    leaves_as (made c.refusing.result p co t) args.out.now _ (no_place co t (length args.out.now) (free_seen s k c.lowest-position.ensures) c.if-position-eq0.true) (makes_refusal p co t Full c.refusing.ensures, refl)

pub returns-in-Ok : goal.returns-in-Ok
returns-in-Ok c = λ p co t s k.
    let args = c.args in
    let place = free_seen s k c.lowest-position.ensures in
    leaves_searched co t (made c.changing.result p co t) args.out.now _ place c.if-position-eq0.false c.write_discovery.result c.write_discovery.ensures (rw c.in-Ok.is (makes_searched p co t _ place c.changing.ensures))

pub returns-in-Err : goal.returns-in-Err
returns-in-Err c = λ p co t s k.
    let args = c.args in
    leaves_searched co t (made c.refusing-in-Err.result p co t) args.out.now _ (free_seen s k c.lowest-position.ensures) c.if-position-eq0.false c.write_discovery.result c.write_discovery.ensures (rw c.in-Err.is (makes_refusal p co t _ c.refusing-in-Err.ensures))
