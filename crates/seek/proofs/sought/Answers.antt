-- `seek::sought` meets its contract: what the reply does, or its refusal.
use mathlib.Core.Path.{refl, sym, ap}
use lib.ListN.{length}
use Rattle.std.specs.Prelude.{Result}
use Rattle.refusal.specs.declared.Refusal.{Refusal}
use Rattle.accept.specs.declared.Reply.{Reply}
use Rattle.steps.specs.Seek.{replied_as}
use Rattle.steps.proofs.Shows.{leaves_as}
use Rattle.change.proofs.Making.{makes_refusal, made}
use Rattle.seek.proofs.sought.Goals as goal

pub returns-in-Ok : goal.returns-in-Ok
returns-in-Ok c = λ p co t s k.
    let args = c.args in
    leaves_as (made c.replied.result p co t) args.out.now _ (ap (λ (reply : Result Reply Refusal). replied_as reply args.position co t args.header.packet args.payload.now (length args.out.now)) (sym (c.in-Ok.ensures co s.setup s.state))) (c.replied.ensures p co t s k)

pub returns-in-Err : goal.returns-in-Err
returns-in-Err c = λ p co t s k.
    let args = c.args in
    leaves_as (made c.refusing.result p co t) args.out.now _ (ap (λ (reply : Result Reply Refusal). replied_as reply args.position co t args.header.packet args.payload.now (length args.out.now)) (sym (c.in-Err.ensures co s.setup s.state))) (makes_refusal p co t _ c.refusing.ensures, refl)
