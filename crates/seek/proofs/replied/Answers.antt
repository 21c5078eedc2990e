-- `seek::replied` meets its contract: each arm does what the definition says of its case; the exchange ends in the last.
use mathlib.Core.Path.{◌≡◌, refl, ap, ◌∙◌}
use Rattle.coordinator.specs.declared.Found.{Found}
use Rattle.steps.specs.After.{shows}
use Rattle.steps.specs.Seek.{answered}
use Rattle.steps.proofs.Shows.{leaves_as}
use Rattle.change.proofs.Making.{made}
use Rattle.seek.specs.Parts.{mac_place, version_in, found_at, teller}
use Rattle.seek.proofs.Answers.{leaves_answered, settles}
use Rattle.seek.proofs.replied.Goals as goal

pub returns-in-Discovered : goal.returns-in-Discovered
returns-in-Discovered c = λ p co t s k.
    let args = c.args in
    let who : c.found_at-told.result ≡ found_at args.payload.now (mac_place args.reply) (version_in args.reply args.packet co.found) = c.found_at-told.ensures ∙ rw (c.mac_place.ensures, c.version_in-version.ensures, s.state) refl in
    rw c.in-Discovered.is (leaves_answered (made c.answered.result p co t) args.out.now co t _ (c.answered.ensures p co t s k ∙ ap (λ (f : Found). shows (answered co t f)) (rw c.in-Discovered.is at who)))

pub returns-in-Identified : goal.returns-in-Identified
returns-in-Identified c = λ p co t s k.
    let args = c.args in
    let found : c.teller-found.result ≡ teller args.reply co.found (found_at args.payload.now (mac_place args.reply) (version_in args.reply args.packet co.found)) = c.teller-found.ensures ∙ rw (c.found_at-told.ensures, c.mac_place.ensures, c.version_in-version.ensures, s.state) refl in
    leaves_as (made c.settled.result p co t) args.out.now _ (settles args.reply args.position co t args.packet args.payload.now _ c.in-Identified.is) (rw found at (c.settled.ensures p co t s k))
