-- `panel::step` meets its contract: what was seen, what was decided on it and the change made are the step.
use mathlib.Core.Path.{refl, ap, ◌∙◌}
use Rattle.look.specs.Digest.{digest_all}
use Rattle.panel.proofs.Looked.{stepped_in_place}
use Rattle.panel.proofs.step.Goals as goal

pub returns : goal.returns
returns c =
    let seen = c.look-seen.ensures in
    let noted = seen.1.1.0 ∙ seen.1.1.1 ∙ ap (digest_all c.args.coordinator.now.setup.k c.args.nodes.now) c.new-digest.ensures in
    stepped_in_place c.args.coordinator.now c.args.nodes.now c.args.event c.args.received.now c.args.out.now _ _ _ _ c.counted-change.result _ _ _ (seen.0, (seen.1.0, noted)) c.record_at-node.ensures refl c.counted-change.ensures c.make.ensures
