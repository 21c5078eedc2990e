-- `panel::setup` meets its contract: the fresh start, and the records cleared that it says.
use Rattle.lent.proofs.InPlace.{setup_in_place}
use Rattle.panel.proofs.setup.Goals as goal

pub returns : goal.returns
returns c = setup_in_place c.args.coordinator.now c.args.nodes.now c.args.addresses.now c.args.subnet c.args.internal c.args.mac c.args.session _ c.begin-begun.result c.begin-begun.ensures c.amend.ensures
