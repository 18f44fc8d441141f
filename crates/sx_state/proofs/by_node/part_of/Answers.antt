use Rattle.sx_state.proofs.Runs.{part_is}
use Rattle.sx_state.proofs.by_node.part_of.Goals as goal

pub returns : goal.returns
returns c = part_is c.args.first c.args.past c.args.nodes.now c.requires.order
