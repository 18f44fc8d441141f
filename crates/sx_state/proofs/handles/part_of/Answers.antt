use Rattle.sx_state.proofs.Runs.{part_is}
use Rattle.sx_state.proofs.handles.part_of.Goals as goal

pub returns : goal.returns
returns c = part_is c.args.first c.args.past c.args.opens.now c.requires.order
