use Rattle.std.proofs.Common.{◌∙◌, sym}
use Rattle.sx_state.proofs.OpenRuns.{node_ends, node_run}
use Rattle.sx_state.proofs.by_node.opens_on.Goals as goal

pub part_of-requires-clause-order : goal.part_of-requires-clause-order
part_of-requires-clause-order c = rw (c.first_on-first.ensures, c.past_on-past.ensures.place) (node_ends c.args.id c.args.nodes.now)

pub returns : goal.returns
returns c =
    c.part_of.ensures
    ∙ rw (c.first_on-first.ensures, c.past_on-past.ensures.place) (sym (node_run c.args.id c.args.nodes.now c.requires))
