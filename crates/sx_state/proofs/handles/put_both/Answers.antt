use Rattle.sx_state.proofs.GuardLaws.{AreGuards-put}
use Rattle.sx_state.proofs.handles.put_both.Goals as goal

pub returns-in-Ok-insert_open-clause-kept : goal.returns-in-Ok-insert_open-clause-kept
returns-in-Ok-insert_open-clause-kept c =
    rw (c.in-Ok-insert_open.ensures.ok, c.insert_on.ensures, c.on_node-one.ensures, c.reserve.ensures.items)
    (AreGuards-put c.args.added c.args.opens.now.items c.args.nodes.now.items c.requires.guards c.requires.fresh)
