use Rattle.std.proofs.Common.{◌∙◌, sym}
use Rattle.sx_state.proofs.OpenRuns.{session_ends, session_run}
use Rattle.sx_state.proofs.handles.held_by.Goals as goal

pub part_of-requires-clause-order : goal.part_of-requires-clause-order
part_of-requires-clause-order c = rw (c.first_held_by-first.ensures, c.past_held_by-past.ensures.place) (session_ends c.args.session c.args.opens.now)

pub returns : goal.returns
returns c =
    c.part_of.ensures
    ∙ rw (c.first_held_by-first.ensures, c.past_held_by-past.ensures.place) (sym (session_run c.args.session c.args.opens.now c.requires))
