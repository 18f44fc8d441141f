use Rattle.std.proofs.Common.{◌∙◌, ap, filter, find}
use Rattle.sx_spec.specs.Account.{is_held_by}
use Rattle.sx_state.proofs.OpenRuns.{first_of_session}
use Rattle.sx_state.proofs.handles.Opens.first_of.Goals as goal

pub returns : goal.returns
returns c =
    let keep = is_held_by c.args.session in
    c.first_held.ensures
    ∙ ap (find keep) (c.held_by.ensures ∙ ap (filter keep) (c.deref.ensures.value ∙ c.self.view_is))
    ∙ first_of_session c.args.session c.args.self.now
