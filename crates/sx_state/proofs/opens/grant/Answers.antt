use Rattle.std.proofs.Common.{◌≡◌, sym, ap, ◌∙◌, position, Some, None}
use Rattle.std.specs.List.{slice_set}
use Rattle.sx_base.proofs.Firsts.{change_position}
use Rattle.sx_call.specs.declared.opens.Live.{Live}
use Rattle.sx_spec.specs.Account.{is_session}
use Rattle.sx_spec.specs.Changes.{grant}
use Rattle.sx_state.proofs.Changes.{change_none}
use Rattle.sx_state.proofs.opens.grant.Goals as goal

pub returns-in-None : goal.returns-in-None
returns-in-None c =
    let e : position (is_session c.args.session) c.args.sessions.now.items ≡ None = cc in
    sym (change_none (is_session c.args.session) grant c.args.sessions.now.items e)

pub returns-in-Some : goal.returns-in-Some
returns-in-Some c =
    let e : position (is_session c.args.session) c.args.sessions.now.items ≡ Some c.in-Some.place = cc in
    let d = c.index_mut-live.result.now in
    ap (λ (x : Live). slice_set c.args.sessions.now.items c.in-Some.place (grant x)) c.index_mut-live.ensures.value
    ∙ change_position (is_session c.args.session) grant c.args.sessions.now.items c.in-Some.place d e
