use Rattle.std.proofs.Common.{◌≡◌, sym, ap, ◌∙◌, position, Some, None}
use Rattle.std.specs.List.{slice_set}
use Rattle.sx_base.proofs.Firsts.{change_position}
use Rattle.sx_guard.specs.Handle.{same_handle}
use Rattle.sx_call.specs.declared.opens.Open.{Open}
use Rattle.sx_spec.specs.SessionCalls.{with_mark}
use Rattle.sx_state.proofs.Changes.{change_none}
use Rattle.sx_state.proofs.handles.mark_open.Goals as goal

pub returns-in-None : goal.returns-in-None
returns-in-None c =
    let test = (λ (o : Open). same_handle c.args.handle o.handle) in
    let e : position test c.args.opens.now.items ≡ None = cc in
    sym (change_none test (with_mark c.args.on) c.args.opens.now.items e)

pub returns-in-Some : goal.returns-in-Some
returns-in-Some c =
    let test = (λ (o : Open). same_handle c.args.handle o.handle) in
    let e : position test c.args.opens.now.items ≡ Some c.in-Some.place = cc in
    let d = c.index_mut-open.result.now in
    ap (λ (x : Open). slice_set c.args.opens.now.items c.in-Some.place (with_mark c.args.on x)) c.index_mut-open.ensures.value
    ∙ change_position test (with_mark c.args.on) c.args.opens.now.items c.in-Some.place d e
