use Rattle.std.proofs.Common.{◌≡◌, ◌∙◌, Some, None, ap, position, sym}
use Rattle.sx_base.proofs.Firsts.{find_position, find_none}
use Rattle.sx_spec.specs.Account.{has_handle}
use Rattle.sx_state.proofs.handles.open_of.Goals as goal

pub returns-in-Some : goal.returns-in-Some
returns-in-Some c =
    let e : position (has_handle c.args.handle) c.args.opens.now ≡ Some c.in-Some.place = sym c.place_of.ensures ∙ c.in-Some.is in
    ap Some c.index-opens-place.is
    ∙ sym (find_position (has_handle c.args.handle) c.args.opens.now c.in-Some.place c.index-opens-place.result e)

pub returns-in-None : goal.returns-in-None
returns-in-None c =
    let e : position (has_handle c.args.handle) c.args.opens.now ≡ None = cc in
    sym (find_none (has_handle c.args.handle) c.args.opens.now e)
