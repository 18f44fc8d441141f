use Rattle.std.proofs.Common.{◌≡◌, Some, None, position, sym, ◌∙◌}
use Rattle.sx_guard.proofs.Places.{place-None, remove-place, remove_first-none}
use Rattle.sx_spec.specs.Account.{has_handle}
use Rattle.sx_state.proofs.OpenRuns.{take_one}
use Rattle.sx_state.proofs.handles.drop_open.Goals as goal

pub returns-in-Some : goal.returns-in-Some
returns-in-Some c =
    let test = has_handle c.args.handle in
    let items = c.args.opens.now.items in
    let e : position test items ≡ Some c.in-Some.place = cc in
    c.remove.ensures.items ∙ remove-place test items c.in-Some.place e ∙ take_one c.args.handle items c.requires

pub returns-in-None : goal.returns-in-None
returns-in-None c =
    let test = has_handle c.args.handle in
    let items = c.args.opens.now.items in
    let e : position test items ≡ None = cc in
    sym (remove_first-none test items (place-None test items e)) ∙ take_one c.args.handle items c.requires
