use Rattle.std.proofs.Common.{◌≡◌, Some, None, position, sym}
use Rattle.sx_guard.proofs.Places.{place-Some, place-None}
use Rattle.sx_spec.specs.Account.{has_handle}
use Rattle.sx_state.proofs.handles.has_open.Goals as goal

pub returns-in-Some : goal.returns-in-Some
returns-in-Some c =
    let e : position (has_handle c.args.handle) c.args.opens.now ≡ Some c.in-Some.field-0 = cc in
    sym (place-Some (has_handle c.args.handle) c.args.opens.now c.in-Some.field-0 e).0

pub returns-in-None : goal.returns-in-None
returns-in-None c =
    let e : position (has_handle c.args.handle) c.args.opens.now ≡ None = cc in
    sym (place-None (has_handle c.args.handle) c.args.opens.now e)
