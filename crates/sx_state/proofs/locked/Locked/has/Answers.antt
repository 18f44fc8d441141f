use Rattle.std.proofs.Common.{◌≡◌, Some, None, position, sym}
use Rattle.sx_spec.specs.Checks.{same_lock}
use Rattle.sx_guard.proofs.Places.{place-Some, place-None}
use Rattle.sx_state.proofs.locked.Locked.has.Goals as goal

pub returns-in-Some : goal.returns-in-Some
returns-in-Some c =
    let e : position (same_lock c.args.old.now) c.args.self.now ≡ Some c.in-Some.field-0 = cc in
    sym (place-Some (same_lock c.args.old.now) c.args.self.now c.in-Some.field-0 e).0

pub returns-in-None : goal.returns-in-None
returns-in-None c =
    let e : position (same_lock c.args.old.now) c.args.self.now ≡ None = cc in
    sym (place-None (same_lock c.args.old.now) c.args.self.now e)
