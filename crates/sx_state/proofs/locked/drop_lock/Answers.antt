use Rattle.std.proofs.Common.{◌≡◌, Some, None, position, sym, ◌∙◌}
use Rattle.sx_spec.specs.Checks.{same_lock}
use Rattle.sx_guard.proofs.Places.{place-None, remove-place, remove_first-none}
use Rattle.sx_state.proofs.locked.drop_lock.Goals as goal

pub returns-in-Some : goal.returns-in-Some
returns-in-Some c =
    let test = same_lock c.args.old.now in
    let e : position test c.args.locks.now.items ≡ Some c.in-Some.place = cc in
    c.remove.ensures.items ∙ remove-place test c.args.locks.now.items c.in-Some.place e

pub returns-in-None : goal.returns-in-None
returns-in-None c =
    let test = same_lock c.args.old.now in
    let e : position test c.args.locks.now.items ≡ None = cc in
    sym (remove_first-none test c.args.locks.now.items (place-None test c.args.locks.now.items e))
