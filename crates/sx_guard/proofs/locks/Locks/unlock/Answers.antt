use Rattle.std.proofs.Common.{◌≡◌, Some, None, position, sym, ◌∙◌}
use Rattle.sx_guard.specs.Locks.{is_lock}
use Rattle.sx_guard.proofs.Places.{place-Some, place-None, remove-place, remove_first-none}
use Rattle.sx_guard.proofs.locks.Locks.unlock.Goals as goal

pub returns-in-Some-clause-there : goal.returns-in-Some-clause-there
returns-in-Some-clause-there c =
    let test = is_lock c.args.by c.args.from c.args.end c.args.exclusive in
    let e : position test c.args.self.now ≡ Some c.in-Some.at = cc in
    sym (place-Some test c.args.self.now c.in-Some.at e).0

pub returns-in-Some-clause-unlocked : goal.returns-in-Some-clause-unlocked
returns-in-Some-clause-unlocked c =
    let test = is_lock c.args.by c.args.from c.args.end c.args.exclusive in
    let e : position test c.self.inside.locks.items ≡ Some c.in-Some.at = cc in
    rw (← c.self.view_is) (c.remove.ensures.items ∙ remove-place test c.self.inside.locks.items c.in-Some.at e)

pub returns-in-None-clause-there : goal.returns-in-None-clause-there
returns-in-None-clause-there c =
    let test = is_lock c.args.by c.args.from c.args.end c.args.exclusive in
    let e : position test c.args.self.now ≡ None = cc in
    sym (place-None test c.args.self.now e)

pub returns-in-None-clause-unlocked : goal.returns-in-None-clause-unlocked
returns-in-None-clause-unlocked c =
    let test = is_lock c.args.by c.args.from c.args.end c.args.exclusive in
    let e : position test c.args.self.now ≡ None = cc in
    sym (remove_first-none test c.args.self.now (place-None test c.args.self.now e))
