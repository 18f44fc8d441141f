use Rattle.std.proofs.Common.{◌≡◌, None, find}
use Rattle.sx_guard.specs.Ordered.{insert_by}
use Rattle.sx_guard.specs.Locks.{RangeLock, AreLocks, forbids_lock, lock_before}
use Rattle.sx_guard.proofs.Kept.{AreLocks-insert, kept_by}
use Rattle.sx_guard.proofs.locks.Locks.lock.Goals as goal

pub invariant_of-self : goal.invariant_of-self
invariant_of-self c =
    let locks = c.self.inside.locks.items in
    let l : RangeLock = record { handle = c.args.by; from = c.args.from; end = c.args.end; exclusive = c.args.exclusive } in
    let free : find (forbids_lock c.args.exclusive c.args.from c.args.end) locks ≡ None = cc in
    kept_by AreLocks c.insert_ordered.result _ (insert_by lock_before l locks) locks c.insert_ordered.ensures.ok c.insert_ordered.ensures.err
    (AreLocks-insert l locks c.requires free c.self.invariant) c.self.invariant
