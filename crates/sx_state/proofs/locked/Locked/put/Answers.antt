use Rattle.sx_guard.specs.Ordered.{insert_by}
use Rattle.sx_guard.proofs.Kept.{kept_by}
use Rattle.sx_spec.specs.Changes.{comes_before}
use Rattle.sx_state.specs.Guards.{AreLocks}
use Rattle.sx_state.proofs.LockRuns.{AreLocks-put}
use Rattle.sx_state.proofs.locked.Locked.put.Goals as goal

pub invariant_of-self : goal.invariant_of-self
invariant_of-self c =
    let locks = c.self.inside.locks.items in
    kept_by AreLocks c.insert_lock.result _ (insert_by comes_before c.args.added locks) locks c.insert_lock.ensures.ok c.insert_lock.ensures.err
    (AreLocks-put c.args.added locks c.self.invariant) c.self.invariant
