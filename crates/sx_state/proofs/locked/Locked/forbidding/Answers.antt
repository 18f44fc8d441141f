use Rattle.std.proofs.Common.{◌∙◌, ap, ℕ, filter, find}
use Rattle.sx_spec.specs.Checks.{lock_forbids}
use Rattle.sx_state.specs.Guards.{asked_node, is_lock_on}
use Rattle.sx_state.proofs.LockRuns.{forbidding_on}
use Rattle.sx_state.proofs.locked.Locked.forbidding.Goals as goal

pub returns : goal.returns
returns c =
    let ask = c.args.ask.now in
    let locks =
    c.locks_on.ensures
    ∙ ap (λ (n : ℕ). filter (is_lock_on n) c.deref.result.now) c.asked_node.ensures
    ∙ ap (filter (is_lock_on (asked_node ask))) (c.deref.ensures.value ∙ c.self.view_is) in
    c.forbidding_lock.ensures ∙ ap (find (lock_forbids ask)) locks ∙ forbidding_on ask c.args.self.now
