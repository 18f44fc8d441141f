use Rattle.std.proofs.Common.{◌≡◌, false, subst, sym}
use Rattle.sx_guard.proofs.Pairs.{AllPairs-remove_first}
use Rattle.sx_spec.specs.Changes.{comes_before}
use Rattle.sx_spec.specs.Checks.{same_lock}
use Rattle.sx_state.specs.Guards.{AreLocks}
use Rattle.sx_state.proofs.locked.Locked.take.Goals as goal

pub invariant_of-self : goal.invariant_of-self
invariant_of-self c =
    subst AreLocks (sym c.drop_lock.ensures)
    (AllPairs-remove_first (λ a b. comes_before b a ≡ false) (same_lock c.args.old.now) c.self.inside.locks.items c.self.invariant)
