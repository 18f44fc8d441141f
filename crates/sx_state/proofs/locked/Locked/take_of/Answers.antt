use Rattle.std.proofs.Common.{◌≡◌, false, not, subst, sym}
use Rattle.std.proofs.lemmas.List.Kept.{AllPairs-filter}
use Rattle.sx_guard.specs.Handle.{same_handle}
use Rattle.sx_spec.specs.Changes.{comes_before}
use Rattle.sx_state.specs.Guards.{AreLocks}
use Rattle.sx_state.proofs.locked.Locked.take_of.Goals as goal

pub invariant_of-self : goal.invariant_of-self
invariant_of-self c =
    subst AreLocks (sym c.drop_locks.ensures)
    (AllPairs-filter (λ a b. comes_before b a ≡ false) (λ l. not (same_handle c.args.handle l.held.handle)) c.self.inside.locks.items c.self.invariant)
