use Rattle.std.proofs.Common.{◌≡◌, Some, not, filter, rules}
use Rattle.std.proofs.lemmas.Fn.{filter_same}
use Rattle.sx_guard.specs.Locks.{is_held_by}
use Rattle.sx_guard.proofs.Kept.{AreLocks-filter}
use Rattle.sx_guard.proofs.locks.Locks.drop_all.Goals as goal

pub invariant_of-self : goal.invariant_of-self
invariant_of-self c =
    let e : c.retain.new.self.items ≡ filter (λ lock. not (is_held_by (Some c.args.by) lock)) c.self.inside.locks.items =
    filter_same _ _ _ (λ x b f' k. search rules) _ _ c.retain.ensures.filtered in
    rw e (AreLocks-filter (λ lock. not (is_held_by (Some c.args.by) lock)) c.self.inside.locks.items c.self.invariant)

pub returns : goal.returns
returns c = rw (← c.self.view_is) (filter_same _ _ _ (λ x b f' k. search rules) _ _ c.retain.ensures.filtered)
