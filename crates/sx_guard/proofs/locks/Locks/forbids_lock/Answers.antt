use Rattle.std.proofs.Common.{subst, ◌∙◌, rules, tests}
use Rattle.std.proofs.lemmas.Iterator.{YieldsList-from_slice}
use Rattle.std.proofs.lemmas.Iterator.Search.{find_from_yields_List}
use Rattle.sx_guard.specs.Locks.{AreLocks, forbids_lock}
use Rattle.sx_guard.proofs.Kept.{IsLeast-locks}
use Rattle.sx_guard.proofs.locks.Locks.forbids_lock.Goals as goal

pub returns-clause-first : goal.returns-clause-first
returns-clause-first c =
    c.copied.ensures
    ∙ find_from_yields_List (forbids_lock c.args.exclusive c.args.from c.args.end) _ _ c.find.result c.find.ensures.ran (YieldsList-from_slice c.args.self.now cc)
    (λ x b q k. search (rules, tests))

pub returns-clause-least : goal.returns-clause-least
returns-clause-least c =
    IsLeast-locks (forbids_lock c.args.exclusive c.args.from c.args.end) c.args.self.now c.copied.result (returns-clause-first c)
    (subst AreLocks c.self.view_is c.self.invariant)
