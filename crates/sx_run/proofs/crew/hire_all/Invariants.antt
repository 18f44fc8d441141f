use Rattle.std.proofs.Common.{◌≡◌, ◌+◌, List, vec_len}
use Rattle.sx_run.specs.declared.crew.Worker.{Worker}
use Rattle.sx_run.specs.Crews.{AreHired, Told}
use Rattle.sx_run.proofs.crew.hire_all.Given as goal

-- the workers that were hired so far
abbrev pub invariant-loop-left : goal.invariant-loop-left
invariant-loop-left g l =
    (l.main ≡ record l.fn.main { seen = l.main.seen; known = l.main.known })
    × ((given : Told g.row.L-Link.Denot) (before : List (Worker g.row.L.Denot g.row.C.Denot g.row.W.Denot)) →
    AreHired (λ l. record { links = g.L.Listener.links l; faults = g.L.Listener.listen_count l }) l.fn.office l.fn.main.limit l.fn.door given
    (record { links = g.L.Listener.links l.fn.listener; faults = g.L.Listener.listen_count l.fn.listener }) before l.fn.workers.items →
    AreHired (λ l. record { links = g.L.Listener.links l; faults = g.L.Listener.listen_count l }) l.fn.office l.fn.main.limit l.fn.door given
    (record { links = g.L.Listener.links l.listener; faults = g.L.Listener.listen_count l.listener }) before l.workers.items)
    × (vec_len l.workers + l.left ≡ vec_len l.fn.workers + l.fn.count)

abbrev pub decreases-loop-left : goal.decreases-loop-left
decreases-loop-left g l = l.left
