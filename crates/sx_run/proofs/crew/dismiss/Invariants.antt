use Rattle.std.proofs.Common.{◌≤◌, vec_len}
use Rattle.sx_run.specs.Crews.{AreDismissed}
use Rattle.sx_run.proofs.crew.dismiss.Given as goal

-- the workers that were dismissed so far: those behind the ones that are left
abbrev pub invariant-loop-workers : goal.invariant-loop-workers
invariant-loop-workers g l =
    AreDismissed (λ l. record { links = g.L.Listener.links l; faults = g.L.Listener.listen_count l }) l.fn.main l.main
    (record { links = g.L.Listener.links l.fn.listener; faults = g.L.Listener.listen_count l.fn.listener })
    (record { links = g.L.Listener.links l.listener; faults = g.L.Listener.listen_count l.listener })
    l.fn.workers.items l.workers.items l.crew
    × (l.fn.keep ≤ vec_len l.workers)

abbrev pub decreases-loop-workers : goal.decreases-loop-workers
decreases-loop-workers g l = vec_len l.workers
