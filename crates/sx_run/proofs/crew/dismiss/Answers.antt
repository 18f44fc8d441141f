use Rattle.std.proofs.Common.{[], ◌∷◌, ◌++◌, ◌≡◌, arith}
use Rattle.sx_run.specs.declared.crew.Worker.{Worker}
use Rattle.sx_run.proofs.Crews.{dismissed_none, dismissed_more}
use Rattle.sx_run.proofs.crew.dismiss.Goals as goal

pub loop-workers-init : goal.loop-workers-init
loop-workers-init g c = (dismissed_none _ c.args.main.now _ c.args.workers.now.items, c.requires.keep)

pub loop-workers-preserved : goal.loop-workers-preserved
loop-workers-preserved g c =
    let inv = c.loop-workers.invariant in
    let worker : Worker g.row.L.Denot g.row.C.Denot g.row.W.Denot = c.in-Some.worker in
    let left : c.loop-workers.workers.items ≡ c.pop-last.new.self.items ++ worker ∷ [] = c.in-Some.ensures.items in (
      dismissed_more g.L.Listener.links g.L.Listener.listen_count c.args.main.now c.loop-workers.main c.meet.new.into _ c.loop-workers.listener c.replace-fork.result c.replace-fork.new.dest c.rejoin.new.self
          c.args.workers.now.items c.loop-workers.workers.items c.pop-last.new.self.items worker c.loop-workers.crew c.add_report.new.crew inv.0 left c.meet.ensures.met c.meet.ensures.seen
          c.replace-fork.ensures.value c.replace-fork.ensures.after c.rejoin.ensures.links c.rejoin.ensures.cause c.add_report.ensures,
      omega (arith, c.loop-workers-test.true, c.len.ensures, c.in-Some.ensures.cases),
    )
