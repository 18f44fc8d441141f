use Rattle.std.proofs.Common.{arith}
use Rattle.sx_run.proofs.Crews.{hired_on, looked_on, failed_since}
use Rattle.sx_run.proofs.crew.hire_all.Goals as goal

pub loop-left-preserved : goal.loop-left-preserved
loop-left-preserved g c =
    let inv = c.loop-left.invariant in (
      looked_on c.args.main.now c.loop-left.main c.hire.new.main inv.0 c.hire.ensures.main,
      (λ given before h. hired_on _ c.args.office.now c.args.main.now c.loop-left.main c.args.door given _ _ before c.loop-left.workers.items c.hire.new.workers.items inv.0 (c.hire.ensures.hired given before) (inv.1 given before h)),
      omega (arith, inv.2, c.in-Ok.ensures.more, c.loop-left-test.true),
    )

pub returns-in-Err-clause-hired : goal.returns-in-Err-clause-hired
returns-in-Err-clause-hired g c given before h =
    let inv = c.loop-left.invariant in
    hired_on _ c.args.office.now c.args.main.now c.loop-left.main c.args.door given _ _ before c.loop-left.workers.items c.hire.new.workers.items inv.0 (c.hire.ensures.hired given before) (inv.1 given before h)

pub returns-in-Err-clause-fault : goal.returns-in-Err-clause-fault
returns-in-Err-clause-fault g c is given before h =
    failed_since _ c.args.office.now c.args.main.now.limit c.args.door given _ _ before c.loop-left.workers.items c.hire.new.workers.items c.in-Err.ensures.same (c.in-Err.ensures.fault is) (c.loop-left.invariant.1 given before h)
