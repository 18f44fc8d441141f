use Rattle.std.proofs.Common.{refl}
use Rattle.sx_run.proofs.Crews.{new_by}
use Rattle.sx_run.proofs.Ending.{new_places}
use Rattle.sx_run_tests.proofs.workers.new_pass.Goals as goal

pub returns-clause-places : goal.returns-clause-places
returns-clause-places g c =
    new_places c.args.office.now c.args.main.now.limit c.in-Ok.pass (new_by c.args.office.now c.args.main.now.limit c.args.main.now c.in-Ok.pass c.requires.own refl c.in-Ok.ensures.new c.in-Ok.ensures.number.3)
