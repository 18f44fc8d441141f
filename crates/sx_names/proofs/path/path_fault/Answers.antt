use Rattle.sx_names.proofs.FirstBroken.{path_law}
use Rattle.sx_names.proofs.path.path_fault.Goals as goal

pub returns-in-Some-clause-rules : goal.returns-in-Some-clause-rules
returns-in-Some-clause-rules c = path_law c.args.texts.now

pub returns-clause-rules : goal.returns-clause-rules
returns-clause-rules c = path_law c.args.texts.now
