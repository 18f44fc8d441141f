use Rattle.sx_names.proofs.FirstBroken.{part_law}
use Rattle.sx_names.proofs.part.part_fault.Goals as goal

pub returns-in-Ok-clause-rules : goal.returns-in-Ok-clause-rules
returns-in-Ok-clause-rules c = part_law c.args.part c.args.bytes.now

pub returns-in-Err-clause-rules : goal.returns-in-Err-clause-rules
returns-in-Err-clause-rules c = part_law c.args.part c.args.bytes.now
