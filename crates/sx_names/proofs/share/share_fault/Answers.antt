use Rattle.sx_names.proofs.FirstBroken.{share_law}
use Rattle.sx_names.proofs.share.share_fault.Goals as goal

pub returns-in-Some-clause-rules : goal.returns-in-Some-clause-rules
returns-in-Some-clause-rules c = share_law c.args.bytes.now

pub returns-in-Some-hyphens-clause-rules : goal.returns-in-Some-hyphens-clause-rules
returns-in-Some-hyphens-clause-rules c = share_law c.args.bytes.now

pub returns-clause-rules : goal.returns-clause-rules
returns-clause-rules c = share_law c.args.bytes.now
