use Rattle.std.proofs.Common.{refl}
use Rattle.sx_names.proofs.FirstBroken.{whole_law}
use Rattle.sx_names.proofs.path.whole_fault.Goals as goal

pub returns-clause-rules : goal.returns-clause-rules
returns-clause-rules c = whole_law c.args.parts.now (c.if-are_long_parts.ensures.names refl)
