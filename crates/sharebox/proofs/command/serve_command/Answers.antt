use Rattle.std.proofs.Common.{refl}
use Rattle.sharebox.proofs.command.serve_command.Goals as goal

pub tool_command-requires-clause-serve : goal.tool_command-requires-clause-serve
tool_command-requires-clause-serve c = (rw c.in-Err-Unknown.field-0-is at c.in-Err-Unknown.ensures.fault) refl
