use Rattle.sx_spec.proofs.ExampleReplies.{handles_are_closed_by_scope}
use Rattle.sx_spec.proofs.examples.handles_are_closed_by_scope.Goals as goal

pub returns : goal.returns
returns c = handles_are_closed_by_scope
