use Rattle.sx_spec.proofs.ExampleReplies.{names_are_compared_folded}
use Rattle.sx_spec.proofs.examples.names_are_compared_folded.Goals as goal

pub returns : goal.returns
returns c = names_are_compared_folded
