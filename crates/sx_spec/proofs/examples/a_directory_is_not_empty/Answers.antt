use Rattle.sx_spec.proofs.ExampleReplies.{a_directory_is_not_empty}
use Rattle.sx_spec.proofs.examples.a_directory_is_not_empty.Goals as goal

pub returns : goal.returns
returns c = a_directory_is_not_empty
