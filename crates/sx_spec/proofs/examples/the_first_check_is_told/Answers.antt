use Rattle.sx_spec.proofs.ExampleReplies.{the_first_check_is_told}
use Rattle.sx_spec.proofs.examples.the_first_check_is_told.Goals as goal

pub returns : goal.returns
returns c = the_first_check_is_told
