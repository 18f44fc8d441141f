use Rattle.sx_spec.proofs.ExampleReplies.{a_file_with_an_open_is_made_anew}
use Rattle.sx_spec.proofs.examples.a_file_with_an_open_is_made_anew.Goals as goal

pub returns : goal.returns
returns c = a_file_with_an_open_is_made_anew
