use Rattle.sx_spec.proofs.ExampleReplies.{a_file_is_deleted_on_close}
use Rattle.sx_spec.proofs.examples.a_file_is_deleted_on_close.Goals as goal

pub returns : goal.returns
returns c = a_file_is_deleted_on_close
