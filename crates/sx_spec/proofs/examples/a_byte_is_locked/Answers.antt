use Rattle.sx_spec.proofs.ExampleReplies.{a_byte_is_locked}
use Rattle.sx_spec.proofs.examples.a_byte_is_locked.Goals as goal

pub returns : goal.returns
returns c = a_byte_is_locked
