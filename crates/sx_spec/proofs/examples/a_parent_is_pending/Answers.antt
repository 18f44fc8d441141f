use Rattle.sx_spec.proofs.ExampleReplies.{a_parent_is_pending}
use Rattle.sx_spec.proofs.examples.a_parent_is_pending.Goals as goal

pub returns : goal.returns
returns c = a_parent_is_pending
