use Rattle.sx_spec.proofs.ExampleReplies.{a_holder_meets_its_own_shared_lock}
use Rattle.sx_spec.proofs.examples.a_holder_meets_its_own_shared_lock.Goals as goal

pub returns : goal.returns
returns c = a_holder_meets_its_own_shared_lock
