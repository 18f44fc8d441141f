use Rattle.sx_spec.proofs.ExampleReplies.{a_lease_meets_an_open}
use Rattle.sx_spec.proofs.examples.a_lease_meets_an_open.Goals as goal

pub returns : goal.returns
returns c = a_lease_meets_an_open
