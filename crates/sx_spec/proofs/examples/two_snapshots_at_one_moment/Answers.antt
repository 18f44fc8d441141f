use Rattle.sx_spec.proofs.ExampleReplies.{two_snapshots_at_one_moment}
use Rattle.sx_spec.proofs.examples.two_snapshots_at_one_moment.Goals as goal

pub returns : goal.returns
returns c = two_snapshots_at_one_moment
