use Rattle.sx_spec.proofs.ExampleReplies.{a_snapshot_asks_nothing_of_others}
use Rattle.sx_spec.proofs.examples.a_snapshot_asks_nothing_of_others.Goals as goal

pub returns : goal.returns
returns c = a_snapshot_asks_nothing_of_others
