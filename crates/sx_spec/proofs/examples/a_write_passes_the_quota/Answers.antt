use Rattle.sx_spec.proofs.ExampleReplies.{a_write_passes_the_quota}
use Rattle.sx_spec.proofs.examples.a_write_passes_the_quota.Goals as goal

pub returns : goal.returns
returns c = a_write_passes_the_quota
