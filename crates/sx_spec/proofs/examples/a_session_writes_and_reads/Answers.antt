use Rattle.sx_spec.proofs.ExampleReplies.{a_session_writes_and_reads}
use Rattle.sx_spec.proofs.examples.a_session_writes_and_reads.Goals as goal

pub returns : goal.returns
returns c = a_session_writes_and_reads
