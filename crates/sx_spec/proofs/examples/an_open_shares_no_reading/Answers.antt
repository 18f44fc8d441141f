use Rattle.sx_spec.proofs.ExampleReplies.{no_reading_is_shared}
use Rattle.sx_spec.proofs.examples.an_open_shares_no_reading.Goals as goal

pub returns : goal.returns
returns c = no_reading_is_shared
