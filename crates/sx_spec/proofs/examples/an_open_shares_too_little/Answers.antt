use Rattle.sx_spec.proofs.ExampleReplies.{enough_is_shared, too_little_is_shared}
use Rattle.sx_spec.proofs.examples.an_open_shares_too_little.Goals as goal

pub returns : goal.returns
returns c = record { enough = enough_is_shared; too_little = too_little_is_shared }
