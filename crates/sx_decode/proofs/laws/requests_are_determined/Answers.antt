use Rattle.sx_decode.proofs.Determined.{determined}
use Rattle.sx_decode.proofs.laws.requests_are_determined.Goals as goal

pub returns : goal.returns
returns c = record { one = determined }
