use Rattle.sx_http.proofs.Determined.{determined}
use Rattle.sx_http.proofs.laws.requests_are_determined.Goals as goal

pub returns : goal.returns
returns c = record { one = determined }
