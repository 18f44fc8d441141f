use Rattle.sx_http.proofs.Determined.{heads_determined}
use Rattle.sx_http.proofs.laws.heads_are_determined.Goals as goal

pub returns : goal.returns
returns c = record { one = heads_determined }
