use Rattle.sx_http.proofs.Exclusion.{reasons_determined, requests_have_none}
use Rattle.sx_http.proofs.laws.reasons_are_determined.Goals as goal

pub returns : goal.returns
returns c = record { one = reasons_determined; none = requests_have_none }
