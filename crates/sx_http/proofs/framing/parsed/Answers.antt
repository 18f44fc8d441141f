use Rattle.sx_http.proofs.Digits.{not_number}
use Rattle.sx_http.proofs.framing.parsed.Goals as goal

pub returns-in-Err : goal.returns-in-Err
returns-in-Err c = not_number c.args.digits.now c.requires c.in-Err.ensures.value
