use Rattle.std.proofs.Common.{◌*◌, ap}
use Rattle.sx_base.proofs.date.read_date.Goals as goal

pub returns-in-Ok-clause-shown : goal.returns-in-Ok-clause-shown
returns-in-Ok-clause-shown c = (c.in-Ok.date, c.in-Ok.ensures.shown, ap (λ n. n * 10_000_000) c.unix_secs.ensures.value)
