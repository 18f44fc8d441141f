use Rattle.sx_spec.proofs.Closing.{end_answers, close_answers, close_refused}
use Rattle.sx_spec.proofs.laws.closing_cannot_fail.Goals as goal

pub returns : goal.returns
returns c = record { end = end_answers; close = close_answers; absent = close_refused }
