use Rattle.sx_answers.proofs.Rows.{rest_printed}
use Rattle.sx_answers.proofs.laws.rest_replies_are_printed.Goals as goal

pub returns : goal.returns
returns c = rest_printed
