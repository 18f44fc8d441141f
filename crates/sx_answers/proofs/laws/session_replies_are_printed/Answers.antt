use Rattle.sx_answers.proofs.Rows.{session_printed}
use Rattle.sx_answers.proofs.laws.session_replies_are_printed.Goals as goal

pub returns : goal.returns
returns c = session_printed
