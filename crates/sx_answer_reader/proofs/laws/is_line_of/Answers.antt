use Rattle.sx_answer_reader.proofs.DoorLines.{line_is}
use Rattle.sx_answer_reader.proofs.laws.is_line_of.Goals as goal

pub returns : goal.returns
returns c = line_is c.args.answer.now
