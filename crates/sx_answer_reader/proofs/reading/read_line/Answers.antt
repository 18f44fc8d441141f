use Rattle.sx_answer_reader.proofs.Answered.{read_is}
use Rattle.sx_answer_reader.proofs.reading.read_line.Goals as goal

pub returns : goal.returns
returns c = read_is c.answer_of.result c.args.line.now c.answer_of.ensures
