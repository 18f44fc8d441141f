use Rattle.std.proofs.Common.{◌≡◌, position, None}
use Rattle.sx_base.proofs.Firsts.{position_or_len-none}
use Rattle.sx_answer_reader.specs.Messages.{is_dot}
use Rattle.sx_answer_reader.proofs.messages.front_length.Goals as goal

pub returns-in-None-clause-place : goal.returns-in-None-clause-place
returns-in-None-clause-place c =
    let none : position is_dot c.args.word.now ≡ None = cc in
    position_or_len-none is_dot c.args.word.now none
