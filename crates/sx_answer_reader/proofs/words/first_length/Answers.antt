use Rattle.std.proofs.Common.{◌≡◌, position, None}
use Rattle.sx_base.proofs.Firsts.{position_or_len-none}
use Rattle.sx_lines.specs.Words.{is_space}
use Rattle.sx_answer_reader.proofs.words.first_length.Goals as goal

pub returns-in-None-clause-place : goal.returns-in-None-clause-place
returns-in-None-clause-place c =
    let none : position is_space c.args.text.now ≡ None = cc in
    position_or_len-none is_space c.args.text.now none
