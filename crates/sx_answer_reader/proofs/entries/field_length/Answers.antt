use Rattle.std.proofs.Common.{◌≡◌, position, None}
use Rattle.sx_base.proofs.Firsts.{position_or_len-none}
use Rattle.sx_answer_reader.specs.Entries.{is_colon}
use Rattle.sx_answer_reader.proofs.entries.field_length.Goals as goal

pub returns-in-None-clause-place : goal.returns-in-None-clause-place
returns-in-None-clause-place c =
    let none : position is_colon c.args.text.now ≡ None = cc in
    position_or_len-none is_colon c.args.text.now none
