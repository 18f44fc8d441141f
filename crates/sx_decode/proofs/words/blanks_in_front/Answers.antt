use Rattle.std.proofs.Common.{◌≡◌, position, None}
use Rattle.sx_base.proofs.Firsts.{position_or_len-none}
use Rattle.sx_decode.specs.Words.{is_other}
use Rattle.sx_decode.proofs.words.blanks_in_front.Goals as goal

pub returns-in-None-clause-place : goal.returns-in-None-clause-place
returns-in-None-clause-place c =
    let none : position (is_other c.args.tabs) c.args.value.now ≡ None = cc in
    position_or_len-none (is_other c.args.tabs) c.args.value.now none
