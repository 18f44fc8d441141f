use Rattle.std.proofs.Common.{◌≡◌, ◌==◌, position, None}
use Rattle.sx_base.proofs.Firsts.{position_or_len-none}
use Rattle.sx_decode.proofs.parameters.place_of.Goals as goal

pub returns-in-None-clause-place : goal.returns-in-None-clause-place
returns-in-None-clause-place c =
    let none : position (λ b. b == c.args.byte) c.args.text.now ≡ None = cc in
    position_or_len-none (λ b. b == c.args.byte) c.args.text.now none
