use Rattle.std.proofs.Common.{◌≡◌, position, None, not, bytes_eq}
use Rattle.sx_base.proofs.Firsts.{position_or_len-none}
use Rattle.sx_key.specs.declared.fields.Field.{Field}
use Rattle.sx_key.proofs.fields.leading.Goals as goal

pub returns-in-None-clause-place : goal.returns-in-None-clause-place
returns-in-None-clause-place c =
    let none : position (λ (f : Field). not (bytes_eq f.name c.args.name.now)) c.args.fields.now ≡ None = cc in
    position_or_len-none (λ (f : Field). not (bytes_eq f.name c.args.name.now)) c.args.fields.now none
