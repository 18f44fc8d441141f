use Rattle.sx_lines.proofs.SpelledOpens.{spelled}
use Rattle.sx_lines.proofs.spelled.says.Goals as goal

pub returns : goal.returns
returns c =
    let s = spelled c.args.call.now c.requires.within c.requires.bytes c.requires.door in
    record { says = s.0; text = s.1 }
