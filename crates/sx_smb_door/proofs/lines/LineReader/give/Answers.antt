use Rattle.std.proofs.Common.{◌+◌, ◌≤◌, arith}
use Rattle.sx_lines.specs.declared.line.TheConstants.{LINE_LIMIT}
use Rattle.sx_smb_door.proofs.Splits.{one_front}
use Rattle.sx_smb_door.proofs.Answering.{long_answered, line_given}
use Rattle.sx_smb_door.proofs.lines.LineReader.give.Goals as goal

pub returns-then-place-gt-LINE_LIMIT-clause-answered : goal.returns-then-place-gt-LINE_LIMIT-clause-answered
returns-then-place-gt-LINE_LIMIT-clause-answered c left n =
    rw c.taken.ensures.value (long_answered c.args.self.now left n (one_front c.args.self.now.held c.args.place (LINE_LIMIT + 1) c.requires (omega (arith, c.if-place-gt-LINE_LIMIT.true))))

pub returns-in-Ok-clause-answered : goal.returns-in-Ok-clause-answered
returns-in-Ok-clause-answered c left n =
    let short : c.args.place ≤ LINE_LIMIT = omega (arith, c.if-place-gt-LINE_LIMIT.false) in
    line_given c.args.self.now c.cut_off.new.self c.in-Ok.line c.args.place left c.requires short c.in-Ok.ensures.ok.0 c.in-Ok.ensures.ok.1 c.in-Ok.ensures.within
