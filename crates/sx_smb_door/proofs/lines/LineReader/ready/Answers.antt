use Rattle.std.proofs.Common.{◌≡◌, position, None}
use Rattle.sx_smb_door.specs.Lines.{is_line_end}
use Rattle.sx_smb_door.proofs.Splits.{one_line}
use Rattle.sx_smb_door.proofs.lines.LineReader.ready.Goals as goal

pub refused-requires : goal.refused-requires
refused-requires c =
    let e : position is_line_end c.args.self.now.held ≡ None = cc in
    one_line c.args.self.now.held e
