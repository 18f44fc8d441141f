use Rattle.std.proofs.Common.{◌≡◌}
use Rattle.sx_book.specs.Passes.{IsSamePass, KeepsSessions}
use Rattle.sx_rows.proofs.upload.upload_all.Given as goal

abbrev pub invariant-loop-number : goal.invariant-loop-number
invariant-loop-number g l = (l.pass.office ≡ l.office) × KeepsSessions l.fn.pass l.pass × IsSamePass l.fn.pass l.pass
