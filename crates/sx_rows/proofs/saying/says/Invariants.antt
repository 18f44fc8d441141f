use Rattle.std.proofs.Common.{◌≡◌}
use Rattle.sx_book.specs.Passes.{HoldsSession, IsSamePass, KeepsSessions}
use Rattle.sx_rows.proofs.saying.says.Given as goal

abbrev pub invariant-loop-row : goal.invariant-loop-row
invariant-loop-row g l =
    (l.pass.office ≡ l.office) × HoldsSession l.pass l.session × KeepsSessions l.fn.pass l.pass
    × IsSamePass l.fn.pass l.pass
