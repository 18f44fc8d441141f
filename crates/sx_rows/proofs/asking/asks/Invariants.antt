use Rattle.std.proofs.Common.{◌≡◌}
use Rattle.sx_book.specs.Passes.{IsSamePass, KeepsSessions}
use Rattle.sx_rows.proofs.asking.asks.Given as goal

abbrev pub invariant-loop-row : goal.invariant-loop-row
invariant-loop-row g l = (l.pass.office ≡ l.office) × KeepsSessions l.fn.pass l.pass × IsSamePass l.fn.pass l.pass
