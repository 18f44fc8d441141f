use Rattle.std.proofs.Common.{◌≡◌}
use Rattle.sx_book.specs.Passes.{HoldsSession}
use Rattle.sx_book_tests.proofs.threads.run_lane.Given as goal

abbrev pub invariant-loop-file : goal.invariant-loop-file
invariant-loop-file g l = (l.lane.pass.office ≡ l.office) × HoldsSession l.lane.pass l.session
